-- What of the records that answer goes to the trunk, and what to clients.
use Rattle.std.proofs.Common.{◌≡◌, ◌++◌, ◌∷◌, ◌∙◌, ℕ, suc, List, []}
use Rattle.std.proofs.Common.{length, map, flat_map, refl, sym, ap, arith, append_assoc, append-nil}
use Rattle.std.specs.List.{AllByRecursion}
use Rattle.std.proofs.lemmas.List.{length-map}
use Rattle.gw_switch.specs.declared.GatewayConfig.{GatewayConfig}
use Rattle.gw_switch.specs.Events.{CircuitEvent, Event, octets}
use Rattle.gw_switch.specs.Whole.{whole_from, reply_to}
use Rattle.gw_records.specs.Records.{IsGood}
use Rattle.gw_session.specs.Answers.{octets_in}
use Rattle.gw_session.specs.Serve as session
use Rattle.gw_session.specs.Serve.{SessionInput, Turn, octet_of, events_in, events_through, events_of_turns, octets_for}
use Rattle.gw_session.specs.Serve.{given_by, written, served_kinds, coming, arrivals}
use Rattle.gw_session.proofs.Turns.{given_by-append, turns_have_octets}
use Rattle.gw_trunk.specs.Bodies.RecordPosition.{Kind}
use Rattle.gw_trunk.specs.Bodies.{passed, to_clients, place_behind}
use Rattle.run_trunk.specs.Serving.{answers_for, answer_in}
use Rattle.gw_trunk.proofs.Passing.{place_append, passed-append, answered-append, record-passes}

-- The answers to events and more are those to the first, and then those to the others.
answers-append : (config : GatewayConfig) (before xs ys : List Event)
    → answers_for config before (xs ++ ys) ≡ answers_for config before xs ++ answers_for config (before ++ xs) ys
answers-append config before [] ys = rw (append-nil) refl
answers-append config before (x ∷ xs) ys =
    let one : List ℕ = answer_in x (reply_to config before x) in
    ap (λ (zs : List ℕ). one ++ zs) (answers-append config (before ++ x ∷ []) xs ys)
    ∙ rw (append_assoc before (x ∷ []) xs)
    (sym (append_assoc one (answers_for config (before ++ x ∷ []) xs) (answers_for config (before ++ x ∷ xs) ys)))

-- Datagrams that come before events have no answer.
coming-unanswered : (config : GatewayConfig) (ds : List (ℕ × List ℕ)) (before es : List Event)
    → ((b : List Event) → answers_for config b es ≡ []) → answers_for config before (coming ds ++ es) ≡ []
coming-unanswered config [] before es quiet = quiet before
coming-unanswered config (d ∷ ds) before es quiet =
    coming-unanswered config ds (before ++ Event.Given d.0 (CircuitEvent.Datagram d.1) ∷ []) es quiet

-- No client has an answer to the events of turns.
turns-unanswered : (config : GatewayConfig) (ts : List Turn) (before : List Event)
    → answers_for config before (events_of_turns ts) ≡ []
turns-unanswered config [] before = refl
turns-unanswered config (t ∷ ts) before =
    rw (append_assoc (coming (arrivals t)) (Event.Octet t.octet ∷ []) (events_of_turns ts))
    (coming-unanswered config (arrivals t) before (Event.Octet t.octet ∷ events_of_turns ts)
    (λ b. turns-unanswered config ts (b ++ Event.Octet t.octet ∷ [])))

-- One octet is sent for each that is heard.
one-for-each : (config : GatewayConfig) (before es : List Event)
    → length (flat_map octets_in (whole_from config before es)) ≡ length (octets es)
one-for-each config before [] = refl
one-for-each config before (Event.Octet o ∷ es) = ap suc (one-for-each config (before ++ Event.Octet o ∷ []) es)
one-for-each config before (e ∷ es) = one-for-each config (before ++ e ∷ []) es

-- The octets of the trunk that are sent with turns are as many as the turns.
as-many : (config : GatewayConfig) (before : List Event) (ts : List Turn)
    → length (octets_for config before (events_of_turns ts)) ≡ length ts
unfolding given_by
as-many config before ts = one-for-each config before (events_of_turns ts) ∙ turns_have_octets ts

-- What answers an input passes the octets that are sent with it and the answers to it, and the next record begins
-- behind it.
input-passes : (config : GatewayConfig) (before : List Event) (input : SessionInput)
    → IsGood served_kinds (session.input_record input)
    → (place_behind Kind (session.answer_to config before input) ≡ Kind)
    × (passed Kind (session.answer_to config before input) ≡ octets_for config before (events_in input))
    × (to_clients Kind (session.answer_to config before input) ≡ answers_for config before (events_in input))
unfolding place_behind passed to_clients session.answer_to given_by
input-passes config before (SessionInput.Trunk ts) good =
    let body = octets_for config before (events_of_turns ts) in
    let passes = record-passes body (omega (arith, as-many config before ts, good.1, length-map ts octet_of)) in
    (passes.0, passes.1, passes.2 ∙ sym (turns-unanswered config ts before))
input-passes config before (SessionInput.Datagram circuit bytes) good = cc (good.0)
input-passes config before (SessionInput.Command circuit command) good = (refl, refl, refl)
input-passes config before (SessionInput.Codec circuit codec payload_type) good = (refl, refl, refl)

-- What answers inputs passes the octets that are sent with them and the answers to them, and the next record begins
-- behind it.
pub inputs-pass : (config : GatewayConfig) (before : List Event) (inputs : List SessionInput)
    → AllByRecursion (IsGood served_kinds) (map session.input_record inputs)
    → (place_behind Kind (written config before inputs) ≡ Kind)
    × (passed Kind (written config before inputs) ≡ octets_for config before (events_through inputs))
    × (to_clients Kind (written config before inputs) ≡ answers_for config before (events_through inputs))
unfolding place_behind passed to_clients given_by
inputs-pass config before [] good = (refl, refl, refl)
inputs-pass config before (input ∷ inputs) good =
    let one = input-passes config before input good.0 in
    let more = inputs-pass config (before ++ events_in input) inputs good.1 in (
      place_append Kind (session.answer_to config before input) _ ∙ rw (one.0) more.0,
      passed-append Kind (session.answer_to config before input) _ ∙ rw (one.0, one.1, more.1)
          (sym (given_by-append octets_in config before (events_in input) (events_through inputs))),
      answered-append Kind (session.answer_to config before input) _ ∙ rw (one.0, one.2, more.2)
          (sym (answers-append config before (events_in input) (events_through inputs))),
    )
