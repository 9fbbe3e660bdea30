-- Records of the same events answer as the inputs did.
use Rattle.gw_session.proofs.Common.{◌≡◌, ℕ, List, [], ◌∷◌, ◌++◌, refl, sym, ap, ◌∙◌, append_assoc, append-nil, map}
use Rattle.gw_session.proofs.Common.{flat_map, flat_map-append, GatewayConfig, Event, Reply, reply_to, whole_from}
use Rattle.gw_session.proofs.Common.{Record, Written, written_out, answers, trunk_in, datagrams_in, code_of, octets_in}
use Rattle.gw_session.proofs.Common.{packets_in, SessionInput, Turn, events_through, events_in, events_of_turns, coming}
use Rattle.gw_session.proofs.Common.{arrivals, answer_to, octets_for, packets_for, given_by, written, all_answers}
use Rattle.gw_session.proofs.Common.{answers_to, command_in, RecordingsAnswerAlike, Datagram, Command, Codec}
use Rattle.gw_session.specs.Answers as records_of
use Rattle.gw_session.proofs.Cutting.{Splits, given_by-splits, trunk_has, trunk_is, datagrams_are, all_of}

-- what answers inputs, by what answers each
live_of : {X : Type 0} (f : Written → List X) {h : GatewayConfig → List Event → List Event → List X} → Splits h
    → ((config : GatewayConfig) (before : List Event) (input : SessionInput)
    → flat_map f (answers_to config before input) ≡ h config before (events_in input))
    → (config : GatewayConfig) (before : List Event) (inputs : List SessionInput)
    → flat_map f (all_answers config before inputs) ≡ h config before (events_through inputs)
live_of f s each config before [] = sym (s.none config before)
live_of f s each config before (input ∷ inputs) =
    rw (flat_map-append, each, live_of f s each config (before ++ events_in input) inputs, s.more)

-- the trunk octets in the records that answer an input are those that are sent for its events
trunk_input : (config : GatewayConfig) (before : List Event) (input : SessionInput)
    → flat_map trunk_in (answers_to config before input) ≡ octets_for config before (events_in input)
unfolding given_by
trunk_input config before (SessionInput.Trunk ts) = append-nil (octets_for config before (events_of_turns ts))
trunk_input config before input = refl

-- the answer to an event, if it is a command or a codec
abbrev obeys : Event → Reply → List (ℕ × ℕ × ℕ)
obeys (Event.Given circuit (Command command)) reply = (circuit, 0x43, code_of reply) ∷ []
obeys (Event.Given circuit (Codec kind payload_type)) reply = (circuit, 0x4B, code_of reply) ∷ []
obeys _ reply = []

-- the answers to the commands among events
obeyed : GatewayConfig → List Event → List Event → List (ℕ × ℕ × ℕ)
obeyed config before [] = []
obeyed config before (e ∷ es) = obeys e (reply_to config before e) ++ obeyed config (before ++ e ∷ []) es

-- the answers to the commands among events and more are those of the first, and then those of the others
obeyed-append : (config : GatewayConfig) (before xs ys : List Event)
    → obeyed config before (xs ++ ys) ≡ obeyed config before xs ++ obeyed config (before ++ xs) ys
unfolding obeyed
obeyed-append config before [] ys = rw append-nil
obeyed-append config before (e ∷ xs) ys =
    rw (obeyed-append config (before ++ e ∷ []) xs ys, append_assoc before (e ∷ []) xs) (simp append_assoc)

-- .. so they are a word that splits
obeyed-splits : Splits obeyed
unfolding obeyed
obeyed-splits = record { none = λ config before. refl; more = obeyed-append }

-- octets and datagrams have none
none_obeyed : (config : GatewayConfig) (before : List Event) (octets : List ℕ)
    → obeyed config before (map Event.Octet octets) ≡ []
unfolding obeyed
none_obeyed config before [] = refl
none_obeyed config before (o ∷ octets) = none_obeyed config (before ++ Event.Octet o ∷ []) octets

-- datagrams that come before events without commands add no answer to a command
none_coming : (config : GatewayConfig) (before : List Event) (ds : List (ℕ × List ℕ)) (es : List Event)
    → ((b : List Event) → obeyed config b es ≡ []) → obeyed config before (coming ds ++ es) ≡ []
unfolding obeyed
none_coming config before [] es none = none before
none_coming config before (d ∷ ds) es none =
    none_coming config (before ++ Event.Given d.0 (Datagram d.1) ∷ []) ds es none

-- the events of turns have no command to answer
none_turns : (config : GatewayConfig) (before : List Event) (ts : List Turn)
    → obeyed config before (events_of_turns ts) ≡ []
unfolding obeyed
none_turns config before [] = refl
none_turns config before (t ∷ ts) =
    rw append_assoc (none_coming config before (arrivals t) (Event.Octet t.octet ∷ events_of_turns ts)
    (λ b. none_turns config (b ++ Event.Octet t.octet ∷ []) ts))

-- the answers to commands in what answers a record are those to the commands among its events
commands_one : (config : GatewayConfig) (before : List Event) (r : Record)
    → flat_map command_in (answers r (whole_from config before (records_of.events_of r)))
    ≡ obeyed config before (records_of.events_of r)
unfolding obeyed
commands_one config before (Record.Trunk octets) =
    trunk_has command_in (λ circuit octets. refl) config before octets ∙ sym (none_obeyed config before octets)
commands_one config before r = refl

-- the answers to commands in the records that answer an input are those to the commands among its events
commands_input : (config : GatewayConfig) (before : List Event) (input : SessionInput)
    → flat_map command_in (answers_to config before input) ≡ obeyed config before (events_in input)
unfolding obeyed
commands_input config before (SessionInput.Trunk ts) = sym (none_turns config before ts)
commands_input config before input = refl

-- what was written
written_input : (config : GatewayConfig) (before : List Event) (input : SessionInput)
    → answer_to config before input ≡ flat_map written_out (answers_to config before input)
unfolding answer_to
written_input config before (SessionInput.Trunk ts) = rw append-nil
written_input config before input = refl

-- what was written for inputs is the records that answer them, written out
written_live : (config : GatewayConfig) (before : List Event) (inputs : List SessionInput)
    → written config before inputs ≡ flat_map written_out (all_answers config before inputs)
written_live config before [] = refl
written_live config before (input ∷ inputs) =
    rw (written_input, written_live config (before ++ events_in input) inputs, flat_map-append)

-- records of the same events as those of inputs answer as the inputs did: octets, datagrams and commands
pub answer_alike : RecordingsAnswerAlike
answer_alike config before inputs records e = record {
  live = written_live config before inputs;
  trunk = all_of trunk_in (given_by-splits octets_in) trunk_is config before records ∙ ap (octets_for config before) e
      ∙ sym (live_of trunk_in (given_by-splits octets_in) trunk_input config before inputs);
  datagrams = all_of datagrams_in (given_by-splits packets_in) datagrams_are config before records
      ∙ ap (packets_for config before) e;
  commands = all_of command_in obeyed-splits commands_one config before records ∙ ap (obeyed config before) e
      ∙ sym (live_of command_in obeyed-splits commands_input config before inputs);
}
