-- Sessions in which datagrams come as records alone, and packets go out as records.
use Rattle.gw_session.proofs.Common.{◌≡◌, inl, inr, ◌<◌, ℕ, Option, None, Some, List, [], ◌∷◌, common_steps, ◌++◌}
use Rattle.gw_session.proofs.Common.{length, map, flat_map, refl, sym, ap, ◌∙◌, append_assoc, append-nil, length-append}
use Rattle.gw_session.proofs.Common.{arith, AllByRecursion, Appends, map-append, map_push, length-map, flat_map_more}
use Rattle.gw_session.proofs.Common.{flat_map-append, GatewayConfig, Gateway, Event, HasHistory, Reply, whole_from}
use Rattle.gw_session.proofs.Common.{Totals, Record, SinkState, AppendsBut, at_most, nothing_counted, Waiting, counted}
use Rattle.gw_session.proofs.Common.{AppendsBut-behind, Written, written_out, packets_in, as_record, answers, events_of}
use Rattle.gw_session.proofs.Common.{events, render, replies_to, is_refusal, SessionInput, Turn, input_record, octet_of}
use Rattle.gw_session.proofs.Common.{turns_of, turns, events_in, events_through, events_of_turns, of_circuit, arrivals}
use Rattle.gw_session.proofs.Common.{behind_four, FirstFour, PortTrace, Follows, given_by, octets_for, dropped_for}
use Rattle.gw_session.proofs.Common.{answer_to, but_last, SessionTrace, TapeState, SessionState, state_of, world_in, output_of, false}
use Rattle.gw_session.proofs.Common.{spelled_for, written_for, written_by, CutTrace, TraceToWriteError, count_by}
use Rattle.gw_session.proofs.Common.{take_all, take_at, record_of, AppendsBut-same, AppendsBut-more, five, trunk_octets}
use Rattle.gw_session.proofs.Common.{run_totals, RunsThrough, AreFirst, RunsUntilWrite, in_record, no_ports, first_four}
use Rattle.gw_session.proofs.Common.{Shows, RecordsShown, InputsShown, OfFirst, WatchedTrace}
use Rattle.gw_session.proofs.Turns.{PortTrace-join, LeavesOut_all, counted_is}
use Rattle.gw_session.proofs.Attending.{but_last_more}
use Rattle.gw_session.proofs.Cutting.{answered_first}
use Rattle.gw_session.proofs.Exchanging.{spelled_for-append}
use Rattle.gw_session.proofs.ServeLaws.{unmoved}
use Rattle.gw_session.proofs.Watching.{none_among, shown_alike}

-- turns before which nothing came
abbrev Plain : List Turn → Type 0
Plain ts = AllByRecursion (λ t. arrivals t ≡ []) ts

-- where nothing waits, none of it comes, and nothing waits behind it
none_comes : (v : Waiting) (circuit : Option ℕ) (came : List (List ℕ)) → ((c : ℕ) → v c ≡ [])
    → came ≡ first_four v circuit → (of_circuit circuit came ≡ []) × ((c : ℕ) → behind_four v circuit c ≡ [])
none_comes v None came e h = (refl, e)
none_comes v (Some circuit) came e h = (grind (arith, common_steps))

-- where nothing waits, nothing comes in any turn
none_came : (v w : Waiting) (ts : List Turn) → ((c : ℕ) → v c ≡ []) → FirstFour v w ts → Plain ts
none_came v w [] e h = tt
none_came v w (t ∷ ts) e h =
    let none = none_comes v t.circuit t.came e h.0 in
    (none.0, none_came (behind_four v t.circuit) w ts none.1 h.1)

-- where nothing waits nothing comes
plain_trades : (ts : List Turn) → PortTrace no_ports no_ports ts → Plain ts
plain_trades ts p =
    none_came _ _ ts (λ c. refl) (p.firsts (unmoved 0 p.failed_receives (omega arith) (sym p.receives)))

-- where nothing came in turns and in more, nothing came in either part
plain_parts : (xs ys : List Turn) → Plain (xs ++ ys) → Plain xs × Plain ys
plain_parts [] ys p = (tt, p)
plain_parts (x ∷ xs) ys p = let r = plain_parts xs ys p.1 in ((p.0, r.0), r.1)

-- the events of such turns
turns_events : (ts : List Turn) → Plain ts → events_of_turns ts ≡ map Event.Octet (map octet_of ts)
turns_events [] p = refl
turns_events (t ∷ ts) p = rw (p.0, turns_events ts p.1)

-- where nothing came before its octets, the events of an input are those of its record
input_events : (input : SessionInput) → Plain (turns_of input) → events_in input ≡ events_of (input_record input)
input_events (SessionInput.Trunk ts) p = turns_events ts p
input_events _ p = refl

-- .. and so for inputs one after another
inputs_events : (inputs : List SessionInput) → Plain (turns inputs)
    → events_through inputs ≡ events (map input_record inputs)
inputs_events [] p = refl
inputs_events (input ∷ inputs) p =
    let q = plain_parts (turns_of input) (turns inputs) p in
    rw (input_events input q.0, inputs_events inputs q.1)

-- what answers a record after these events, and what answers records, as octets
abbrev render_one : GatewayConfig → List Event → Record → List ℕ
render_one config before r = flat_map written_out (answers r (whole_from config before (events_of r)))

abbrev render_all : GatewayConfig → List Event → List Record → List ℕ
render_all config before records = render records (replies_to config before records)

-- what answers records is what answers the first, and then the others
render_first : (config : GatewayConfig) (before : List Event) (r : Record) (records : List Record)
    → render_all config before (r ∷ records)
    ≡ render_one config before r ++ render_all config (before ++ events_of r) records
render_first config before r records =
    ap (flat_map written_out) (answered_first config before r records) ∙ flat_map-append written_out _ _

-- packets put their records, in front of the record of the octets
packets_put : (ps : List (ℕ × List ℕ)) (sent : List ℕ) → flat_map in_record ps ++ record_of 0x54 0 sent
    ≡ flat_map written_out (map as_record ps ++ Written.Trunk sent ∷ [])
packets_put [] sent = sym (append-nil (record_of 0x54 0 sent))
packets_put (p ∷ ps) sent =
    append_assoc (in_record p) (flat_map in_record ps) (record_of 0x54 0 sent)
    ∙ ap (λ (xs : List ℕ). in_record p ++ xs) (packets_put ps sent)

-- what the packets of octets put, and then the record of the octets that are sent, answer their record
trunk_written : (config : GatewayConfig) (before : List Event) (octets : List ℕ)
    → spelled_for in_record config before (map Event.Octet octets)
    ++ record_of 0x54 0 (octets_for config before (map Event.Octet octets))
    ≡ render_one config before (Record.Trunk octets)
unfolding spelled_for given_by
trunk_written config before octets = packets_put _ _

-- what is put for an input is what answers its record
input_written : (config : GatewayConfig) (before : List Event) (input : SessionInput) → Plain (turns_of input)
    → written_for in_record config before input ≡ render_one config before (input_record input)
unfolding written_for spelled_for answer_to given_by
input_written config before (SessionInput.Trunk ts) p = rw (turns_events ts p) (trunk_written config before
    (map octet_of ts))
input_written config before _ p = refl

-- what answers the records of inputs, and then more records, is what is put for the inputs, and then their answers
inputs_written : (config : GatewayConfig) (before : List Event) (inputs : List SessionInput) (records : List Record)
    → Plain (turns inputs) → render_all config before (map input_record inputs ++ records)
    ≡ written_by in_record config before inputs ++ render_all config (before ++ events_through inputs) records
inputs_written config before [] records p = rw (append-nil before)
inputs_written config before (input ∷ inputs) records p =
    let q = plain_parts (turns_of input) (turns inputs) p in
    render_first config before (input_record input) (map input_record inputs ++ records)
    ∙ rw (
      ← input_written config before input q.0,
      ← input_events input q.0,
      inputs_written config (before ++ events_in input) inputs records q.1,
      append_assoc before (events_in input) (events_through inputs),
      append_assoc,
    )

-- what is put for inputs is what answers their records
all_written : (config : GatewayConfig) (before : List Event) (inputs : List SessionInput) → Plain (turns inputs)
    → written_by in_record config before inputs ≡ render_all config before (map input_record inputs)
all_written config before inputs p = sym (simp append-nil at (inputs_written config before inputs [] p))

-- counts
up_to : {t n m : ℕ} → t ≡ counted 0 n → n ≡ m → t ≡ at_most m
up_to {n = n} p q = let e = counted_is 0 n (omega arith) in omega (arith, e, p, q)

-- inputs have as many turns as their trunk records have octets
as_many_octets : (inputs : List SessionInput)
    → length (turns inputs) ≡ length (flat_map trunk_octets (map input_record inputs))
as_many_octets [] = refl
as_many_octets (SessionInput.Trunk ts ∷ inputs) = omega (
  arith,
  as_many_octets inputs,
  length-map ts octet_of,
  length-append ts (turns inputs),
  length-append (map octet_of ts) (flat_map trunk_octets (map input_record inputs)),
)
as_many_octets (_ ∷ inputs) = as_many_octets inputs

-- where a session over records alone stands
abbrev at_records : Gateway → Totals → SessionState
at_records g t = state_of no_ports g t

-- the totals of inputs are those of a session that had the replies to their records
plain_totals : {g g' : Gateway} {t : Totals} {x y : TapeState} {inputs : List SessionInput}
    {put : GatewayConfig → List Event → List SessionInput → List ℕ} {Had : Option (List ℕ) → List ℕ → Type 0}
    → Follows put Had (at_records g nothing_counted) (at_records g' t) x y inputs → Plain (turns inputs)
    → (config : GatewayConfig) (before : List Event) → HasHistory config g before
    → t ≡ run_totals (map input_record inputs) (replies_to config before (map input_record inputs))
unfolding given_by dropped_for
plain_totals {inputs = inputs} d plain config before at =
    let h = d.goes.hears config before at in
    let k = d.goes.trades in
    let sent : k.failed_sends ≡ 0 = unmoved 0 k.failed_sends (omega arith) (sym k.sends) in
    let received : k.failed_receives ≡ 0 = unmoved 0 k.failed_receives (omega arith) (sym k.receives) in
    let same = ap (whole_from config before) (inputs_events inputs plain) in
    let took = LeavesOut_all k.took _ (rw (sent, append-nil) at h.packets) in
    five (up_to d.records (sym (length-map inputs input_record))) (up_to d.trunk_octets (as_many_octets inputs))
    (up_to d.goes.datagrams (ap length took ∙ ap (λ (rs : List Reply). length (flat_map packets_in rs)) same))
    (up_to h.dropped (ap (count_by is_refusal) same)) (rw (received, sent) at d.goes.faults)

-- a session went through records
pub runs : {Had : Option (List ℕ) → List ℕ → Type 0} {g g' : Gateway} {x y : TapeState} {s s' : SinkState} (t : Totals) (records : List Record)
    → SessionTrace (written_by in_record) Had (at_records g nothing_counted) (at_records g' t) x y
    (λ first. Appends s.taken s'.taken) records
    → RunsThrough g g' s s' t records
runs t records p =
    let plain = plain_trades (turns p.inputs) p.follows.goes.trades in
    rw (← p.told_are) (λ config before at. record {
      stands = rw (inputs_events p.inputs plain) at ((p.follows.goes.hears config before at).stands);
      took = rw (all_written config before p.inputs plain) at (p.took config before at);
      totals_are = plain_totals p.follows plain config before at;
    })

-- all the events of a record are its first
are_all : (r : Record) → AreFirst r (events_of r)
are_all (Record.Trunk octets) =
    (length octets, ap (map Event.Octet) (sym (take_all (length octets) octets (omega arith))))
are_all _ = refl

-- records of which there are some have a last one
last_of : {X : Type 0} (xs : List X) → 0 < length xs → (first : List X) × (last : X) × (xs ≡ first ++ last ∷ [])
last_of [] h = absurd (omega (arith, h))
last_of (x ∷ []) h = ([], x, refl)
last_of (x ∷ y ∷ xs) h = let l = last_of (y ∷ xs) (omega arith) in (x ∷ l.0, l.1, ap (λ zs. x ∷ zs) l.2)

-- .. and a write failed when it had acted on the last one
whole_until : {Had : Option (List ℕ) → List ℕ → Type 0} {g g' : Gateway} {x y : TapeState} {s s' : SinkState} {t : Totals} (records : List Record)
    → 0 < length records
    → SessionTrace (written_by in_record) Had (at_records g nothing_counted) (at_records g' t) x y
    (AppendsBut 65536 s.taken s'.taken) records
    → RunsUntilWrite g g' s s' records
whole_until records some p =
    let l = last_of p.inputs (omega (arith, some, ap length p.told_are, length-map p.inputs input_record)) in
    let all : records ≡ map input_record l.0 ++ input_record l.1 ∷ [] = sym p.told_are ∙ ap (map input_record) l.2
    ∙ map_push input_record l.0 l.1 in
    let plain = plain_trades (turns p.inputs) p.follows.goes.trades in
    let early = (plain_parts (turns l.0) (turns_of l.1) (rw (l.2, ← flat_map_more turns_of [] l.0 l.1) at plain)).0 in
    record {
      records = map input_record l.0;
      last = input_record l.1;
      all = all;
      acted = events_of (input_record l.1);
      first = are_all (input_record l.1);
      stands = λ config before at.
          rw (
            inputs_events p.inputs plain,
            p.told_are,
            all,
            ← flat_map_more events_of [] (map input_record l.0)
                (input_record l.1),
          ) at
          ((p.follows.goes.hears config before at).stands);
      took = λ config before at. AppendsBut-same
          (ap (λ (xs : List SessionInput). written_by in_record config before (but_last xs)) l.2
          ∙ ap (written_by in_record config before) (but_last_more l.0 l.1) ∙ all_written config before l.0 early)
          (all_written config before p.inputs plain
          ∙ ap (render_all config before) p.told_are) (p.took config before at);
    }

-- what is put for inputs and the first turns of one more stands first in what answers their records
cut_written : (config : GatewayConfig) (before : List Event) (inputs : List SessionInput) (heard : List Turn)
    (rest : List ℕ)
    → Plain (turns inputs) → Plain heard → (more : List ℕ) × ((written_by in_record config before inputs
    ++ spelled_for in_record config (before ++ events_through inputs) (events_of_turns heard)) ++ more
    ≡ render_all config before (map input_record inputs ++ Record.Trunk (map octet_of heard ++ rest) ∷ []))
cut_written config before inputs heard rest p q =
    let now = before ++ events_through inputs in
    let octets = map octet_of heard ++ rest in
    let first = map Event.Octet (map octet_of heard) in
    let more = spelled_for in_record config (now ++ first) (map Event.Octet rest) in (
      more ++ record_of 0x54 0 (octets_for config now (map Event.Octet octets)),
      rw (
        inputs_written config before inputs (Record.Trunk octets ∷ []) p,
        turns_events heard q,
        render_first config now (Record.Trunk octets) [],
        append-nil,
        ← trunk_written config now octets,
        map-append Event.Octet (map octet_of heard) rest,
        spelled_for-append in_record config now first (map Event.Octet rest),
      ) (simp append_assoc),
    )

-- .. or the first octets of it
cut_until : {g g' : Gateway} {x y : TapeState} {t : Totals} {s s' : SinkState} (begun : List Record)
    → CutTrace 65536 in_record (world_in false no_ports g nothing_counted x (output_of s [])) (world_in false no_ports g' t y (output_of s' [])) begun
    → RunsUntilWrite g g' s s' begun
cut_until begun p =
    let k = p.trace in
    let z = p.stops in
    let joined = PortTrace-join no_ports p.between.state.ports no_ports (turns k.inputs) z.turns k.follows.goes.trades
    z.trades in
    let plain = plain_parts (turns k.inputs) z.turns (plain_trades (turns k.inputs ++ z.turns) joined) in
    let heard = map octet_of z.turns in
    let later = λ (config : GatewayConfig) (before : List Event) (at : HasHistory config _ before).
    (k.follows.goes.hears config before at).stands in
    record {
      records = p.records;
      last = Record.Trunk p.octets;
      all = p.all;
      acted = map Event.Octet heard;
      first = (length heard, ap (map Event.Octet) (rw (z.split, take_at heard z.rest (length heard) refl)));
      stands = grind (arith, inputs_events k.inputs plain.0, turns_events z.turns plain.1, append_assoc);
      took = λ config before at.
          let w = cut_written config before k.inputs z.turns z.rest plain.0 plain.1 in
          let cut = AppendsBut-behind 65536 _ _ _ _ _ _ p.few (k.took config before at)
          (z.took config (before ++ events_through k.inputs) (later config before at)) in
          rw (p.all, ← k.told_are, z.split)
          (AppendsBut-same (all_written config before k.inputs plain.0) w.1 (AppendsBut-more w.0 cut));
    }

-- where nothing came before their octets, the events of inputs are those of their records, one by one
each_events : (inputs : List SessionInput) → Plain (turns inputs)
    → map events_in inputs ≡ map events_of (map input_record inputs)
each_events [] p = refl
each_events (input ∷ inputs) p =
    let q = plain_parts (turns_of input) (turns inputs) p in
    rw (input_events input q.0, each_events inputs q.1)

-- what a watch is shown of inputs is what it is shown of their records
shown_plain : {W : Type 0} {shows : Shows W} {g : Gateway} {w w' : W} {last : List Event}
    (inputs : List SessionInput) → Plain (turns inputs) → InputsShown shows g w w' inputs last
    → RecordsShown shows g w w' (map input_record inputs) last
shown_plain inputs p seen = rw (each_events inputs p) at seen

-- a session that was watched
pub seen_plain : {W : Type 0} {shows : Shows W} {w w' : W} {g g' : Gateway} {t : Totals} {x y : TapeState}
    {Had : Option (List ℕ) → List ℕ → Type 0} {Took : List ℕ → List ℕ → Type 0} {records : List Record}
    → WatchedTrace (written_by in_record) Had (at_records g nothing_counted) (at_records g' t) x y Took
    (λ inputs. InputsShown shows g w w' inputs []) records
    → RecordsShown shows g w w' records []
seen_plain p = rw (p.0.told_are) at (shown_plain p.0.inputs (plain_trades
    (turns p.0.inputs) p.0.follows.goes.trades) p.1)

-- the first records of those that were begun, which a watch was shown, and the events of the last one
seen_first : {W : Type 0} {shows : Shows W} {w w' : W} {g g' : Gateway} {x y : TapeState} {t : Totals}
    {Had : Option (List ℕ) → List ℕ → Type 0} {Took : List ℕ → List ℕ → Type 0} (records : List Record) (first : List SessionInput) (last : SessionInput)
    → (p : SessionTrace (written_by in_record) Had (at_records g nothing_counted) (at_records g' t) x y Took records)
    → p.inputs ≡ first ++ last ∷ [] → InputsShown shows g w w' first (events_in last)
    → OfFirst (RecordsShown shows g w w') records
seen_first records first last p all seen =
    let plain = plain_trades (turns p.inputs) p.follows.goes.trades in
    let parts = plain_parts (turns first) (turns_of last) (rw (all, ← flat_map_more turns_of [] first last) at plain) in
    inr (grind (arith, map_push input_record first last, input_events last parts.1, shown_plain first parts.0 seen))

-- where a write failed in the first octets of a record, a watch was shown the records before it
seen_before : {W : Type 0} {shows : Shows W} {w w' : W} {g g' : Gateway} {x y : TapeState} {t : Totals}
    {s s' : SinkState} (begun : List Record)
    → (p : CutTrace 65536 in_record (world_in false no_ports g nothing_counted x (output_of s [])) (world_in false no_ports g' t y (output_of s' [])) begun)
    → InputsShown shows g w w' p.trace.inputs (events_of_turns p.stops.turns)
    → OfFirst (RecordsShown shows g w w') begun
seen_before begun p seen =
    let k = p.trace in
    let z = p.stops in
    let joined = PortTrace-join no_ports p.between.state.ports no_ports (turns k.inputs) z.turns k.follows.goes.trades
    z.trades in
    let plain = plain_parts (turns k.inputs) z.turns (plain_trades (turns k.inputs ++ z.turns) joined) in
    let octets = map octet_of z.turns in
    let known = rw (k.told_are, turns_events z.turns plain.1) at (shown_plain k.inputs plain.0 seen) in
    inr (
      p.records,
      Record.Trunk p.octets,
      p.all,
      shown_alike (map Event.Octet octets) (map Event.Octet p.octets)
          (λ config now. rw (none_among config now 0 octets, none_among config now 0 p.octets) refl) known,
    )

-- where a write failed, the records begun ran up to that write, and a watch was shown all, or all but the last and
-- the events of that
pub runs_until : {W : Type 0} {shows : Shows W} {w w' : W} {g g' : Gateway} {x y : TapeState} {s s' : SinkState}
    (records : List Record)
    → TraceToWriteError 65536 in_record (InputsShown shows g w w') (world_in false no_ports g nothing_counted x (output_of s []))
    (λ totals. world_in false no_ports g' totals y (output_of s' [])) records
    → RunsUntilWrite g g' s s' records × OfFirst (RecordsShown shows g w w') records
runs_until records v = elim v.1 [
  | inl p ↦ (
    whole_until records p.0 p.1.0,
    elim p.1.1 [
      | inl all ↦ inl (seen_plain (p.1.0, all))
      | inr (first, last, all, seen) ↦ seen_first records first last p.1.0 all seen
    ],
  )
  | inr p ↦ (cut_until records p.0, seen_before records p.0 p.1)
]
