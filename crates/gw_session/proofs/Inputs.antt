-- Records that are acted on.
use Rattle.gw_session.proofs.Common.{◌≡◌, inl, ◌+◌, ◌-◌, ◌^◌, ◌<◌, ℕ, min, List, [], ◌∷◌, ◌++◌, length, Result, Ok, Err}
use Rattle.gw_session.proofs.Common.{common_steps, refl, sym, ap, ◌∙◌, append_assoc, arith, length-map, record_of}
use Rattle.gw_session.proofs.Common.{GatewayConfig, Gateway, Event, HasHistory, reply_to, Totals, RunFault, Record}
use Rattle.gw_session.proofs.Common.{TakesAllButWaiting, at_most, Appends-none, TakesAllButWaiting-join}
use Rattle.gw_session.proofs.Common.{AppendsPrefix-behind, PacketOutput, counted, Written, written_out, code_of}
use Rattle.gw_session.proofs.Common.{SessionInput, input_record, turns_of, events_in, events_of_turns, octet_of}
use Rattle.gw_session.proofs.Common.{answer_to, packets_for, dropped_for, TakesEvent, spelled_for, written_for}
use Rattle.gw_session.proofs.Common.{Exchanges, ActsOn, TapeState, Recorded, Output, World, Puts}
use Rattle.gw_session.proofs.Common.{TakesAllButWaiting-same, AppendsPrefix-same, sent_with_octets, Inputs, OnOk}
use Rattle.gw_session.proofs.Common.{IsToldFirst, gone_to, answers_at, Extends, Bool, true, false, append-nil}
use Rattle.gw_session.proofs.Common.{HaveCalls, AreCalls, are_held, state_with}
use Rattle.gw_session.proofs.Turns.{PortTrace-none, Extends-none, LeavesOut_none, counted_is}

-- an input was done, and behind what passes the rest of all that is put for it was put, or a write failed
inputs_put : (spells : PacketOutput) (Shown : List Event → Type 0) (w w' : World) (o : Output) (out : List ℕ)
    {r : Record}
    (result : Result (Unit {0}) RunFault)
    (on : ActsOn (gone_to w.state.ports w.output.sink) w.state w'.state w.tape w'.tape r)
    → Shown (events_in on.input)
    → ((config : GatewayConfig) (before : List Event) → HasHistory config w.state.gateway before → (first : List ℕ)
    × TakesAllButWaiting w.output.sink.taken o.sink.taken o.waiting first
    × (first ++ out ≡ w.output.waiting ++ written_for spells config before on.input))
    → o.sink.failures ≡ w.output.sink.failures
    → Puts o.sink w'.output.sink w'.output.waiting (o.waiting ++ out) result → Inputs spells Shown w w' r result
inputs_put spells Shown w w' o out (Ok u) on shown first kept puts = (
  record {
    inputs = on;
    shown = shown;
    took = λ config before h.
        let f = first config before h in
        TakesAllButWaiting-same _ _ _ _ _ f.2 (TakesAllButWaiting-join _ _ _ _ _ _ _ f.1 puts.0);
  },
  puts.1 ∙ kept,
)
inputs_put spells Shown w w' o out (Err e) on shown first kept puts = (
  puts.0,
  omega (arith, kept, puts.1.counted),
  inl (record {
    inputs = on;
    shown = shown;
    took = λ config before h.
        let f = first config before h in
        AppendsPrefix-same _ _ _ _ f.2 (AppendsPrefix-behind _ _ _ _ _ _ f.1 puts.1.took);
  }),
)

-- octets were exchanged, and the record of them was put
pub trunk_inputs : {spells : PacketOutput} (Shown : List Event → Type 0) (w w' : World) (r n : ℕ)
    (o : Output)
    {body answer out : List ℕ}
    (result : Result (Unit {0}) RunFault)
    → (x : Exchanges spells
    (record w.state { totals = record w.state.totals { records = r; octets = n } }) w'.state w.output o body answer)
    × Recorded w.tape w'.tape (events_of_turns x.turns)
    × HaveCalls w.state.ports w'.state.ports (AreCalls (are_held w.state.holds x.turns) x.turns)
    × IsToldFirst w.state.holds (gone_to w.state.ports w.output.sink) w.tape w'.tape x.turns
    × Shown (events_of_turns x.turns)
    → w'.state.holds ≡ w.state.holds → w'.state.held ≡ w.state.held → out ≡ answer
    → r ≡ min (w.state.totals.records + 1) (2 ^ 64 - 1)
    → n ≡ min (w.state.totals.octets + length body) (2 ^ 64 - 1) → w.state.totals.octets < 2 ^ 64
    → Puts o.sink w'.output.sink w'.output.waiting (o.waiting ++ record_of 84 0 out) result
    → Inputs spells Shown w w' (Record.Trunk body) result
unfolding written_for answer_to
trunk_inputs Shown w w' r n o result x holds held same counts trunk fits puts =
    let p = x.0 in
    let len = sym (length-map p.turns octet_of) ∙ ap length p.heard in
    inputs_put _ Shown w w' o _ result (record {
      input = SessionInput.Trunk p.turns;
      told_is = ap (λ (xs : List ℕ). Record.Trunk xs) p.heard;
      goes = record {
        trades = p.goes.trades;
        datagrams = p.goes.datagrams;
        faults = p.goes.faults;
        hears = grind (arith, common_steps);
      };
      records = p.kept.0 ∙ counts;
      octets = p.kept.1 ∙ trunk ∙ rw len (counted_is w.state.totals.octets _ fits);
      recorded = x.1;
      told = x.3;
      calls = x.2;
      same = holds;
      still = held;
    }) x.4 (grind (arith, append_assoc)) p.no_failure puts

-- ports have no calls for no turns
no_calls : (holding : Bool) → AreCalls holding [] []
no_calls true = ([], refl, refl)
no_calls false = refl

-- an input of one event was done, and the one answer of its circuit, whose record is on the tape, was put
pub one_inputs : (Shown : List Event → Type 0) (input : SessionInput) (event : Event) (u : Totals)
    (spells : PacketOutput) (w : World) (g : Gateway)
    (t : Totals)
    (tape' : TapeState) (o : Output) {circuit kind code : ℕ} (result : Result (Unit {0}) RunFault)
    → turns_of input ≡ [] → events_in input ≡ event ∷ [] → Shown (event ∷ [])
    → ((config : GatewayConfig) (before : List Event) → packets_for config before (event ∷ []) ≡ [])
    → ((config : GatewayConfig) (before : List Event) → sent_with_octets config before (event ∷ []) ≡ [])
    → ((config : GatewayConfig) (before : List Event) → answer_to config before input
    ≡ written_out (Written.Answered circuit kind (code_of (reply_to config before event))))
    → TakesEvent w.state.gateway g event code
    → u ≡ record w.state.totals { dropped = u.dropped } → t ≡ record u { records = at_most (u.records + 1) }
    → ((config : GatewayConfig) (before : List Event) → HasHistory config w.state.gateway before
    → u.dropped ≡ counted w.state.totals.dropped (dropped_for config before (event ∷ [])))
    → Puts w.output.sink o.sink o.waiting
    (w.output.waiting ++ written_out (Written.Answered circuit kind code)) result
    → Recorded w.tape tape' (events_in input)
    → Extends w.tape.acts tape'.acts (answers_at tape' (gone_to w.state.ports w.output.sink) ∷ [])
    → Inputs spells Shown w
    (record { state = state_with w.state.holds w.state.held w.state.ports g t; tape = tape'; output = o })
    (input_record input) result
unfolding PortTrace-none written_for spelled_for
one_inputs Shown input event u spells w g t tape' o result none one shown packets places answer takes others
    counts dropped puts recorded told =
    inputs_put _ Shown w
    (record { state = state_with w.state.holds w.state.held w.state.ports g t; tape = tape'; output = o })
    w.output _ result (record {
      input = input;
      told_is = refl;
      goes = rw (none, one) (record {
        trades = PortTrace-none _;
        datagrams = rw (counts, others);
        faults = rw (counts, others);
        hears = λ config before h. record {
          stands = (takes config before h).0;
          in_turn = tt;
          packets = rw (packets config before, append-nil) (LeavesOut_none w.state.held);
          sends = sym (places config before);
          dropped = rw counts (dropped config before h);
        };
      });
      records = rw (counts, others);
      octets = rw (none, counts, others);
      recorded = recorded;
      told = record { gone = gone_to w.state.ports w.output.sink; told = told; nothing = λ on. refl };
      calls = ([], Extends-none _, rw none (no_calls _));
      same = refl;
      still = refl;
    }) (rw one shown) (λ config before h. (
      w.output.waiting,
      record { written = []; whole = refl; appended = Appends-none _ },
      rw (one, packets config before, answer config before, (takes config before h).1),
    )) refl puts

-- what always holds holds where a result is Ok
pub on_ok_always : {P : Type 0} (result : Result (Unit {0}) RunFault) → P → OnOk result P
on_ok_always (Ok x) p = p
on_ok_always (Err e) p = tt
