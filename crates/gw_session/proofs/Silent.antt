-- Sessions whose packets put nothing in front of the answers.
use Rattle.gw_session.proofs.Common.{◌≡◌, inl, inr, ℕ, List, [], ◌∷◌, ◌++◌, flat_map, refl, arith, GatewayConfig, Event}
use Rattle.gw_session.proofs.Common.{Totals, Record, SinkState, AppendsBut, SessionInput, events_in, packets_for}
use Rattle.gw_session.proofs.Common.{written, SessionTrace, spelled_for, written_for, written_by, TraceToWriteError}
use Rattle.gw_session.proofs.Common.{TapeState, SessionState, silent, output_of, OfFirstInputs, Option, Appends}
use Rattle.gw_session.proofs.Common.{Appends-none, TakesAllButWaiting-appended, TookBut, StandsBehind, nil_from_length}
use Rattle.gw_session.proofs.Attending.{acts_as}

-- packets that put nothing give no octets
nothing_put : (ps : List (ℕ × List ℕ)) → flat_map silent ps ≡ []
nothing_put [] = refl
nothing_put (p ∷ ps) = nothing_put ps

-- where packets put nothing, what is put for inputs is their answers alone
answers_alone : (config : GatewayConfig) (before : List Event) (inputs : List SessionInput)
    → written_by silent config before inputs ≡ written config before inputs
unfolding written_for spelled_for
answers_alone config before [] = refl
answers_alone config before (input ∷ inputs) =
    rw (
      nothing_put (packets_for config before (events_in input)),
      answers_alone config
          (before ++ events_in input) inputs,
    )

-- where no octets wait a sink took all
took_all : {o q : Option (List ℕ)} {xs : List ℕ} → TookBut 0 o q xs → Appends o q xs
took_all p =
    let none : p.0 ≡ [] = nil_from_length p.0 (omega (arith, p.1)) in
    TakesAllButWaiting-appended _ _ _ _ _ p.2 (rw none (Appends-none _))

-- records were served
pub serves : {s s' : SessionState} {x y : TapeState} {o : Option (List ℕ)} {Took : List ℕ → List ℕ → Type 0}
    (records : List Record) → SessionTrace (written_by silent) (TookBut 0 o) s s' x y Took records
    → SessionTrace written (Appends o) s s' x y Took records
serves {s} {s'} {x} {y} {o} records p =
    let f = p.follows in
    record {
      inputs = p.inputs;
      told_are = p.told_are;
      follows = record {
        goes = f.goes;
        records = f.records;
        trunk_octets = f.trunk_octets;
        recorded = f.recorded;
        logs = (
          f.logs.0,
          f.logs.1,
          acts_as s.holds (StandsBehind (written_by silent) (TookBut 0 o) s) (StandsBehind written (Appends o) s) x y
              p.inputs f.logs.0
              (λ first gateway gone q. record {
                behind = q.behind;
                gateway_is = q.gateway_is;
                sent_is = q.sent_is;
                failures_are = q.failures_are;
                still = q.still;
                goes = q.goes;
                had = λ config before at. took_all (rw (answers_alone config before first) at (q.had config before at));
              })
              f.logs.2,
        );
        calls = f.calls;
        same = f.same;
        still = f.still;
      };
      took = λ config before at. rw (answers_alone, answers_alone) at (p.took config before at);
    }

-- .. and this is known of them
pub serves_watched : {s s' : SessionState} {x y : TapeState} {o : Option (List ℕ)} {Took : List ℕ → List ℕ → Type 0}
    (Seen : List SessionInput → Type 0) (records : List Record)
    → (p : SessionTrace (written_by silent) (TookBut 0 o) s s' x y Took records) → Seen p.inputs
    → (t : SessionTrace written (Appends o) s s' x y Took records) × Seen t.inputs
unfolding serves
serves_watched Seen records p seen = (serves records p, seen)

-- .. up to the one in which a write failed
pub serves_watched_until : {s : SessionState} {end : Totals → SessionState} {x y : TapeState} {a b : SinkState}
    (Seen : List SessionInput → List Event → Type 0) (records : List Record)
    → TraceToWriteError 0 silent Seen (record { state = s; tape = x; output = output_of a [] })
    (λ totals. record { state = end totals; tape = y; output = output_of b [] }) records
    → (totals : Totals) × (t : SessionTrace written (Appends a.taken) s (end totals) x y (AppendsBut 0 a.taken b.taken) records)
    × OfFirstInputs Seen t.inputs
unfolding serves
serves_watched_until Seen records p = elim p.1 [
  | inl done ↦ (p.0, serves records done.1.0, done.1.1)
  | inr cut ↦ absurd (omega (arith, cut.0.stops.some))
]

-- .. whatever is known
pub serves_until : {s : SessionState} {end : Totals → SessionState} {x y : TapeState} {a b : SinkState}
    (Seen : List SessionInput → List Event → Type 0) (records : List Record)
    → TraceToWriteError 0 silent Seen (record { state = s; tape = x; output = output_of a [] })
    (λ totals. record { state = end totals; tape = y; output = output_of b [] }) records
    → (totals : Totals) × SessionTrace written (Appends a.taken) s (end totals) x y (AppendsBut 0 a.taken b.taken) records
serves_until Seen records p = let q = serves_watched_until Seen records p in (q.0, q.1)
