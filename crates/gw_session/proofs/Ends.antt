-- Ends of sessions, by what is known of them.
use Rattle.gw_session.proofs.Common.{List, Result, IfErr, Totals, RunFault, AcceptedKinds, Record, SinkState, IfOk}
use Rattle.gw_session.proofs.Common.{arith, common_steps, IfOk-weaker, IfErr-weaker, SourceState, SessionTo, EndsAll}
use Rattle.gw_session.proofs.Common.{EndsUntil, OrNoMemory, MatchResult, Ok, Err}
use Rattle.gw_records.specs.declared.outcome.RunFault.TheVariants as faults
use Rattle.gw_records.specs.declared.records.RecordsEnd.{RecordsEnd}

module _ (kinds : AcceptedKinds) (a b : SourceState) (c d : SinkState) {P Q : Totals → List Record → Type 0}
    (f : (t : Totals) (rs : List Record) → P t rs → Q t rs)
  where
    -- what is known of the totals and records of a session, and what follows from it
    session_as : {ending : RecordsEnd} → SessionTo kinds a b c d P ending → SessionTo kinds a b c d Q ending
    session_as s = grind (arith, common_steps)

    -- a session that ended well
    pub all_as : (result : Result Totals RunFault) → IfOk result (EndsAll kinds a b c d P)
        → IfOk result (EndsAll kinds a b c d Q)
    unfolding session_as
    all_as result = IfOk-weaker result _ _ (λ t e.
        record { ends = (session_as e.ends.0, e.ends.1); ended = e.ended; totals_are = e.totals_are })

    -- a session that ended before the end of its source, and what follows from what is known of it
    fault_as : {B C : List Record → Type 0} (kept : Type 0) (e : RunFault) → ((rs : List Record) → B rs → C rs)
        → EndsUntil kinds a b c d P B e → OrNoMemory kept (EndsUntil kinds a b c d Q C) e
    unfolding session_as
    fault_as kept faults.Truncated begun e = ((session_as e.0.0, e.0.1), e.1)
    fault_as kept faults.Read begun e = (e.0, session_as e.1, e.2, e.3)
    fault_as kept faults.Write begun e = grind (arith, common_steps)
    fault_as kept faults.OutOfMemory begun e = absurd e
    fault_as kept _ begun e = (session_as e.0, e.1)

    -- .. or before its end
    pub until_as : {B C : List Record → Type 0} (kept : Type 0) (result : Result Totals RunFault)
        → ((rs : List Record) → B rs → C rs) → IfErr result (EndsUntil kinds a b c d P B)
        → IfErr result (OrNoMemory kept (EndsUntil kinds a b c d Q C))
    until_as kept result begun = IfErr-weaker result _ _ (λ e. fault_as kept e begun)

-- a session ended well, or before the end of its source
pub either_way : (P : Totals → Type 0) (Q : RunFault → Type 0) (result : Result Totals RunFault) → IfOk result P
    → IfErr result Q → MatchResult result P Q
either_way P Q (Ok totals) well until = well
either_way P Q (Err fault) well until = until
