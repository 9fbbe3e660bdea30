use Rattle.gw_records.proofs.Common.{◌≡◌, ◌++◌, ℕ, List, length, Appends}
use Rattle.gw_records.proofs.writing.write_all.Given as goal

abbrev pub invariant-loop-rest : goal.invariant-loop-rest
invariant-loop-rest g l = record {
  written : (written : List ℕ) × (l.fn.octets ≡ written ++ l.rest)
      × Appends (g.K.Sink.tells l.initial.sink).taken (g.K.Sink.tells l.sink).taken written;
  same : (g.K.Sink.tells l.sink).failures ≡ (g.K.Sink.tells l.initial.sink).failures;
}

abbrev pub decreases-loop-rest : goal.decreases-loop-rest
decreases-loop-rest g l = length l.rest
