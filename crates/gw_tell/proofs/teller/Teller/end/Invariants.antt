use Rattle.std.proofs.Common.{◌≡◌, ◌≤◌, ◌<◌, ℕ, length}
use Rattle.gw_tell.specs.Lines.{end_line}
use Rattle.gw_tell.specs.Clients.{Gets, at}
use Rattle.gw_tell.proofs.teller.Teller.end.Given as goal

-- the clients so far got it, and the others are as they were
abbrev pub invariant-loop-place : goal.invariant-loop-place
invariant-loop-place l = record {
  count : length l.self.places ≡ 8;
  got : (k : ℕ) → k < l.place → Gets (at l.fn.self.places k) (at l.self.places k) end_line;
  rest : (k : ℕ) → l.place ≤ k → at l.self.places k ≡ at l.fn.self.places k;
}
