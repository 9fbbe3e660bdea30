use Rattle.std.proofs.Common.{◌≡◌, ◌≤◌, ◌<◌, ℕ, length, drop}
use Rattle.gw_tell.specs.Clients.{AllHaveRoom, IsTold, at}
use Rattle.gw_tell.proofs.teller.tell_all.Given as goal

-- the clients so far were told, and the others are as they were
abbrev pub invariant-loop-place : goal.invariant-loop-place
invariant-loop-place l = record {
  count : length l.places ≡ 8;
  told : (k : ℕ) → k < l.place → IsTold (at l.fn.places k) (at l.places k) l.at (drop l.front l.text);
  rooms : AllHaveRoom l.fn.places → AllHaveRoom l.places;
  rest : (k : ℕ) → l.place ≤ k → at l.places k ≡ at l.fn.places k;
}
