use Rattle.std.proofs.Common.{◌≡◌, ◌≤◌, ◌<◌, ℕ, length}
use Rattle.gw_tell.specs.Clients.{IsHeard, at}
use Rattle.gw_tell.proofs.teller.Teller.listen.Given as goal

-- the clients so far were looked at, and the others are as they were
abbrev pub invariant-loop-place : goal.invariant-loop-place
invariant-loop-place l = record {
  count : length l.self.places ≡ 8;
  heard : (k : ℕ) → k < l.place → IsHeard (at l.fn.self.places k) (at l.self.places k);
  law : l.self.law ≡ l.fn.self.law;
  place : l.self.place ≡ l.fn.self.place;
  counts : l.self.counts ≡ l.fn.self.counts;
  seized : l.self.seized ≡ l.fn.self.seized;
  door : l.self.door ≡ l.fn.self.door;
  told : l.self.told ≡ l.fn.self.told;
  rest : (k : ℕ) → l.place ≤ k → at l.self.places k ≡ at l.fn.self.places k;
}
