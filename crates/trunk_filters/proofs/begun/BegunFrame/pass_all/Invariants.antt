use Rattle.std.proofs.Common.{◌≡◌, ◌+◌, ◌*◌, ◌%◌, ◌≤◌, ◌++◌, ℕ, List, length, take}
use Rattle.trunk_filters.specs.Dropping.{HasFramed, begun_count}
use Rattle.trunk_filters.proofs.begun.BegunFrame.pass_all.Given as goal

-- The octets up to the index are taken. Whole frames are returned, no more than of those and of the one that had begun.
abbrev pub invariant-loop-octet : goal.invariant-loop-octet
invariant-loop-octet l = record {
  framed : (place : ℕ) (taken before : List ℕ) → HasFramed l.initial.self place taken before
      → HasFramed l.self place (taken ++ take l.octet-index l.octets) (before ++ l.returned.items);
  counted : 32 * length l.returned.items + 31 * begun_count l.self ≤ 31 * (l.octet-index + 31);
  whole : length l.returned.items % 31 ≡ 0;
}
