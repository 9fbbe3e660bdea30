use Rattle.std.proofs.Common.{◌≡◌, ◌+◌, ◌*◌, ◌%◌, ◌<◌, ◌≤◌, ◌++◌, ℕ, List, length, take}
use Rattle.e1_g711.specs.declared.Law.{Law}
use Rattle.trunk_filters.specs.Receiving.{HasMadeWhole}
use Rattle.trunk_filters.proofs.receiving.SlotReceiver.octets.Given as goal

-- The octets up to the index are taken. There is slot 0 for each frame that has begun, and no more.
abbrev pub invariant-loop-octet : goal.invariant-loop-octet
invariant-loop-octet l = record {
  made : (law : Law) (place : ℕ) (taken made : List ℕ) → HasMadeWhole l.initial.self law place taken made
      → HasMadeWhole l.self law place (taken ++ take l.octet-index l.octets) (made ++ l.trunk.items);
  counted : 31 * length l.trunk.items + (l.self.place + 31) % 32
      ≡ (l.initial.self.place + 31) % 32 + 32 * l.octet-index;
  some : l.octet-index ≤ length l.trunk.items;
  first : l.octet-index ≡ 0 → length l.trunk.items ≡ 0;
  begun : 0 < l.octet-index → 0 < (l.self.place + 31) % 32;
}
