use Rattle.std.proofs.Common.{◌≡◌, vec_len}
use Rattle.std.specs.Prelude.{vec_capacity}
use Rattle.satop_playout.proofs.Keeping.{AllEmpty}
use Rattle.satop_playout.proofs.slot.empty_slots.Given as goal

abbrev pub invariant-loop : goal.invariant-loop
invariant-loop l = record {
  many : vec_len l.slots ≡ l.counter;
  memory : vec_capacity l.slots ≡ l.count;
  empty : AllEmpty l.slots.items;
}
