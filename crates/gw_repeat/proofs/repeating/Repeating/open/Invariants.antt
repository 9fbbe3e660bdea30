use Rattle.std.proofs.Common.{◌≡◌, vec_len, [], All}
use Rattle.std.specs.Prelude.{vec_capacity}
use Rattle.std.specs.VecDeque.{deque_capacity}
use Rattle.gw_repeat.specs.declared.held.RecentDatagrams.{RecentDatagrams}
use Rattle.gw_repeat.proofs.repeating.Repeating.open.Given as goal

-- each circuit so far has its memory, and holds nothing
abbrev pub invariant-loop-circuit : goal.invariant-loop-circuit
invariant-loop-circuit g l = record {
  len : vec_len l.held ≡ l._circuit;
  memory : vec_capacity l.held ≡ 30;
  empty : All (λ (h : RecentDatagrams). h.packets.items ≡ []) l.held.items;
  room : All (λ (h : RecentDatagrams). deque_capacity h.packets ≡ l.count) l.held.items;
}
