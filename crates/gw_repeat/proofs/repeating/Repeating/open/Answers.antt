use Rattle.std.proofs.Common.{◌≡◌, [], rules}
use Rattle.std.proofs.lemmas.List.Elements.{All-push}
use Rattle.std.specs.VecDeque.{deque_capacity}
use Rattle.gw_repeat.specs.declared.held.RecentDatagrams.{RecentDatagrams}
use Rattle.gw_repeat.proofs.repeating.Repeating.open.Goals as goal

pub loop-circuit-preserved : goal.loop-circuit-preserved
loop-circuit-preserved g c = rw c.push_reserved.ensures.items (record {
  len = search rules;
  memory = search rules;
  empty = All-push (λ (h : RecentDatagrams). h.packets.items ≡ []) _ _ c.loop-circuit.invariant.empty
      c.in_ok-open.ensures.ok.0;
  room = All-push (λ (h : RecentDatagrams). deque_capacity h.packets ≡ c.args.count) _ _ c.loop-circuit.invariant.room
      c.in_ok-open.ensures.ok.1;
})
