use Rattle.std.proofs.Common.{map}
use Rattle.gw_trunk.proofs.Noting.{comes-more, values-more, woken-more}
use Rattle.gw_trunk.proofs.clients.note_all.Goals as goal

pub loop-event-preserved : goal.loop-event-preserved
loop-event-preserved c =
    let event = c.in-Some.event.now in
    let before = map (λ e. e.now) c.loop-event.yielded in
    rw (values-more _ c.loop-event.yielded c.in-Some.event) (record {
      octets = comes-more 0 before event _ _ _ c.note.ensures.octets
          c.loop-event.invariant.octets;
      knocks = comes-more 1 before event _ _ _ c.note.ensures.knocks
          c.loop-event.invariant.knocks;
      ends = comes-more 10 before event _ _ _ c.note.ensures.ends
          c.loop-event.invariant.ends;
      woken = woken-more before event _ _ _ c.loop-event.invariant.woken c.note.ensures.woken;
    })
