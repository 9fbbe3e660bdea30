use Rattle.std.proofs.Common.{◌∷◌, [], map}
use Rattle.std.proofs.lemmas.List.{map-append}
use Rattle.gw_udp.proofs.Noting.{noted-more}
use Rattle.gw_udp.proofs.readiness.note_all.Goals as goal

pub loop-event-preserved : goal.loop-event-preserved
loop-event-preserved c =
    rw (map-append (λ e. e.now) c.loop-event.yielded (c.in-Some.event ∷ [])) (record {
      noted = noted-more (map (λ e. e.now) c.loop-event.yielded) c.in-Some.event.now _ _ _ c.loop-event.invariant.noted
          (rw (c.token.ensures) at c.note.ensures);
    })
