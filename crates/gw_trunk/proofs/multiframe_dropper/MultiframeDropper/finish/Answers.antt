use Rattle.std.proofs.Common.{arith}
use Rattle.std.proofs.Math.Logic.{∥∥₁_map}
use Rattle.gw_trunk.proofs.Thinning.{in-time, finished, given-by, waited}
use Rattle.gw_trunk.proofs.multiframe_dropper.MultiframeDropper.finish.Goals as goal

pub invariant_of-self : goal.invariant_of-self
invariant_of-self g c =
    let s = c.args.self.now in
    let e = c.give_held.ensures in
    record {
      thinned = ∥∥₁_map s.thinned (λ t. waited s.position s.log.octets _ _ _ (rw (e.went) t) e.waits);
      within = record {
        below = s.within.below;
        room = λ goes begun. let room = s.within.room goes begun in omega (arith, e.shorter, room);
        prompt = finished s.position _ _ _ _ e.waits e.shorter s.within.prompt;
      };
    }

pub returns-clause-goes : goal.returns-clause-goes
returns-clause-goes g c =
    let s = c.args.self.now in
    let e = c.give_held.ensures in
    ∥∥₁_map s.thinned (λ t. in-time s.position s.log.octets _ c.give_held.new.held.items _
    (waited s.position s.log.octets _ _ _ (rw (e.went) t) e.waits)
    (finished s.position _ _ _ _ e.waits e.shorter s.within.prompt))

pub returns-clause-given : goal.returns-clause-given
returns-clause-given g c =
    given-by c.give_held.result c.give_held.ensures.all c.give_held.ensures.slow c.give_held.ensures.err
