use Rattle.std.proofs.Math.Logic.{∥∥₁_map}
use Rattle.std.proofs.Common.{◌≤◌, length, arith}
use Rattle.gw_trunk.proofs.Thinning.{stepped, waited}
use Rattle.gw_trunk.proofs.multiframe_dropper.MultiframeDropperTrunkOutput.write.Goals as goal

pub invariant_of-self-then-self-gt0 : goal.invariant_of-self-then-self-gt0
invariant_of-self-then-self-gt0 g c =
    let s = c.args.self.now in
    let fits : c.min-most.result ≤ length c.args.octets.now = omega (arith, c.min-most.ensures) in
    record {
      thinned = ∥∥₁_map s.thinned (λ t. rw (c.append.ensures)
          (stepped s.position c.pass.new.position _ _ _ c.args.octets.now c.min-most.result c.in-Ok.n _ _ t
          c.in-Ok.ensures.steps fits c.in-Ok.ensures.bound));
      within = c.in-Ok.ensures.within;
    }

pub invariant_of-self-else-self-gt0 : goal.invariant_of-self-else-self-gt0
invariant_of-self-else-self-gt0 g c =
    let s = c.args.self.now in
    let fits : c.min-most.result ≤ length c.args.octets.now = omega (arith, c.min-most.ensures) in
    record {
      thinned = ∥∥₁_map s.thinned (λ t. rw (c.append.ensures)
          (stepped s.position c.pass.new.position _ _ _ c.args.octets.now c.min-most.result c.in-Ok.n _ _ t
          c.in-Ok.ensures.steps fits c.in-Ok.ensures.bound));
      within = c.in-Ok.ensures.within;
    }

pub invariant_of-self-else-before-eq0 : goal.invariant_of-self-else-before-eq0
invariant_of-self-else-before-eq0 g c =
    let s = c.args.self.now in
    let fits : c.min-most.result ≤ length c.args.octets.now = omega (arith, c.min-most.ensures) in
    record {
      thinned = ∥∥₁_map s.thinned (λ t. rw (c.append.ensures)
          (stepped s.position c.pass.new.position _ _ _ c.args.octets.now c.min-most.result c.in-Ok.n _ _ t
          c.in-Ok.ensures.steps fits c.in-Ok.ensures.bound));
      within = c.in-Ok.ensures.within;
    }

pub invariant_of-self : goal.invariant_of-self
invariant_of-self g c =
    let s = c.args.self.now in
    let e = c.in-Err.ensures in
    record {
      thinned = ∥∥₁_map s.thinned (λ t. rw (e.err.0, e.err.1) (waited s.position s.log.octets _ _ _ t e.waits));
      within = e.within;
    }
