use Rattle.std.proofs.Common.{◌≡◌, ◌++◌, Some, arith, refl}
use Rattle.std.proofs.Math.Logic.{∥∥₁_map₂}
use Rattle.gw_filter.specs.Crc4.{HasSent}
use Rattle.trunk_filters.specs.Filters.{ReturnsBehind}
use Rattle.trunk_filters.specs.Dropping.{HasFramed}
use Rattle.trunk_filters.specs.Frames.{device_frames}
use Rattle.trunk_filters.proofs.Filtered.{returned-from, sent, taken-whole}
use Rattle.trunk_filters.specs.Trunk.{SendsFrom}
use Rattle.trunk_filters.proofs.filters.finish_framed.Goals as goal

pub returns : goal.returns
returns g c =
    let framed = c.finish-all.new.self in
    let frames = c.finish-rest.new.self in
    let more = rw c.into_outgoing-frames.ensures at c.finish-rest.ensures.waits in
    rw c.both_ended.ensures (∥∥₁_map₂ framed.returned frames.returned (λ outer inner. record {
      framed = framed.outgoing.log.octets ++ framed.held.items;
      crc4_from = _;
      frames = rw c.finish-all.ensures.sent at (returned-from (λ f. f.place.value)
          (λ f. ReturnsBehind f.place.value (HasSent f.filter.sender (Some f.filter.reports.log.octets)))
          SendsFrom framed.filter.filter _ _ (λ f s. sent _ _ _ _ _ s) outer);
      passed = framed.outgoing.log.octets;
      behind = framed.held.items;
      framed_are = refl;
      device = g.O.TrunkOutput.went frames.outgoing ++ frames.held.items;
      slots_from = _;
      is_cut = rw (c.finish-rest.ensures.sent, c.into_outgoing-frames.ensures) at (returned-from
          (λ f. frames.filter.place.value) (λ f. HasFramed f frames.filter.place.value)
          (λ place taken returned. returned ≡ device_frames place taken) frames.filter.frame _ _
          (λ f s. s.returned_are) inner);
      went = g.O.TrunkOutput.went frames.outgoing;
      untaken = frames.held.items;
      device_is = refl;
      last_waits = g.O.TrunkOutput.slow_waits frames.outgoing;
      more_waits = omega (arith, c.finish-all.ensures.waits, more);
      whole = taken-whole _ _ c.finish-all.result c.finish-rest.result _ _ _ c.finish-all.ensures.all
          c.finish-all.ensures.slow c.finish-rest.ensures.all
          (rw c.into_outgoing-frames.ensures at c.finish-rest.ensures.slow) more;
    }))
