use Rattle.std.proofs.Math.Logic.{∥∥₁_map₂}
use Rattle.trunk_filters.proofs.filters.finish_output.Goals as goal

pub returns : goal.returns
returns g c =
    ∥∥₁_map₂ c.finish.ensures.goes c.finish_framed.ensures (λ goes framed. record {
      left = _;
      slow_waits = _;
      in_time = rw (c.discarded-discarded.ensures) (rw (c.finish.ensures.sent) at goes);
      framed = rw c.into_outgoing.ensures at framed;
    })
