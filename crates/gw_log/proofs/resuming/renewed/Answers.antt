use Rattle.std.proofs.Common.{inr, refl}
use Rattle.gw_log.proofs.resuming.renewed.Goals as goal

pub returns-in-Ok-load_gateway : goal.returns-in-Ok-load_gateway
returns-in-Ok-load_gateway c = inr (
  c.requires,
  (
    c.in-Ok-load_gateway.loaded,
    rw (c.as_slice.ensures.value, c.in-Ok.ensures.octets) at c.in-Ok-load_gateway.ensures.loaded,
    refl,
  ),
)
