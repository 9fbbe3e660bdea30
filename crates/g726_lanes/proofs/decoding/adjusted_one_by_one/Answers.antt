use Rattle.g726_lanes.proofs.Each.{each_lane}
use Rattle.g726_lanes.proofs.decoding.adjusted_one_by_one.Goals as goal

pub returns : goal.returns
returns g c = each_lane _ (
  c.adjusted.ensures,
  (
    c.adjusted-2.ensures,
    (
      c.adjusted-3.ensures,
      (
        c.adjusted-4.ensures,
        (c.adjusted-5.ensures, (c.adjusted-6.ensures, (c.adjusted-7.ensures, (c.adjusted-8.ensures, tt)))),
      ),
    ),
  ),
)
