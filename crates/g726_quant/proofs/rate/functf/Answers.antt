use Rattle.std.proofs.Common.{refl}
use Rattle.g726_quant.proofs.Places.{ranges}
use Rattle.g726_quant.proofs.rate.functf.Goals as goal

pub returns : goal.returns
returns g c =
    let laws = g.met.R.Rate.laws in
    let entry = (ranges g.R.Rate.tables c.args.magnitude laws.places laws.ranges c.requires).speed in
    rw c.speed_values.ensures (record { value = refl; high = entry })
