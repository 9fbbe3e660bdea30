use Rattle.std.proofs.Common.{arith, refl, get_or, pos, w16, SFits}
use Rattle.std.proofs.lemmas.Int.{ints, to_z-of_z}
use Rattle.g726_quant.proofs.Places.{ranges}
use Rattle.g726_quant.proofs.rate.functw.Goals as goal

pub returns : goal.returns
returns g c =
    let laws = g.met.R.Rate.laws in
    let entry = (ranges g.R.Rate.tables c.args.magnitude laws.places laws.ranges c.requires).multiplier in
    let fits : SFits w16 (get_or g.R.Rate.tables.multipliers c.args.magnitude (pos 0)) = omega (arith, ints, entry) in
    rw c.multipliers.ensures (simp to_z-of_z (record { value = refl; low = entry.low; high = entry.high }))
