use Rattle.g726_predict.proofs.Common.{◌^◌, refl, to_z-of_z}
use Rattle.g726_predict.proofs.LaneUpdates.{brought_in}
use Rattle.g726_predict.proofs.Leaks.{left}
use Rattle.g726_predict.proofs.coefficients.leak.Goals as goal

pub returns : goal.returns
returns c =
    let l = left c.args.z (2 ^ c.args.k) c.ranges.z in
    let part_fits = l.part in
    let left_fits = l.fits in
    rw (brought_in c.args.z c.ranges.z) (simp to_z-of_z (record { value = refl; low = l.low; high = l.high }))
