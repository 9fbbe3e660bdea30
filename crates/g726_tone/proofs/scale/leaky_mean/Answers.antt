use Rattle.std.proofs.Common.{arith, refl, ◌^◌, ◌-ℤ◌}
use Rattle.std.specs.Int.{int_min, int_max}
use Rattle.std.proofs.lemmas.Int.{ints, clamps, to_z-of_z}
use Rattle.g726_tone.proofs.Means.{moved}
use Rattle.g726_tone.proofs.scale.leaky_mean.Goals as goal

pub returns : goal.returns
returns c =
    let target = c.args.target in
    let mean = c.args.mean in
    let r =
    moved (target -ℤ mean) mean (int_min target mean) (int_max target mean) (2 ^ c.args.shift)
    (omega (arith, ints, clamps)) (omega (arith, ints, clamps)) (omega (arith, ints, clamps))
    (omega (arith, ints, clamps)) (omega (arith, ints, clamps)) (omega (arith, ints, clamps)) in
    let target_fits = c.ranges.target in
    let mean_fits = c.ranges.mean in
    let way_fits = r.way in
    let part_fits = r.part in
    let moved_fits = r.sum in
    simp to_z-of_z (record { value = refl; low = r.low; high = r.high })
