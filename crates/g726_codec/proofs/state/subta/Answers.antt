use Rattle.std.proofs.Common.{arith, ◌-ℤ◌, negsuc, ◌≤ℤ◌, w16, w32, SFits}
use Rattle.std.proofs.lemmas.Int.{ints, to_z-of_z, int_wrap_fits}
use Rattle.g726_codec.proofs.state.subta.Goals as goal

pub returns : goal.returns
returns c =
    let sl_fits = c.ranges.sl in
    let se_fits = c.ranges.se in
    let sl_wide : SFits w32 c.args.sl = omega (arith, ints) in
    let se_wide : SFits w32 c.args.se = omega (arith, ints) in
    let d_wide : SFits w32 (c.args.sl -ℤ c.args.se) = omega (arith, ints) in
    let d_fits : SFits w16 (c.args.sl -ℤ c.args.se) = omega (arith, ints) in
    let low : negsuc 24446 ≤ℤ (c.args.sl -ℤ c.args.se) = omega (arith, ints) in
    let result_fits : SFits w16 c.wrap16.result = record { sfits = c.wrap16.type_inv } in
    let value = simp to_z-of_z at c.wrap16.ensures in
    let same = int_wrap_fits w16 (c.args.sl -ℤ c.args.se) d_fits in
    simp to_z-of_z (record { value = value; low = rw (value, same) low })
