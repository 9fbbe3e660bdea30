-- The names that most modules of this crate cite, passed on from one place. Declares nothing.
pub use Rattle.g726_predict.specs.Float.{fmult, signs_differ}
unfoldable pub use Rattle.g726_predict.specs.Float.{mantissa_of}
pub use Rattle.g726_predict.specs.Predictor.{Prediction, at_reset, tone, trigb, updated_by}
unfoldable pub use Rattle.g726_predict.specs.Predictor.{new_a2, se, sez, updated}
pub use Rattle.g726_predict.specs.Words.{packed, unpacked}
pub use Rattle.g726_quant.proofs.Bits.{number_of_bits_holds, number_of_bits_least}
unfoldable pub use Rattle.g726_quant.specs.Arithmetic.{number_of_bits}
pub use Rattle.std.proofs.Common.{All, Bool, Fits, List, SFits, Some, [], ap, append_assoc, arith, bit_and, cond, drop}
pub use Rattle.std.proofs.Common.{false, flat_map, get_or, inl, inr, length, ltb, map, max, nat_le, nat_lt, neg_ℤ}
pub use Rattle.std.proofs.Common.{negsuc, not, of_z, pos, refl, rules, subst, suc, sym, take, to_z, true, w16, ℕ, ℤ}
pub use Rattle.std.proofs.Common.{◌%◌, ◌&&◌, ◌*ℤ◌, ◌*◌, ◌++◌, ◌+ℤ◌, ◌+◌, ◌-ℤ◌, ◌-◌, ◌/◌, ◌<◌, ◌^◌, ◌∙◌, ◌∷◌, ◌≡◌, w32}
pub use Rattle.std.proofs.Common.{zero, ◌≤ℤ◌, ◌≤◌}
pub use Rattle.std.proofs.Math.Pow.{pow_mono}
pub use Rattle.std.proofs.lemmas.Bool.{agree_below, agree_below_at, and_parts, cases_lt, eqb-true, ltb-true}
pub use Rattle.std.proofs.lemmas.Bool.Decides.{nat_tests}
pub use Rattle.std.proofs.lemmas.Grind.{common_steps}
pub use Rattle.std.proofs.lemmas.Int.{SFits-int_wrap, ints, to_z-of_z, to_z_pos, wrapping_add_onto}
pub use Rattle.std.specs.Prelude.{◌==◌}
pub use Rattle.std.specs.Simd.Lanes.{Each1, top, zip2}
pub use lib.Signed.{mag_shr, shr_z}
