-- The names that most modules of this crate cite, passed on from one place. Declares nothing.
pub use Rattle.e1_g711.specs.declared.Law.{Law}
pub use Rattle.g726_codec.proofs.InPlace.{IsCodedTo, coded_one_more, rest_kept, same_octet}
pub use Rattle.g726_codec.specs.Codec.{Variables, addb}
unfoldable pub use Rattle.g726_codec.specs.Codec.{after_octets, after_words, decoded, encoded, sync}
pub use Rattle.g726_lanes.specs.Lanes.{EachLane, is_set, lane, lanes, minus, number, row_at}
pub use Rattle.g726_lanes.specs.States.{adaptation, predictor, variables}
pub use Rattle.g726_lanes.specs.declared.adaptations.Adaptations.TheInside.{Inside}
pub use Rattle.g726_predict.proofs.LaneProducts.{at_least, fmult_fits, least, mantissa_below}
pub use Rattle.g726_predict.proofs.Lanes.{all_lanes, each_of_eight, eight}
pub use Rattle.g726_predict.specs.Coefficients.{held_within, is_zero, leaked, updated_a1, updated_a2, updated_b}
unfoldable pub use Rattle.g726_predict.specs.Coefficients.{upa1_change, upa2_change, upb_change}
pub use Rattle.g726_predict.specs.Float.{FloatWord, float_of, float_word, fmult, signs_differ}
unfoldable pub use Rattle.g726_predict.specs.Float.{mantissa_of}
pub use Rattle.g726_predict.specs.Predictor.{Prediction, tone, trigb}
unfoldable pub use Rattle.g726_predict.specs.Predictor.{new_a2, se, sez, updated}
pub use Rattle.g726_predict.specs.Words.{packed, unpacked}
pub use Rattle.g726_quant.proofs.Places.{few_bits, few_magnitudes, places, ranges, thresholds_count, thresholds_fit}
pub use Rattle.g726_quant.proofs.Shifts.{shr_bounds}
pub use Rattle.g726_quant.specs.Arithmetic.{signed, wrap16}
unfoldable pub use Rattle.g726_quant.specs.Arithmetic.{number_of_bits}
pub use Rattle.g726_quant.specs.Blocks.{adda, quan_word, subtb, word_is_negative, word_magnitude}
unfoldable pub use Rattle.g726_quant.specs.Blocks.{antilog, exponent, log}
pub use Rattle.g726_quant.specs.Tables.{RateTables, is_in_range, magnitudes}
pub use Rattle.std.proofs.Common.{All, Bool, Fits, List, SFits, Some, [], ap, arith, below_more, bit_and, cond, drop}
pub use Rattle.std.proofs.Common.{false, get_or, inl, inr, length, ltb, max, min, nat_le, nat_lt, neg_ℤ, negsuc, not}
pub use Rattle.std.proofs.Common.{of_z, pos, refl, replicate, rules, slice_set, subst, suc, sym, take, to_z, true}
pub use Rattle.std.proofs.Common.{unsigned_abs, w16, w32, w8, zero, ℕ, ℤ, ◌%◌, ◌&&◌, ◌*ℤ◌, ◌*◌, ◌++◌, ◌+ℤ◌, ◌+◌, ◌-ℤ◌}
pub use Rattle.std.proofs.Common.{◌-◌, ◌/◌, ◌<◌, ◌^◌, ◌||◌, ◌∙◌, ◌∷◌, ◌≡◌, ◌≢◌, ◌≤ℤ◌, ◌≤◌, ◌⊎◌}
pub use Rattle.std.proofs.lemmas.Bool.{agree_below, agree_below_at, and_parts, cases_eq, cases_lt, eqb-true, ltb-true}
pub use Rattle.std.proofs.lemmas.Bool.Decides.{nat_tests}
pub use Rattle.std.proofs.lemmas.Grind.{common_steps}
pub use Rattle.std.proofs.lemmas.Int.{clamps, int_wrap-add_left, ints, to_z-of_z, to_z_pos, wrapping_add_onto}
pub use Rattle.std.proofs.lemmas.List.{length-set, length-take}
pub use Rattle.std.proofs.lemmas.Nat.{and_mask, pow_pos}
pub use Rattle.std.specs.Int.{cast_signed, from_bool, int_shr, is_negative}
pub use Rattle.std.specs.Int.RustNames.{int_le, int_lt}
pub use Rattle.std.specs.List.{count_by}
pub use Rattle.std.specs.Prelude.{IsTrue, bit_xor, slice_index_or, ◌==◌}
pub use Rattle.std.specs.Simd.Lanes.{Each1, top}
pub use lib.Signed.{shr_z}
