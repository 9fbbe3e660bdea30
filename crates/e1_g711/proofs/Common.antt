-- The names that most modules of this crate cite, passed on from one place. Declares nothing.
pub use Rattle.e1_g711.specs.Codes.{code_of, code_takes, decision_value, interval_number, is_negative_code}
unfoldable pub use Rattle.e1_g711.specs.Codes.{codes_in_order, decision_values, interval_contains, middle, next_down}
unfoldable pub use Rattle.e1_g711.specs.Codes.{next_up, table, value_of}
pub use Rattle.e1_g711.specs.Laws.{IsTable, RisesAt, magnitude_by_segment}
pub use Rattle.e1_g711.specs.Samples.{IsCodeOf}
unfoldable pub use Rattle.e1_g711.specs.Samples.{compress, expand}
pub use Rattle.e1_g711.specs.declared.Law.{Law}
pub use Rattle.e1_g711.specs.declared.Law.TheVariants.{A, Mu}
pub use Rattle.std.proofs.Common.{Bool, List, SFits, Some, add-one, ap, ap₂, arith, cond, false, get_or, inl, inr}
pub use Rattle.std.proofs.Common.{rules, length, map, max, nat_le, nat_lt, negsuc, of_z, pos, refl, suc, sym, to_z}
pub use Rattle.std.proofs.Common.{true, unsigned_abs, w16, zero, ℕ, ℤ, ◌%◌, ◌&&◌, ◌*◌, ◌+◌, ◌-◌, ◌/◌, ◌<◌, ◌==◌, ◌^◌}
pub use Rattle.std.proofs.Common.{◌||◌, ◌∙◌, ◌≡◌, ◌≢◌, ◌≤ℤ◌, ◌≤◌}
pub use Rattle.std.proofs.lemmas.Bool.{agree_below, agree_below_at, and_parts, cases_eq, cases_lt, cases_order}
pub use Rattle.std.proofs.lemmas.Bool.{eqb-true, false_from_ne_true, le-ltb, leb-true, ltb-true, ne_eqb}
pub use Rattle.std.proofs.lemmas.Grind.{common_steps}
pub use Rattle.std.proofs.lemmas.Int.{ints, to_z-of_z}
pub use Rattle.std.specs.Int.RustNames.{int_le, int_lt}
pub use Rattle.std.specs.List.{range_with_len}
pub use Rattle.std.specs.Prelude.{Contains, find, slice_index, slice_index_or, ◌<ℤ◌}
