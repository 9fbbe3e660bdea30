use Rattle.g726_lanes.proofs.Common.{◌≡◌, ◌<◌, ◌+◌, ◌%◌, ℕ, pos, w16, nat_lt, true, false, inl, inr, ap, ◌∙◌, arith}
use Rattle.g726_lanes.proofs.Common.{slice_index_or, cast_signed, cases_lt, nat_tests, lane}
use Rattle.g726_lanes.proofs.entries.entries.Goals as goal

pub returns : goal.returns
returns c = λ k h.
    let p = lane c.args.places k in
    let few : p < 16 = omega (arith, c.requires.places k h) in
    let within = c.half_places-within.ensures k h in
    let half = c.half_of.ensures k h in
    elim (cases_lt p 8) [
      | inl less ↦
          let t : nat_lt p 8 ≡ true = grind (arith, nat_tests) in
          let is : lane c.half_of.result k ≡ lane c.eight_entries.result (p % 8) =
          (rw t at half) ∙ c.picked-first.ensures k h ∙ ap (lane c.eight_entries.result) within in
          let place : 0 + p % 8 ≡ p = omega arith in
          ap (λ (n : ℕ). cast_signed w16 n) is ∙ c.eight_entries.ensures (p % 8) (omega arith)
          ∙ ap (λ (n : ℕ). slice_index_or c.args.table.now n (pos 0)) place
      | inr more ↦
          let t : nat_lt p 8 ≡ false = grind (arith, nat_tests) in
          let is : lane c.half_of.result k ≡ lane c.eight_entries-2.result (p % 8) =
          (rw t at half) ∙ c.picked.ensures k h ∙ ap (lane c.eight_entries-2.result) within in
          let place : 8 + p % 8 ≡ p = omega arith in
          ap (λ (n : ℕ). cast_signed w16 n) is ∙ c.eight_entries-2.ensures (p % 8) (omega arith)
          ∙ ap (λ (n : ℕ). slice_index_or c.args.table.now n (pos 0)) place
    ]
