use Rattle.g726_lanes.proofs.Common.{rules, ◌≡◌, ◌<◌, ◌+◌, ◌%◌, ℕ, ◌+ℤ◌, w16, to_z, of_z, wrapping_add_onto, fmult}
use Rattle.g726_lanes.proofs.Common.{unpacked, eight, all_lanes, fmult_fits, lane}
use Rattle.std.specs.Int.{int_wrap}
use Rattle.g726_lanes.proofs.Each.{each_lane}
use Rattle.g726_lanes.proofs.Numbers.{number_fits}
use Rattle.g726_lanes.proofs.filter.accumulate.Goals as goal

pub fmult-products-requires-clause-words : goal.fmult-products-requires-clause-words
fmult-products-requires-clause-words c =
    rw (eight 0 c.args.words (search rules)) (all_lanes (λ i h. c.requires i h))

below : (n : ℕ) → n < 65536 → n < 65536
below n h = h

pub fmult-products-requires-clause-coefficients : goal.fmult-products-requires-clause-coefficients
fmult-products-requires-clause-coefficients c =
    rw (eight 0 c.args.coefficients (search rules))
    (all_lanes (λ i h. below (lane c.args.coefficients i) (search rules)))

summed : (sum coefficient word : ℕ) → sum < 65536 → coefficient < 65536 → word < 2048
    → to_z w16 ((sum + of_z w16 (fmult (to_z w16 coefficient) (unpacked word))) % 65536)
    ≡ int_wrap w16 (to_z w16 sum +ℤ fmult (to_z w16 coefficient) (unpacked word))
summed sum coefficient word sum_below below word_below =
    wrapping_add_onto w16 sum (fmult (to_z w16 coefficient) (unpacked word)) sum_below
    (fmult_fits (to_z w16 coefficient) word (number_fits coefficient below) word_below)

pub returns : goal.returns
returns c =
    rw (
      c.fmult-products.ensures,
      eight 0 c.args.sums (search rules),
      eight 0 c.args.coefficients (search rules),
      eight 0 c.args.words (search rules),
    )
    (each_lane _ (all_lanes (λ i h. summed (lane c.args.sums i) (lane c.args.coefficients i)
    (lane c.args.words i) (search rules) (search rules) (c.requires i h))))
