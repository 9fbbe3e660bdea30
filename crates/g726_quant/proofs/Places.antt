-- What a rate's tables have, from the test of its law.
use Rattle.std.proofs.Common.{rules, ◌≡◌, ℕ, zero, suc, ◌+◌, ◌-◌, ◌≤◌, ◌<◌, ◌^◌, ℤ, pos, negsuc, ◌≤ℤ◌, true, nat_le}
use Rattle.std.proofs.Common.{List, [], ◌∷◌, length, get_or, arith}
use Rattle.std.proofs.lemmas.Grind.{common_steps}
use Rattle.std.specs.Prelude.{IsTrue}
use Rattle.std.specs.Int.RustNames.{int_le}
use Rattle.std.specs.List.{list_all}
use Rattle.std.proofs.Math.Pow.{pow_mono}
use Rattle.std.proofs.lemmas.Bool.{and_parts, eqb-true, leb-true}
use Rattle.g726_quant.specs.Tables.{RateTables, magnitudes, has_its_places, is_within, is_in_range}

-- a word has 2 to 5 bits
pub record HasFewBits (r : RateTables) : Type 0 where
  pub low : 2 ≤ r.bits
  pub high : r.bits ≤ 5

-- as the law of a rate says
pub few_bits : (r : RateTables) → IsTrue (has_its_places r) → HasFewBits r
few_bits r h = grind (arith, common_steps)

-- and at most 16 magnitudes
pub few_magnitudes : (bits : ℕ) → bits ≤ 5 → magnitudes bits ≤ 16
few_magnitudes bits h = omega (arith, pow_mono {i = bits - 1} {j = 4} (omega arith))

-- there is one threshold less than there are magnitudes
pub thresholds_count : (r : RateTables) → IsTrue (has_its_places r) → length r.thresholds + 1 ≡ magnitudes r.bits
thresholds_count r h =
    eqb-true _ _ (and_parts _ _ (and_parts _ _ (and_parts _ _ (and_parts _ _ h).0).0).0).1

-- and less of them than there are words
pub thresholds_fit : (tables : RateTables) → IsTrue (has_its_places tables) → length tables.thresholds < 2 ^ tables.bits
thresholds_fit r h =
    omega (arith, thresholds_count r h, pow_mono {i = r.bits - 1} {j = r.bits} (omega arith))

-- the other tables have a place for each magnitude
pub record HasPlaces (r : RateTables) : Type 0 where
  pub log_levels : length r.log_levels ≡ magnitudes r.bits
  pub multipliers : length r.multipliers ≡ magnitudes r.bits
  pub speed_values : length r.speed_values ≡ magnitudes r.bits

-- so they have by the law of a rate
pub places : (r : RateTables) → IsTrue (has_its_places r) → HasPlaces r
places r h = search (rules, and_parts, eqb-true)

-- a number from a least to a most
pub record IsBetween (least most z : ℤ) : Type 0 where
  pub low : least ≤ℤ z
  pub high : z ≤ℤ most

-- what the test of a number says
between : (low high z : ℤ) → is_within low high z ≡ true → IsBetween low high z
between low high z h = grind (arith, and_parts (int_le low z) (int_le z high) h)

-- of numbers that pass it each is
each_between : (low high : ℤ) (zs : List ℤ) (i : ℕ) → list_all (is_within low high) zs ≡ true → i < length zs
    → IsBetween low high (get_or zs i (pos 0))
each_between low high [] i h few = absurd (omega arith)
each_between low high (z ∷ zs) zero h few = between low high z (and_parts (is_within low high z) _ h).0
each_between low high (z ∷ zs) (suc i) h few =
    each_between low high zs i (and_parts (is_within low high z) _ h).1 (omega arith)

-- and of natural numbers that are tested for a most
each_at_most : (most : ℕ) (ns : List ℕ) (i : ℕ) → list_all (λ n. nat_le n most) ns ≡ true → i < length ns
    → get_or ns i 0 ≤ most
each_at_most most [] i h few = absurd (omega arith)
each_at_most most (n ∷ ns) zero h few = leb-true n most (and_parts (nat_le n most) _ h).0
each_at_most most (n ∷ ns) (suc i) h few = each_at_most most ns i (and_parts (nat_le n most) _ h).1 (omega arith)

-- the ranges of the tables
pub record HasRanges (r : RateTables) (magnitude : ℕ) : Type 0 where
  pub log_level : IsBetween (negsuc 2047) (pos 566) (get_or r.log_levels magnitude (pos 0))
  pub multiplier : IsBetween (negsuc 21) (pos 1122) (get_or r.multipliers magnitude (pos 0))
  pub speed : get_or r.speed_values magnitude 0 ≤ 7

-- they hold at each magnitude, as the law of a rate says
pub ranges : (r : RateTables) (magnitude : ℕ) → IsTrue (has_its_places r) → IsTrue (is_in_range r)
    → magnitude < magnitudes r.bits → HasRanges r magnitude
ranges r magnitude p h few =
    let places = places r p in
    let levels : magnitude < length r.log_levels = omega (arith, places.log_levels) in
    let weights : magnitude < length r.multipliers = omega (arith, places.multipliers) in
    let values : magnitude < length r.speed_values = omega (arith, places.speed_values) in
    let speeds = and_parts _ _ (and_parts _ _ (and_parts _ _ h).0).0 in
    let multipliers = and_parts _ _ speeds.0 in
    record {
      log_level = each_between _ _ _ magnitude (and_parts _ _ multipliers.0).1 levels;
      multiplier = each_between _ _ _ magnitude multipliers.1 weights;
      speed = each_at_most 7 _ magnitude speeds.1 values;
    }
