-- COMPRESS in one lane.
use Rattle.g726_lanes.proofs.Common.{◌≡◌, ◌<◌, ◌≤◌, ℕ, zero, suc, ◌+◌, ◌-◌, ◌*◌, ◌/◌, ◌%◌, ◌^◌, min, Bool, true, false}
use Rattle.g726_lanes.proofs.Common.{rules, common_steps, ◌&&◌, ◌||◌, nat_le, nat_lt, inl, inr, refl, ap, sym, ◌∙◌, ℤ}
use Rattle.g726_lanes.proofs.Common.{Fits, w8, arith, ◌==◌, bit_xor, agree_below, agree_below_at, and_parts, eqb-true}
use Rattle.g726_lanes.proofs.Common.{ltb-true, cases_lt, nat_tests, number_of_bits, exponent, log, is_negative, Law}
use Rattle.g726_lanes.proofs.Common.{least, at_least}
use Rattle.std.proofs.lemmas.Bool.{leb-true, le-ltb}
use Rattle.e1_g711.specs.Codes.{decision_value, zero_code, interval_contains}
use Rattle.e1_g711.specs.Samples.{compress, fifteen_bits, magnitude_to_code, coded_magnitude}
use Rattle.e1_g711.specs.declared.Law.TheVariants.{A, Mu}
use Rattle.e1_g711.proofs.Below.{second}
use Rattle.e1_g711.proofs.Decisions.{a_first_values, a_ends, mu_ends, rises_to}
use Rattle.e1_g711.proofs.OneCode.{IsLast, contains_from, compressed_is}
use Rattle.g726_lanes.proofs.Numbers.{least_is, most_is}
use Rattle.g726_lanes.proofs.PoleLanes.{chosen}

-- whether a magnitude lies in the step and the segment of a number
abbrev is_in_step : ℕ → ℕ → Bool
is_in_step z n =
    (nat_le 16 n && nat_lt n 144)
    && (nat_le ((n % 16 + 16) * 2 ^ (n / 16)) z && nat_lt z ((n % 16 + 17) * 2 ^ (n / 16)))

-- the number of a logarithm
abbrev pub by_log : ℕ → ℕ
by_log dl = (dl / 8 + 65472) % 65536

abbrev is_by_log : ℕ → Bool
is_by_log z = nat_lt z 32 || is_in_step z (by_log (log z))

-- each magnitude of 13 bits lies in those of its logarithm's number
all_by_log : agree_below is_by_log (λ _. true) 8192 ≡ true
unfolding log exponent number_of_bits
all_by_log = refl

-- what is known of the number
pub record IsInStep (z n : ℕ) : Type 0 where
  pub low : 16 ≤ n
  pub high : n < 144
  pub lower : (n % 16 + 16) * 2 ^ (n / 16) ≤ z
  pub upper : z < (n % 16 + 17) * 2 ^ (n / 16)

-- this holds of each magnitude from 32 on
pub step_is : (z : ℕ) → 32 ≤ z → z < 8192 → IsInStep z (by_log (log z))
step_is z low high =
    let one = agree_below_at is_by_log (λ _. true) 8192 z all_by_log high in
    let two = and_parts _ _ (second _ _ one (le-ltb z 32 low)) in
    let three = and_parts _ _ two.0 in
    let four = and_parts _ _ two.1 in
    record {
      low = leb-true _ _ three.0;
      high = ltb-true _ _ three.1;
      lower = leb-true _ _ four.0;
      upper = ltb-true _ _ four.1;
    }

-- the number of an A-law magnitude
pub a_number_is : (z dl : ℕ) → z < 4096 → dl ≡ log z → IsLast A (chosen (nat_lt z 32) (z / 2) (by_log dl)) z
a_number_is z dl high e =
    elim (cases_lt z 32) [
      | inl few ↦
          let t : nat_lt z 32 ≡ true = grind (arith, nat_tests) in
          rw t (grind (arith, a_first_values (z / 2) (omega arith), a_first_values (z / 2 + 1) (omega arith)))
      | inr many ↦
          let t : nat_lt z 32 ≡ false = grind (arith, nat_tests) in
          let s = step_is z many (omega arith) in
          let n = by_log (log z) in
          let below : n < 128 =
          grind (arith, cases_lt n 128) in
          let ends = a_ends n s.low below in
          rw (t, e) (grind (arith, common_steps))
    ]

-- the last decision value of mu-law at or below a magnitude that is given with the bias
pub record IsLastBiased (n z : ℕ) : Type 0 where
  pub bound : n < 128
  pub lower : decision_value Mu n + 33 ≤ z
  pub upper : n < 127 → z < decision_value Mu (n + 1) + 33

-- the number of a mu-law magnitude with the bias
pub mu_number_is : (z dl : ℕ) → 33 ≤ z → z < 8192 → dl ≡ log z → IsLastBiased ((dl / 8 + 65456) % 65536) z
mu_number_is z dl low high e =
    let s = step_is z (omega arith) high in
    let n = by_log (log z) in
    let ends = mu_ends n s.low s.high in
    let same : (log z / 8 + 65456) % 65536 ≡ n - 16 = omega (arith, s.low, s.high) in
    grind arith

-- the last decision value at or below a magnitude that was held at the top is that of the magnitude
pub held_last : (law : Law) (n z top : ℕ) → n < 128 → decision_value law n ≤ min z top
    → (n < 127 → min z top < decision_value law (n + 1)) → decision_value law 127 ≤ top → IsLast law n z
held_last law n z top bound lower upper last = search (rules, rises_to)

-- the last decision value at or below a magnitude to code in A-law
pub a_interval : (negative m z n : ℕ) → negative < 2 → z ≡ min ((m - negative) / 2) 4095 → n < 128
    → decision_value A n ≤ z → (n < 127 → z < decision_value A (n + 1))
    → interval_contains A (nat_lt 0 negative) n (magnitude_to_code A (nat_lt 0 negative) m) ≡ true
a_interval zero m z n few e bound lower upper =
    let s : z ≡ min (m / 2) 4095 = omega (arith, e) in
    let last = a_ends 127 (omega arith) (omega arith) in
    contains_from A false n (m / 2)
    (held_last A n (m / 2) 4095 bound (rw s at lower) (λ h. rw s at (upper h)) (omega (arith, last.0)))
a_interval (suc zero) m z n few e bound lower upper =
    let s : z ≡ min ((m + 1) / 2 - 1) 4095 = omega (arith, e) in
    let last = a_ends 127 (omega arith) (omega arith) in
    contains_from A true n ((m + 1) / 2)
    (held_last A n ((m + 1) / 2 - 1) 4095 bound (rw s at lower) (λ h. rw s at (upper h)) (omega (arith, last.0)))
a_interval (suc (suc k)) m z n few e bound lower upper = absurd (omega arith)

-- and in mu-law
pub mu_interval : (negative : Bool) (m z n : ℕ) → z ≡ min m 8158 + 33 → n < 128
    → decision_value Mu n + 33 ≤ z → (n < 127 → z < decision_value Mu (n + 1) + 33)
    → interval_contains Mu negative n m ≡ true
mu_interval negative m z n e bound lower upper =
    let last = mu_ends 143 (omega arith) (omega arith) in
    contains_from Mu negative n m
    (held_last Mu n m 8158 bound (omega (arith, lower, e)) (λ h. omega (arith, upper h, e)) (omega (arith, last.0)))

-- the code of a sample's sign and of the number of its interval is that of the sample
pub coded_is : (law : Law) (sample : ℤ) (negative m n code : ℕ) → nat_lt 0 negative ≡ is_negative sample
    → m ≡ fifteen_bits sample → n < 128
    → interval_contains law (nat_lt 0 negative) n (magnitude_to_code law (nat_lt 0 negative) m) ≡ true
    → code ≡ bit_xor n (zero_code law (nat_lt 0 negative)) → code ≡ compress law sample
coded_is law sample negative m n code s e bound inside is =
    let contains : interval_contains law (is_negative sample) n (coded_magnitude law sample) ≡ true =
    rw (s, e) at inside in
    is ∙ ap (λ (b : Bool). bit_xor n (zero_code law b)) s ∙ sym (compressed_is law sample n bound contains)

-- the magnitudes that are held at the top
pub a_held_is : (m negative : ℕ) → m < 65536 → negative < 2
    → least ((at_least negative m + (65536 - negative)) % 65536 / 2) 4095 ≡ min ((m - negative) / 2) 4095
a_held_is m negative below few = grind (arith, most_is negative m, least_is ((m - negative) / 2) 4095)

-- the same in mu-law, with the bias
pub mu_held_is : (m : ℕ) → (least m 8158 + 33) % 65536 ≡ min m 8158 + 33
mu_held_is m = rw (least_is m 8158) (omega arith)

-- the code of a sign and a number, by the code at zero of the positive ones
abbrev is_code : Law → ℕ → ℕ → Bool
is_code law negative n =
    nat_lt (bit_xor n ((zero_code law false + (65536 - negative * 128 % 65536)) % 65536)) 256
    && (bit_xor n ((zero_code law false + (65536 - negative * 128 % 65536)) % 65536)
    == bit_xor n (zero_code law (nat_lt 0 negative)))

-- this holds of each sign and number
all_codes : (law : Law) (negative : ℕ) → negative < 2 → agree_below (is_code law negative) (λ _. true) 128 ≡ true
all_codes A zero few = refl
all_codes Mu zero few = refl
all_codes A (suc zero) few = refl
all_codes Mu (suc zero) few = refl
all_codes law (suc (suc n)) few = absurd (omega arith)

-- what the lane gives is the code
pub code_is : (law : Law) (negative n first : ℕ) → negative < 2 → n < 128 → first ≡ zero_code law false
    → Fits w8 (bit_xor n ((first + (65536 - negative * 128 % 65536)) % 65536))
    × (bit_xor n ((first + (65536 - negative * 128 % 65536)) % 65536) ≡ bit_xor n (zero_code law (nat_lt 0 negative)))
code_is law negative n first few below e =
    let one = agree_below_at (is_code law negative) (λ _. true) 128 n (all_codes law negative few) below in
    let two = and_parts _ _ one in
    rw e (record { fits = ltb-true _ _ two.0 }, eqb-true _ _ two.1)
