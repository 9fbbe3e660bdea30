-- ACCUM, UPB and TRIGB in one lane.
use Rattle.g726_lanes.proofs.Common.{◌≡◌, ◌<◌, ◌≤◌, ℕ, zero, suc, ◌+◌, ◌-◌, ◌*◌, ◌/◌, ◌%◌, ◌^◌, cond, not, nat_le}
use Rattle.g726_lanes.proofs.Common.{rules, common_steps, nat_lt, ℤ, pos, negsuc, ◌+ℤ◌, ◌-ℤ◌, Bool, true, false, to_z}
use Rattle.g726_lanes.proofs.Common.{w16, arith, inl, inr, ◌⊎◌, ◌≤ℤ◌, neg_ℤ, bit_and, unsigned_abs, is_negative, int_lt}
use Rattle.g726_lanes.proofs.Common.{◌==◌, ints, cases_lt, nat_tests, shr_z, shr_bounds, least, signs_differ, updated_b}
use Rattle.g726_lanes.proofs.Common.{upb_change, trigb}
use Rattle.std.specs.Int.{int_wrap}
use Rattle.g726_lanes.proofs.Numbers.{raised, raised_is, wrap_is}
use Rattle.g726_lanes.proofs.PoleLanes.{chosen}

-- half of a sum
pub half_is : (n : ℕ) → n < 65536 → to_z w16 ((raised n / 2 + 49152) % 65536) ≡ shr_z (to_z w16 n) 2
half_is n below = grind (arith, common_steps)

-- whether the signs of a word and of DQ are the same
signs_are : (word negative : ℕ) → word < 2048 → negative < 2
    → (word / 1024 == negative) ≡ not (signs_differ (nat_lt 0 negative) (nat_le 1024 word))
signs_are word negative word_below few = search rules

-- U, plus a bias
abbrev unit_of : ℕ → ℕ
unit_of magnitude = least magnitude 1 * 128 % 65536

abbrev lane_change : Bool → ℕ → ℕ → ℕ
lane_change same bias unit = chosen same ((bias + unit) % 65536) ((bias + (65536 - unit)) % 65536)

-- U in two's complement with its bias: bias + U, or bias + U + 65536 where that is below 0
change_of : (differ : Bool) (bias magnitude : ℕ) → 64 ≤ bias → bias ≤ 128
    → (pos (lane_change (not differ) bias (unit_of magnitude))
    ≡ cond (magnitude == 0) (pos 0) (cond differ (negsuc 127) (pos 128)) +ℤ pos bias)
    ⊎ (pos (lane_change (not differ) bias (unit_of magnitude))
    ≡ cond (magnitude == 0) (pos 0) (cond differ (negsuc 127) (pos 128)) +ℤ pos (bias + 65536))
change_of differ bias magnitude low high = search rules

-- B of a lane, by the part that leaks
moved_is : (b part change bias : ℕ) (z u : ℤ) → b < 65536 → part < 512 → bias ≤ 128
    → pos (raised b) ≡ z +ℤ pos 32768
    → (pos change ≡ u +ℤ pos bias) ⊎ (pos change ≡ u +ℤ pos (bias + 65536))
    → (leaked : ℤ) → leaked +ℤ pos part ≡ z +ℤ pos bias → part ≤ raised b → negsuc 127 ≤ℤ u → u ≤ℤ pos 128
    → to_z w16 (((b + (65536 - part)) % 65536 + change) % 65536) ≡ int_wrap w16 (leaked +ℤ u)
moved_is b part change bias z u b_below few small up (inl e) leaked l le low high =
    grind (arith, wrap_is (leaked +ℤ u) (raised b - part + change + 98304) (omega (arith, ints, up, e, l)))
moved_is b part change bias z u b_below few small up (inr e) leaked l le low high =
    grind (arith, wrap_is (leaked +ℤ u) (raised b - part + change + 32768) (omega (arith, ints, up, e, l)))

-- U is within 128 of 0
change_bounds : (zero differ : Bool) → (negsuc 127 ≤ℤ cond zero (pos 0) (cond differ (negsuc 127) (pos 128)))
    × (cond zero (pos 0) (cond differ (negsuc 127) (pos 128)) ≤ℤ pos 128)
change_bounds true differ = (omega (arith, ints), omega (arith, ints))
change_bounds false true = (omega (arith, ints), omega (arith, ints))
change_bounds false false = (omega (arith, ints), omega (arith, ints))

-- UPB and TRIGB of a lane
abbrev pub lane_b : ℕ → ℕ → ℕ → ℕ → ℕ → ℕ → ℕ
lane_b leak b word magnitude negative tr =
    chosen (tr == 0) (((b + (65536 - raised b / 2 ^ leak)) % 65536
    + lane_change (word / 1024 == negative) (32768 / 2 ^ leak) (unit_of magnitude)) % 65536) 0

-- without a transition it is UPB of the numbers
kept_is : (leak b word magnitude negative : ℕ) → 8 ≤ leak → leak ≤ 9 → b < 65536 → word < 2048 → negative < 2
    → to_z w16 (((b + (65536 - raised b / 2 ^ leak)) % 65536
    + lane_change (word / 1024 == negative) (32768 / 2 ^ leak) (unit_of magnitude)) % 65536)
    ≡ updated_b leak (to_z w16 b) magnitude (nat_lt 0 negative) (nat_le 1024 word)
unfolding upb_change
kept_is leak b word magnitude negative low high b_below word_below few =
    let z = to_z w16 b in
    let differ = signs_differ (nat_lt 0 negative) (nat_le 1024 word) in
    let u = cond (magnitude == 0) (pos 0) (cond differ (negsuc 127) (pos 128)) in
    let bounds = change_bounds (magnitude == 0) differ in
    rw (signs_are word negative word_below few)
    (elim (cases_lt leak 9) [
      | inl less ↦
          let eight : leak ≡ 8 = omega arith in
          let s = shr_bounds z 256 (omega arith) in
          rw eight (moved_is b (raised b / 256) _ 128 z u b_below (omega arith) (omega arith) (raised_is b b_below)
          (change_of differ 128 magnitude (omega arith) (omega arith)) (z -ℤ shr_z z 256)
          (omega (arith, ints, raised_is b b_below, s.0, s.1)) (omega arith) bounds.0 bounds.1)
      | inr more ↦
          let nine : leak ≡ 9 = omega arith in
          let s = shr_bounds z 512 (omega arith) in
          rw nine (moved_is b (raised b / 512) _ 64 z u b_below (omega arith) (omega arith) (raised_is b b_below)
          (change_of differ 64 magnitude (omega arith) (omega arith)) (z -ℤ shr_z z 512)
          (omega (arith, ints, raised_is b b_below, s.0, s.1)) (omega arith) bounds.0 bounds.1)
    ])

-- it is UPB and TRIGB of the numbers
pub b_is : (leak b word magnitude negative tr : ℕ) → 8 ≤ leak → leak ≤ 9 → b < 65536 → word < 2048 → negative < 2
    → to_z w16 (lane_b leak b word magnitude negative tr)
    ≡ trigb (nat_lt 0 tr) (updated_b leak (to_z w16 b) magnitude (nat_lt 0 negative) (nat_le 1024 word))
b_is leak b word magnitude negative zero low high b_below word_below few =
    kept_is leak b word magnitude negative low high b_below word_below few
b_is leak b word magnitude negative (suc t) low high b_below word_below few = grind (arith, common_steps)

-- ADDC
abbrev pub lane_p : ℕ → ℕ → ℕ → ℕ
lane_p negative magnitude zeros = (chosen (negative == 0) magnitude ((0 + (65536 - magnitude)) % 65536) + zeros)
    % 65536

-- it is ADDC of the numbers
pub p_is : (negative magnitude zeros : ℕ) → magnitude < 32768 → zeros < 65536
    → to_z w16 (lane_p negative magnitude zeros)
    ≡ int_wrap w16 (cond (nat_lt 0 negative) (neg_ℤ (pos magnitude)) (pos magnitude) +ℤ to_z w16 zeros)
p_is zero magnitude zeros below zeros_below =
    let r = raised_is zeros zeros_below in
    let same : (magnitude + zeros) % 65536 ≡ (magnitude + raised zeros + 98304) % 65536 = omega arith in
    rw same (wrap_is (pos magnitude +ℤ to_z w16 zeros) (magnitude + raised zeros + 98304) (omega (arith, ints, r)))
p_is (suc n) magnitude zeros below zeros_below =
    let r = raised_is zeros zeros_below in
    let some : (suc n == 0) ≡ false = grind (arith, nat_tests) in
    let set : nat_lt 0 (suc n) ≡ true = grind (arith, nat_tests) in
    let same : ((0 + (65536 - magnitude)) % 65536 + zeros) % 65536 ≡ (raised zeros + 98304 - magnitude) % 65536 =
    omega arith in
    rw (some, set, same)
    (wrap_is (neg_ℤ (pos magnitude) +ℤ to_z w16 zeros) (raised zeros + 98304 - magnitude) (omega (arith, ints, r)))

-- TRIGB
pub cleared_is : (tr n : ℕ) → to_z w16 (chosen (tr == 0) n 0) ≡ trigb (nat_lt 0 tr) (to_z w16 n)
cleared_is tr n = search rules

-- TONE
pub tone_is : (n : ℕ) → n < 65536
    → nat_lt 0 (chosen (nat_lt (raised n) 20992) 1 0) ≡ int_lt (to_z w16 n) (negsuc 11775)
tone_is n below = grind (arith, raised_is n below, cases_lt (raised n) 20992)

-- FLOATB: the magnitude of SR
abbrev pub lane_magnitude : ℕ → ℕ
lane_magnitude n = bit_and (chosen (n / 32768 == 0) n ((0 + (65536 - n)) % 65536)) 32767

-- the top bit and this magnitude are those of the number
pub part_is : (n : ℕ) → n < 65536 → (nat_lt 0 (n / 32768) ≡ is_negative (to_z w16 n))
    × ((lane_magnitude n ≡ unsigned_abs (to_z w16 n) % 32768) × ((n / 32768 < 2) × (lane_magnitude n < 32768)))
part_is n below = grind (arith, common_steps)
