-- UPA2, LIMC, UPA1 and LIMD in one lane.
use Rattle.g726_lanes.proofs.Common.{◌≡◌, ◌<◌, ◌≤◌, ℕ, ◌+◌, ◌-◌, ◌/◌, ◌%◌, min, max, cond, not, ℤ, pos, negsuc, neg_ℤ}
use Rattle.g726_lanes.proofs.Common.{rules, ◌+ℤ◌, ◌-ℤ◌, ◌*ℤ◌, ◌≤ℤ◌, Bool, true, false, to_z, w16, refl, arith}
use Rattle.g726_lanes.proofs.Common.{is_negative, ◌==◌, top, ints, clamps, shr_z, shr_bounds, least, at_least}
use Rattle.g726_lanes.proofs.Common.{signs_differ, is_zero, held_within, leaked, upa2_change, upa1_change, updated_a1}
use Rattle.g726_lanes.proofs.Common.{updated_a2}
use Rattle.g726_lanes.proofs.Numbers.{raised, raised_is, less_is, same_sign, zero_is, least_is, most_is}

-- what `select` takes by a comparison
abbrev pub chosen : Bool → ℕ → ℕ → ℕ
chosen b x y = cond (top 15 (cond b 65535 0)) x y

-- the change of A2, plus 384, by whether the signs differ
abbrev lane_moved : Bool → Bool → ℕ → ℕ
lane_moved same1 same2 f =
    ((chosen same2 512 256 + chosen same1 ((0 + (65536 - f)) % 65536) f / 32) % 65536 + 64512) % 65536

-- it is the change of UPA2, plus 384, where P is not 0
moved_is : (d1 d2 : Bool) (f : ℕ) (z : ℤ) → pos f ≡ z +ℤ pos 32768 → 24577 ≤ f → f ≤ 40959
    → pos (lane_moved (not d1) (not d2) f)
    ≡ shr_z (cond d2 (negsuc 16383) (pos 16384) +ℤ cond d1 (pos 4 *ℤ z) (neg_ℤ (pos 4 *ℤ z))) 128 +ℤ pos 384
moved_is true true f z e low high =
    let b = shr_bounds (negsuc 16383 +ℤ pos 4 *ℤ z) 128 (omega arith) in omega (arith, ints, e, b.0, b.1)
moved_is true false f z e low high =
    let b = shr_bounds (pos 16384 +ℤ pos 4 *ℤ z) 128 (omega arith) in omega (arith, ints, e, b.0, b.1)
moved_is false true f z e low high =
    let b = shr_bounds (negsuc 16383 +ℤ neg_ℤ (pos 4 *ℤ z)) 128 (omega arith) in omega (arith, ints, e, b.0, b.1)
moved_is false false f z e low high =
    let b = shr_bounds (pos 16384 +ℤ neg_ℤ (pos 4 *ℤ z)) 128 (omega arith) in omega (arith, ints, e, b.0, b.1)

-- the change, 0 where P is 0
changed_is : (zero d1 d2 : Bool) (f : ℕ) (z : ℤ) → pos f ≡ z +ℤ pos 32768 → 24577 ≤ f → f ≤ 40959
    → (pos (chosen zero 384 (lane_moved (not d1) (not d2) f))
    ≡ cond zero (pos 0) (shr_z (cond d2 (negsuc 16383) (pos 16384) +ℤ cond d1 (pos 4 *ℤ z) (neg_ℤ (pos 4 *ℤ z))) 128)
    +ℤ pos 384) × (chosen zero 384 (lane_moved (not d1) (not d2) f) ≤ 768)
changed_is true d1 d2 f z e low high = (refl, omega arith)
changed_is false true true f z e low high = (moved_is true true f z e low high, omega arith)
changed_is false true false f z e low high = (moved_is true false f z e low high, omega arith)
changed_is false false true f z e low high = (moved_is false true f z e low high, omega arith)
changed_is false false false f z e low high = (moved_is false false f z e low high, omega arith)

-- a coefficient less a part of it, plus 32768
abbrev left_of : ℕ → ℕ → ℕ → ℕ
left_of own d bias = ((own + (65536 - own / d)) % 65536 + bias) % 65536

-- A2 less 1 / 128 of it
left7 : (own : ℕ) (z : ℤ) → own < 65536 → pos own ≡ z +ℤ pos 32768
    → (pos (left_of own 128 256) ≡ (z -ℤ shr_z z 128) +ℤ pos 32768)
left7 own z below e = let b = shr_bounds z 128 (omega arith) in omega (arith, ints, e, b.0, b.1)

-- A1 less 1 / 256 of it
left8 : (own : ℕ) (z : ℤ) → own < 65536 → pos own ≡ z +ℤ pos 32768
    → (pos (left_of own 256 128) ≡ (z -ℤ shr_z z 256) +ℤ pos 32768)
left8 own z below e = let b = shr_bounds z 256 (omega arith) in omega (arith, ints, e, b.0, b.1)

-- A1 limited for UPA2
abbrev lane_held : ℕ → ℕ
lane_held own = least (at_least 24577 own) 40959

-- it is A1 within -8191 to 8191, plus 32768
held_is : (own : ℕ) (z : ℤ) → pos own ≡ z +ℤ pos 32768
    → (pos (lane_held own) ≡ held_within (negsuc 8190) (pos 8191) z +ℤ pos 32768)
    × ((24577 ≤ lane_held own) × (lane_held own ≤ 40959))
held_is own z e = grind (arith, least_is (at_least 24577 own) 40959, most_is 24577 own)

-- A2 of a lane
abbrev pub lane_a2 : ℕ → ℕ → ℕ → ℕ → ℕ → ℕ
lane_a2 a1 a2 p p1 p2 =
    let change = chosen (p == 0) 384 (lane_moved (p / 32768 == p1 / 32768) (p / 32768 == p2 / 32768) (lane_held
    (raised a1)))
    in let sum = (least (left_of (raised a2) 128 256) 64767 + change) % 65536 in
    (least (at_least 20864 sum) 45440 + 32384) % 65536

-- the sum limited
limited : (left change : ℕ) (z u : ℤ) → pos left ≡ z +ℤ pos 32768 → pos change ≡ u +ℤ pos 384 → left < 65536
    → change ≤ 768
    → to_z w16 ((least (at_least 20864 ((least left 64767 + change) % 65536)) 45440 + 32384) % 65536)
    ≡ held_within (negsuc 12287) (pos 12288) (z +ℤ u)
limited left change z u e f left_below change_below =
    let first : least left 64767 ≡ min left 64767 = least_is left 64767 in
    let sum = (min left 64767 + change) % 65536 in
    let last : least (at_least 20864 sum) 45440 ≡ min (max sum 20864) 45440 =
    rw (least_is (at_least 20864 sum) 45440, most_is 20864 sum) refl in
    rw (first, last, less_is (min (max sum 20864) 45440) 33152 (omega arith) (omega arith) (omega arith) (omega arith))
    (omega (arith, ints, clamps, e, f))

-- it is UPA2 and LIMC of the numbers
pub a2_is : (a1 a2 p p1 p2 : ℕ) → a1 < 65536 → a2 < 65536 → p < 65536 → p1 < 65536 → p2 < 65536
    → to_z w16 (lane_a2 a1 a2 p p1 p2)
    ≡ updated_a2 (to_z w16 a1) (to_z w16 a2) (to_z w16 p) (is_negative (to_z w16 p)) (is_negative (to_z w16 p1))
    (is_negative (to_z w16 p2))
unfolding upa2_change
a2_is a1 a2 p p1 p2 a1_below a2_below p_below p1_below p2_below =
    let held = held_is (raised a1) (to_z w16 a1) (raised_is a1 a1_below) in
    let z1 = held_within (negsuc 8190) (pos 8191) (to_z w16 a1) in
    let d1 = signs_differ (is_negative (to_z w16 p)) (is_negative (to_z w16 p1)) in
    let d2 = signs_differ (is_negative (to_z w16 p)) (is_negative (to_z w16 p2)) in
    let change = changed_is (is_zero (to_z w16 p)) d1 d2 (lane_held (raised a1)) z1 held.0 held.1.0 held.1.1 in
    rw (zero_is p p_below, same_sign p p1 p_below p1_below, same_sign p p2 p_below p2_below)
    (limited (left_of (raised a2) 128 256) (chosen (is_zero (to_z w16 p)) 384 (lane_moved (not d1) (not d2)
    (lane_held (raised a1))))
    (to_z w16 a2 -ℤ shr_z (to_z w16 a2) 128)
    (upa2_change (to_z w16 a1) (to_z w16 p) (is_negative (to_z w16 p)) (is_negative (to_z w16 p1)) (is_negative
    (to_z w16 p2)))
    (left7 (raised a2) (to_z w16 a2) (omega arith) (raised_is a2 a2_below))
    change.0 (omega arith) change.1)

-- A1 of a lane
abbrev pub lane_a1 : ℕ → ℕ → ℕ → ℕ → ℕ
lane_a1 a1 new_a2 p p1 =
    let change = chosen (p == 0) 192 (chosen (p / 32768 == p1 / 32768) 384 0) in
    let sum = (least (left_of (raised a1) 256 128) 65151 + change) % 65536 in
    (least (at_least ((raised new_a2 + 50368) % 65536) sum) ((15552 + (65536 - raised new_a2)) % 65536) + 32576)
    % 65536

-- the change of UPA1, plus 192
change1_is : (zero d1 : Bool) → (pos (chosen zero 192 (chosen (not d1) 384 0))
    ≡ cond zero (pos 0) (cond d1 (negsuc 191) (pos 192)) +ℤ pos 192) × (chosen zero 192 (chosen (not d1) 384 0) ≤ 384)
change1_is zero d1 = search rules

-- the sum within the limits that LIMD takes from A2
limited1 : (left change new : ℕ) (z u a2 : ℤ) → pos left ≡ z +ℤ pos 32768 → pos change ≡ u +ℤ pos 192
    → pos new ≡ a2 +ℤ pos 32768 → left < 65536 → change ≤ 384 → negsuc 12287 ≤ℤ a2 → a2 ≤ℤ pos 12288
    → to_z w16 ((least (at_least ((new + 50368) % 65536) ((least left 65151 + change) % 65536))
    ((15552 + (65536 - new)) % 65536) + 32576) % 65536)
    ≡ held_within (neg_ℤ (pos 15360 -ℤ a2)) (pos 15360 -ℤ a2) (z +ℤ u)
limited1 left change new z u a2 e f g left_below change_below low high =
    let first : least left 65151 ≡ min left 65151 = least_is left 65151 in
    let sum = (min left 65151 + change) % 65536 in
    let bottom : (new + 50368) % 65536 ≡ new - 15168 = omega (arith, ints) in
    let ceiling : (15552 + (65536 - new)) % 65536 ≡ 81088 - new = omega (arith, ints) in
    let last : least (at_least (new - 15168) sum) (81088 - new) ≡ min (max sum (new - 15168)) (81088 - new) =
    rw (least_is (at_least (new - 15168) sum) (81088 - new), most_is (new - 15168) sum) refl in
    rw (
      first,
      bottom,
      ceiling,
      last,
      less_is (min (max sum (new - 15168)) (81088 - new)) 32960 (omega (arith, ints)) (omega arith)
          (omega (arith, ints)) (omega (arith, ints)),
    )
    (omega (arith, ints, clamps, e, f, g))

-- it is UPA1 and LIMD of the numbers
pub a1_is : (a1 new_a2 p p1 : ℕ) → a1 < 65536 → new_a2 < 65536 → p < 65536 → p1 < 65536
    → negsuc 12287 ≤ℤ to_z w16 new_a2 → to_z w16 new_a2 ≤ℤ pos 12288
    → to_z w16 (lane_a1 a1 new_a2 p p1)
    ≡ updated_a1 (to_z w16 a1) (to_z w16 new_a2) (to_z w16 p) (is_negative (to_z w16 p)) (is_negative (to_z w16 p1))
unfolding upa1_change
a1_is a1 new_a2 p p1 a1_below new_below p_below p1_below low high =
    let d1 = signs_differ (is_negative (to_z w16 p)) (is_negative (to_z w16 p1)) in
    let change = change1_is (is_zero (to_z w16 p)) d1 in
    rw (zero_is p p_below, same_sign p p1 p_below p1_below)
    (limited1 (left_of (raised a1) 256 128) (chosen (is_zero (to_z w16 p)) 192 (chosen (not d1) 384 0)) (raised
    new_a2)
    (to_z w16 a1 -ℤ shr_z (to_z w16 a1) 256)
    (upa1_change (to_z w16 p) (is_negative (to_z w16 p)) (is_negative (to_z w16 p1))) (to_z w16 new_a2)
    (left8 (raised a1) (to_z w16 a1) (omega arith) (raised_is a1 a1_below))
    change.0 (raised_is new_a2 new_below) (omega arith) change.1 low high)

-- what LIMC gives is within its limits
held_bounds : (z : ℤ) → (negsuc 12287 ≤ℤ held_within (negsuc 12287) (pos 12288) z)
    × (held_within (negsuc 12287) (pos 12288) z ≤ℤ pos 12288)
held_bounds z = (omega (arith, ints, clamps), omega (arith, ints, clamps))

-- so is A2 of a lane
pub a2_within : (a1 a2 p p1 p2 : ℕ) → a1 < 65536 → a2 < 65536 → p < 65536 → p1 < 65536 → p2 < 65536
    → (negsuc 12287 ≤ℤ to_z w16 (lane_a2 a1 a2 p p1 p2)) × (to_z w16 (lane_a2 a1 a2 p p1 p2) ≤ℤ pos 12288)
a2_within a1 a2 p p1 p2 a1_below a2_below p_below p1_below p2_below =
    rw (a2_is a1 a2 p p1 p2 a1_below a2_below p_below p1_below p2_below) (held_bounds (leaked (to_z w16 a2) 7 +ℤ
    upa2_change (to_z w16 a1) (to_z w16 p) (is_negative (to_z w16 p))
    (is_negative (to_z w16 p1)) (is_negative (to_z w16 p2))))
