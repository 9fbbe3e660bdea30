-- The blocks of the adaptation in one lane.
use Rattle.g726_lanes.proofs.Common.{◌≡◌, ◌<◌, ◌≤◌, ℕ, suc, ◌+◌, ◌-◌, ◌*◌, ◌/◌, ◌%◌, ◌^◌, min, max, cond, not, rules}
use Rattle.g726_lanes.proofs.Common.{common_steps, ◌&&◌, ◌∙◌, ap, sym, pos, negsuc, ◌+ℤ◌, ◌-ℤ◌, ◌*ℤ◌, ◌≤ℤ◌, Bool, true}
use Rattle.g726_lanes.proofs.Common.{false, to_z, w16, arith, refl, nat_le, nat_lt, ltb, inl, inr, unsigned_abs}
use Rattle.g726_lanes.proofs.Common.{bit_and, ◌==◌, and_mask, ints, clamps, cases_lt, nat_tests, shr_z, shr_bounds}
use Rattle.g726_lanes.proofs.Common.{least, at_least}
use Rattle.std.proofs.Math.Nat.{mul-le-mul}
use Rattle.std.proofs.Math.Pow.{pow_mono}
use Rattle.g726_tone.specs.Adaptation.{limb, filtd, filte, filtb, filtc, subtc, mix, lima, dqthr, thr2}
use Rattle.g726_lanes.proofs.Numbers.{least_is, most_is, raised_is}
use Rattle.g726_lanes.proofs.PoleLanes.{chosen}

-- FILTA in a lane
abbrev pub lane_short : ℕ → ℕ → ℕ
lane_short fi dms = ((dms + (65536 - (dms + 31) % 65536 / 32)) % 65536 + fi * 16 % 65536) % 65536

-- it is FILTA of the numbers, and stays in the range of DMS
pub short_is : (fi dms : ℕ) → fi ≤ 7 → dms ≤ 3584
    → (pos (lane_short fi dms) ≡ pos dms +ℤ shr_z (pos fi *ℤ pos 512 -ℤ pos dms) 32) × (lane_short fi dms ≤ 3584)
short_is fi dms few low = grind (arith, common_steps)

-- FILTB
abbrev pub lane_long : ℕ → ℕ → ℕ
lane_long fi dml = ((dml + (65536 - (dml + 127) % 65536 / 128)) % 65536 + fi * 16 % 65536) % 65536

-- it is FILTB of the numbers, and stays in the range of DML
pub long_is : (fi dml : ℕ) → fi ≤ 7 → dml ≤ 14336
    → (pos (lane_long fi dml) ≡ filtb (pos fi) (pos dml)) × (lane_long fi dml ≤ 14336)
long_is fi dml few low = grind (arith, common_steps)

-- FILTD and LIMB
abbrev pub lane_fast : ℕ → ℕ → ℕ
lane_fast wi y = least (at_least 544 (((y + (65536 - (y + 31) % 65536 / 32)) % 65536 + wi) % 65536)) 5120

-- it is FILTD and LIMB of the numbers, within 544 to 5120
pub fast_is : (wi y : ℕ) → wi < 65536 → negsuc 21 ≤ℤ to_z w16 wi → to_z w16 wi ≤ℤ pos 1122 → 544 ≤ y → y ≤ 5120
    → (pos (lane_fast wi y) ≡ limb (filtd (to_z w16 wi) (pos y))) × ((544 ≤ lane_fast wi y) × (lane_fast wi y ≤ 5120))
fast_is wi y below wi_low wi_high low high =
    let z = to_z w16 wi in
    let yut = ((y + (65536 - (y + 31) % 65536 / 32)) % 65536 + wi) % 65536 in
    let b = shr_bounds (z *ℤ pos 32 -ℤ pos y) 32 (omega arith) in
    let r = raised_is wi below in
    let value : pos yut ≡ pos y +ℤ shr_z (z *ℤ pos 32 -ℤ pos y) 32 = omega (arith, ints, b.0, b.1, r) in
    let held : lane_fast wi y ≡ min (max yut 544) 5120 = rw (least_is (at_least 544 yut) 5120, most_is 544 yut)
    refl in
    rw held (omega (arith, ints, clamps, value), (omega arith, omega arith))

-- FILTE
abbrev pub lane_moved : ℕ → ℕ → ℕ → ℕ
lane_moved yu whole fraction =
    (((((fraction + yu) % 65536 + 8192) % 65536 + (65536 - whole)) % 65536) + (65536 - least fraction 1)) % 65536

abbrev pub lane_whole : ℕ → ℕ → ℕ → ℕ
lane_whole yu whole fraction = ((whole + lane_moved yu whole fraction / 64) % 65536 + 65408) % 65536

abbrev pub lane_fraction : ℕ → ℕ → ℕ → ℕ
lane_fraction yu whole fraction = bit_and (lane_moved yu whole fraction) 63

pub record IsSlow (yu whole fraction : ℕ) : Type 0 where
  pub value : pos (64 * lane_whole yu whole fraction + lane_fraction yu whole fraction)
      ≡ filte (pos yu) (pos (64 * whole + fraction))
  pub low : 544 ≤ lane_whole yu whole fraction
  pub high : 64 * lane_whole yu whole fraction + lane_fraction yu whole fraction ≤ 327680
  pub few : lane_fraction yu whole fraction < 64
  pub whole_high : lane_whole yu whole fraction ≤ 5120

-- these are FILTE of the numbers, and stay in the range of YL
pub slow_is : (yu whole fraction : ℕ) → 544 ≤ yu → yu ≤ 5120 → 544 ≤ whole → 64 * whole + fraction ≤ 327680
    → fraction < 64 → IsSlow yu whole fraction
slow_is yu whole fraction yu_low yu_high low high few = grind (arith, common_steps)

-- SUBTC
abbrev pub lane_rises : ℕ → ℕ → ℕ → ℕ → ℕ
lane_rises y dms dml tone =
    let short = dms * 4 % 65536 in
    chosen (nat_le 1536 y)
    (chosen (nat_le (dml / 8) ((at_least dml short + (65536 - least short dml)) % 65536)) 1 tone) 1

-- AX by the two tests and the tone flag
by_tests : (steady near : Bool) (tone : ℕ)
    → nat_lt 0 (chosen steady (chosen (not near) 1 tone) 1) ≡ not ((steady && near) && not (nat_lt 0 tone))
by_tests steady near tone = search rules

-- it is SUBTC of the numbers
pub rises_is : (y dms dml tone : ℕ) → dms ≤ 3584 → dml ≤ 14336
    → nat_lt 0 (lane_rises y dms dml tone) ≡ subtc (pos y) (pos dms) (pos dml) (nat_lt 0 tone)
rises_is y dms dml tone short_low long_low = search (rules, most_is, least_is, by_tests)

-- FILTC and TRIGA
abbrev pub lane_speed : ℕ → ℕ → ℕ → ℕ
lane_speed ax tr ap =
    chosen (tr == 0) (((ap + (65536 - (ap + 15) % 65536 / 16)) % 65536 + chosen (ax == 0) 0 32) % 65536) 256

-- it is FILTC and TRIGA of the numbers, at most 512
pub speed_is : (ax tr ap : ℕ) → ap ≤ 512
    → (pos (lane_speed ax tr ap) ≡ cond (nat_lt 0 tr) (pos 256) (filtc (nat_lt 0 ax) (pos ap))) × (lane_speed ax
    tr ap ≤ 512)
speed_is ax tr ap few = search rules

-- MIX
abbrev pub lane_part : ℕ → ℕ → ℕ
lane_part distance al = distance * 8 % 65536 * (al * 128 % 65536) % 4294967296 / 65536

abbrev pub lane_mixed : ℕ → ℕ → ℕ → ℕ
lane_mixed yu whole ap =
    let part = lane_part ((at_least whole yu + (65536 - least yu whole)) % 65536) (least (ap / 4) 64) in
    chosen (nat_lt yu whole) ((whole + (65536 - part)) % 65536) ((whole + part) % 65536)

-- the upper half of the 32-bit product is the part AL / 64 of the distance, and no more than it
part_is : (distance al : ℕ) → distance ≤ 4576 → al ≤ 64
    → (lane_part distance al ≡ distance * al / 64) × (distance * al / 64 ≤ distance)
part_is distance al few small =
    let product : distance * al ≤ 4576 * 64 = mul-le-mul few small in
    let self : distance ≤ distance = omega arith in
    let most : distance * al ≤ distance * 64 = mul-le-mul self small in
    let first : distance * 8 % 65536 ≡ distance * 8 = omega arith in
    let second : al * 128 % 65536 ≡ al * 128 = omega arith in
    let same : distance * 8 * (al * 128) ≡ distance * al * 1024 = grind arith in
    (rw (first, second, same) (omega (arith, product)), omega (arith, most))

-- LIMA of a natural number
lima_is : (ap : ℕ) → lima (pos ap) ≡ pos (least (ap / 4) 64)
lima_is ap = grind (arith, least_is (ap / 4) 64, cases_lt)

-- the lane is MIX of the numbers, for any YL with that whole part, within 544 to 5120
pub mixed_is : (yu whole ap : ℕ) → 544 ≤ yu → yu ≤ 5120 → 544 ≤ whole → whole ≤ 5120 → (yl : ℕ) → yl / 64 ≡ whole
    → (pos (lane_mixed yu whole ap) ≡ mix (pos yu) (pos yl) (lima (pos ap)))
    × ((544 ≤ lane_mixed yu whole ap) × (lane_mixed yu whole ap ≤ 5120))
unfolding mix
mixed_is yu whole ap yu_low yu_high low high yl slow =
    let al = least (ap / 4) 64 in
    let al_few : al ≤ 64 = rw (least_is (ap / 4) 64) (omega arith) in
    rw (lima_is ap, slow, most_is whole yu, least_is yu whole)
    (elim (cases_lt yu whole) [
      | inl less ↦
          let t : nat_lt yu whole ≡ true = grind (arith, nat_tests) in
          let d : (max yu whole + (65536 - min yu whole)) % 65536 ≡ whole - yu = omega arith in
          let p = part_is (whole - yu) al (omega arith) al_few in
          let n : pos yu -ℤ pos whole ≡ negsuc (whole - suc yu) = omega (arith, ints) in
          let m : suc (whole - suc yu) ≡ whole - yu = omega arith in
          rw (t, d, p.0, n, m) (omega (arith, ints, p.1), (omega (arith, p.1), omega (arith, p.1)))
      | inr more ↦
          let t : nat_lt yu whole ≡ false = grind (arith, nat_tests) in
          let d : (max yu whole + (65536 - min yu whole)) % 65536 ≡ yu - whole = omega arith in
          let p = part_is (yu - whole) al (omega arith) al_few in
          let n : pos yu -ℤ pos whole ≡ pos (yu - whole) = omega (arith, ints) in
          let z : ltb (yu - whole) 0 ≡ false = grind (arith, nat_tests) in
          rw (t, d, p.0, n, z) (omega (arith, ints, p.1), (omega (arith, p.1), omega (arith, p.1)))
    ])

-- TRANS
abbrev pub lane_thr2 : ℕ → ℕ
lane_thr2 whole =
    chosen (nat_lt 9 (whole / 512)) 31744 ((bit_and (whole / 16) 31 + 32) % 65536 * 2 ^ (whole / 512) % 65536)

abbrev pub lane_threshold : ℕ → ℕ
lane_threshold whole = (lane_thr2 whole + lane_thr2 whole / 2) % 65536 / 2

-- it is DQTHR of any YL with that whole part
pub threshold_is : (whole : ℕ) → whole ≤ 5120 → (yl : ℕ) → yl / 64 ≡ whole → lane_threshold whole ≡ dqthr yl
unfolding thr2
threshold_is whole high yl slow =
    let exponent : yl / 32768 ≡ whole / 512 = omega (arith, slow) in
    let mantissa : yl / 1024 % 32 ≡ whole / 16 % 32 = omega (arith, slow) in
    let masked : bit_and (whole / 16) 31 ≡ whole / 16 % 32 = and_mask (whole / 16) 5 in
    rw (exponent, mantissa, masked)
    (elim (cases_lt 9 (whole / 512)) [
      | inl more ↦ let t : nat_lt 9 (whole / 512) ≡ true = grind (arith, nat_tests) in rw t refl
      | inr less ↦
          let t : nat_lt 9 (whole / 512) ≡ false = grind (arith, nat_tests) in
          let small : 32 + whole / 16 % 32 ≤ 63 = omega arith in
          let product : (32 + whole / 16 % 32) * 2 ^ (whole / 512) ≤ 63 * 2 ^ 9 =
          mul-le-mul small (pow_mono {i = whole / 512} {j = 9} less) in
          let sum : (whole / 16 % 32 + 32) % 65536 ≡ 32 + whole / 16 % 32 = omega arith in
          let fits : (32 + whole / 16 % 32) * 2 ^ (whole / 512) % 65536 ≡ (32 + whole / 16 % 32) * 2 ^ (whole / 512) =
          omega (arith, product) in
          rw (t, sum, fits) (omega (arith, product))
    ])

-- so is the value
pub y_is : (yu whole ap : ℕ) → 544 ≤ yu → yu ≤ 5120 → 544 ≤ whole → whole ≤ 5120 → (yl : ℕ) → yl / 64 ≡ whole
    → pos (lane_mixed yu whole ap) ≡ mix (pos yu) (pos yl) (lima (pos ap))
y_is yu whole ap yu_low yu_high low high yl slow = (mixed_is yu whole ap yu_low yu_high low high yl slow).0

-- so Y of a state, as a natural number, is MIX
pub scale_is : (yu yl speed y : ℕ) → 544 ≤ yu → yu ≤ 5120 → 34816 ≤ yl → yl ≤ 327680
    → y ≡ unsigned_abs (mix (pos yu) (pos yl) (lima (pos speed)))
    → pos y ≡ mix (pos yu) (pos yl) (lima (pos speed))
scale_is yu yl speed y yu_low yu_high low high e =
    let is = y_is yu (yl / 64) speed yu_low yu_high (omega arith) (omega arith) yl refl in
    ap pos (e ∙ ap unsigned_abs (sym is)) ∙ is

-- and so are its limits
pub y_within : (yu whole ap : ℕ) → 544 ≤ yu → yu ≤ 5120 → 544 ≤ whole → whole ≤ 5120
    → (544 ≤ lane_mixed yu whole ap) × (lane_mixed yu whole ap ≤ 5120)
y_within yu whole ap yu_low yu_high low high =
    let back : whole * 64 / 64 ≡ whole = omega arith in
    (mixed_is yu whole ap yu_low yu_high low high (whole * 64) back).1

-- TRANS: TR
pub passes_is : (td threshold magnitude : ℕ)
    → nat_lt 0 (chosen (td == 0) 0 (chosen (nat_lt threshold magnitude) 1 0)) ≡ (nat_lt 0 td && nat_lt threshold
    magnitude)
passes_is td threshold magnitude = search rules

-- TRIGA: TD
pub unset_is : (tr tone : ℕ) → nat_lt 0 (chosen (tr == 0) tone 0) ≡ cond (nat_lt 0 tr) false (nat_lt 0 tone)
unset_is tr tone = search rules
