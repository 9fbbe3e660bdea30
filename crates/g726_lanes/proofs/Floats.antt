-- Magnitudes of 15 bits as floats of 32 bits, and the numbers that lanes read from their upper halves.
use Rattle.g726_lanes.proofs.Common.{◌≡◌, ◌<◌, ℕ, ◌+◌, ◌-◌, ◌*◌, ◌/◌, ◌%◌, ◌^◌, pos, Bool, true, false, not, ◌&&◌, ◌||◌}
use Rattle.g726_lanes.proofs.Common.{bit_and, below_more, nat_lt, nat_le, to_z, w16, w32, Fits, arith, refl, cond, top}
use Rattle.g726_lanes.proofs.Common.{agree_below, agree_below_at, and_parts, eqb-true, ltb-true, to_z_pos, nat_tests}
use Rattle.g726_lanes.proofs.Common.{number_of_bits, exponent, log, antilog, mantissa_of, packed, at_least}
use Rattle.std.proofs.Common.{◌==◌}
use Rattle.std.specs.Int.Count.{count_trailing_zeros}
use lib.Dec.{T}
use lib.Ieee.{Float, of_int, to_bits, is_nan, in_float, round, units, odd, size, span, climb}
use lib.Ieee.Format.{binary32}
use Rattle.g726_predict.proofs.Floats.{holds}

-- the upper half of a float's bits
abbrev pub upper : ℕ → ℕ
upper magnitude = to_bits binary32 (of_int binary32 (pos magnitude)) / 65536

-- the logarithm and the word that a lane makes of it
abbrev pub half_log : ℕ → ℕ
half_log half = (at_least 16256 half + 49280) % 65536

abbrev pub half_word : ℕ → ℕ
half_word half =
    let held = at_least 4032 (half / 4) in
    (((held + held) % 65536 + (65536 - bit_and held 31)) % 65536 + 57504) % 65536

-- whether these are those of the magnitude
abbrev has_half : ℕ → ℕ → Bool
has_half half magnitude =
    (half_log half == log magnitude)
    && ((half_word half == packed false (number_of_bits magnitude) (mantissa_of magnitude)) && nat_lt half 65536)

-- whether a float is that of the magnitude
abbrev has_float : Float → ℕ → Bool
has_float float magnitude = has_half (to_bits binary32 float / 65536) magnitude && not (is_nan float)

-- whether the conversion is exact, and gives such a float
abbrev is_float : ℕ → Bool
is_float magnitude = in_float binary32 (pos magnitude) && has_float (of_int binary32 (pos magnitude)) magnitude

-- whether a block of 2048 magnitudes has these
abbrev AreFloats : ℕ → Type 0
AreFloats block = agree_below (λ m. is_float (block * 2048 + m)) (λ _. true) 2048 ≡ true

-- 0 to 2047
floats0 : AreFloats 0
unfolding of_int to_bits is_nan in_float round units odd size span climb count_trailing_zeros number_of_bits
    mantissa_of exponent log
floats0 = refl

-- 2048 to 4095
floats1 : AreFloats 1
unfolding of_int to_bits is_nan in_float round units odd size span climb count_trailing_zeros number_of_bits
    mantissa_of exponent log
floats1 = refl

-- 4096 to 6143
floats2 : AreFloats 2
unfolding of_int to_bits is_nan in_float round units odd size span climb count_trailing_zeros number_of_bits
    mantissa_of exponent log
floats2 = refl

-- 6144 to 8191
floats3 : AreFloats 3
unfolding of_int to_bits is_nan in_float round units odd size span climb count_trailing_zeros number_of_bits
    mantissa_of exponent log
floats3 = refl

-- 8192 to 10239
floats4 : AreFloats 4
unfolding of_int to_bits is_nan in_float round units odd size span climb count_trailing_zeros number_of_bits
    mantissa_of exponent log
floats4 = refl

-- 10240 to 12287
floats5 : AreFloats 5
unfolding of_int to_bits is_nan in_float round units odd size span climb count_trailing_zeros number_of_bits
    mantissa_of exponent log
floats5 = refl

-- 12288 to 14335
floats6 : AreFloats 6
unfolding of_int to_bits is_nan in_float round units odd size span climb count_trailing_zeros number_of_bits
    mantissa_of exponent log
floats6 = refl

-- 14336 to 16383
floats7 : AreFloats 7
unfolding of_int to_bits is_nan in_float round units odd size span climb count_trailing_zeros number_of_bits
    mantissa_of exponent log
floats7 = refl

-- 16384 to 18431
floats8 : AreFloats 8
unfolding of_int to_bits is_nan in_float round units odd size span climb count_trailing_zeros number_of_bits
    mantissa_of exponent log
floats8 = refl

-- 18432 to 20479
floats9 : AreFloats 9
unfolding of_int to_bits is_nan in_float round units odd size span climb count_trailing_zeros number_of_bits
    mantissa_of exponent log
floats9 = refl

-- 20480 to 22527
floats10 : AreFloats 10
unfolding of_int to_bits is_nan in_float round units odd size span climb count_trailing_zeros number_of_bits
    mantissa_of exponent log
floats10 = refl

-- 22528 to 24575
floats11 : AreFloats 11
unfolding of_int to_bits is_nan in_float round units odd size span climb count_trailing_zeros number_of_bits
    mantissa_of exponent log
floats11 = refl

-- 24576 to 26623
floats12 : AreFloats 12
unfolding of_int to_bits is_nan in_float round units odd size span climb count_trailing_zeros number_of_bits
    mantissa_of exponent log
floats12 = refl

-- 26624 to 28671
floats13 : AreFloats 13
unfolding of_int to_bits is_nan in_float round units odd size span climb count_trailing_zeros number_of_bits
    mantissa_of exponent log
floats13 = refl

-- 28672 to 30719
floats14 : AreFloats 14
unfolding of_int to_bits is_nan in_float round units odd size span climb count_trailing_zeros number_of_bits
    mantissa_of exponent log
floats14 = refl

-- 30720 to 32767
floats15 : AreFloats 15
unfolding of_int to_bits is_nan in_float round units odd size span climb count_trailing_zeros number_of_bits
    mantissa_of exponent log
floats15 = refl

-- each of the sixteen blocks
all_blocks : (block : ℕ) → block < 16 → AreFloats block
all_blocks =
    below_more AreFloats 15 (below_more AreFloats 14 (below_more AreFloats 13 (below_more AreFloats 12
    (below_more AreFloats 11 (below_more AreFloats 10 (below_more AreFloats 9 (below_more AreFloats 8
    (below_more AreFloats 7 (below_more AreFloats 6 (below_more AreFloats 5 (below_more AreFloats 4
    (below_more AreFloats 3 (below_more AreFloats 2 (below_more AreFloats 1 (below_more AreFloats 0 (λ block
    h. absurd (omega arith)) floats0) floats1) floats2) floats3) floats4) floats5) floats6) floats7) floats8)
    floats9) floats10) floats11) floats12) floats13) floats14) floats15

-- each magnitude of 15 bits
all_floats : (m : ℕ) → m < 32768 → is_float m ≡ true
all_floats m below =
    let block = all_blocks (m / 2048) (omega arith) in
    let one = agree_below_at (λ k. is_float (m / 2048 * 2048 + k)) (λ _. true) 2048 (m % 2048) block (omega arith) in
    let same : m / 2048 * 2048 + m % 2048 ≡ m = omega arith in
    rw same at one

-- what is known of the float of a magnitude
pub record IsFloat (magnitude : ℕ) : Type 0 where
  pub log : half_log (upper magnitude) ≡ log magnitude
  pub word : half_word (upper magnitude) ≡ packed false (number_of_bits magnitude) (mantissa_of magnitude)
  pub fits : upper magnitude < 65536
  pub exact : in_float binary32 (pos magnitude) ≡ true
  pub number : not (is_nan (of_int binary32 (pos magnitude))) ≡ true

-- this holds of each magnitude of 15 bits
pub float_is : (magnitude : ℕ) → magnitude < 32768 → IsFloat magnitude
float_is magnitude below =
    let one = and_parts _ _ (all_floats magnitude below) in
    let two = and_parts _ _ one.1 in
    let three = and_parts _ _ two.0 in
    let four = and_parts _ _ three.1 in
    record {
      log = eqb-true _ _ three.0;
      word = eqb-true _ _ four.0;
      fits = ltb-true _ _ four.1;
      exact = one.0;
      number = two.1;
    }

-- its conversion is exact
pub exact : (magnitude : ℕ) → magnitude < 32768 → T (in_float binary32 (to_z w32 magnitude))
exact magnitude below = rw (to_z_pos w32 magnitude (omega arith)) (holds _ (float_is magnitude below).exact)

-- its float is a number
pub number : (magnitude : ℕ) → magnitude < 32768 → T (not (is_nan (of_int binary32 (to_z w32 magnitude))))
number magnitude below = rw (to_z_pos w32 magnitude (omega arith)) (holds _ (float_is magnitude below).number)

-- the upper half of a lane's float
abbrev pub lane_half : ℕ → ℕ
lane_half magnitude = to_bits binary32 (of_int binary32 (to_z w32 magnitude)) / 65536

-- it is the upper half of the float of the magnitude
pub half_is : (magnitude : ℕ) → magnitude < 32768 → lane_half magnitude ≡ upper magnitude
half_is magnitude below = rw (to_z_pos w32 magnitude (omega arith)) refl

-- it has 16 bits
pub half_fits : (magnitude : ℕ) → magnitude < 32768 → Fits w16 (lane_half magnitude)
half_fits magnitude below = rw (half_is magnitude below) (record { fits = (float_is magnitude below).fits })

-- ANTILOG of a lane
abbrev pub lane_antilog : ℕ → ℕ
lane_antilog l =
    cond (top 15 (cond (nat_le 2048 l) 65535 0)) 0
    (bit_and ((bit_and l 127 + 128) % 65536 * 2 ^ bit_and (l / 128) 15 % 4294967296 / 128) 65535)

abbrev is_antilog : ℕ → Bool
is_antilog l =
    (nat_le 1920 l && nat_lt l 2048) || ((lane_antilog l == antilog l) && nat_lt (antilog l) 32768)

-- this is computed at each logarithm of 12 bits
all_antilogs : agree_below is_antilog (λ _. true) 4096 ≡ true
unfolding antilog
all_antilogs = refl

-- the lane is ANTILOG of each logarithm that ADDA gives, and has 15 bits
pub antilog_is : (l : ℕ) → l < 4096 → (l < 2048 → l < 1920) → (lane_antilog l ≡ antilog l) × (antilog l < 32768)
antilog_is l below whole =
    let one = agree_below_at is_antilog (λ _. true) 4096 l all_antilogs below in
    let two = and_parts _ _ (either (nat_le 1920 l && nat_lt l 2048) _ (outside l whole) one) in
    (eqb-true _ _ two.0, ltb-true _ _ two.1)
  where
    either : (a b : Bool) → a ≡ false → (a || b) ≡ true → b ≡ true
    either true b p q = absurd (cc p)
    either false b p q = q

    outside : (l : ℕ) → (l < 2048 → l < 1920) → (nat_le 1920 l && nat_lt l 2048) ≡ false
    outside l whole = grind (arith, nat_tests)
