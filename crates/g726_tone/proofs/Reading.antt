-- Numbers that are read from 32 bits.
use Rattle.std.proofs.lemmas.Grind.{common_steps}
use Rattle.std.proofs.Common.{Bool, Option, Some, refl, ◌≡◌, ap, ◌<◌, ◌≤◌, ℕ, ℤ, pos, negsuc, ◌≤ℤ◌, to_z, of_z, w32}
use Rattle.std.proofs.Common.{arith}
use Rattle.std.proofs.lemmas.Int.{ints, to_z-of_z}
use lib.Signed.{mag}
use Rattle.g726_tone.specs.Adaptation.{Adaptation, IsKept, InRange}

-- a 32-bit number is read as it was written
pub once : (z : ℤ) → mag z < 2147483648 → to_z w32 (of_z w32 z) ≡ z
once z few = to_z-of_z w32 z (record { sfits = few })

-- a number from a natural one to 327680 has 32 bits
few_bits : (z : ℤ) (low : ℕ) → pos low ≤ℤ z → z ≤ℤ pos 327680 → mag z < 2147483648
few_bits (pos a) low h k = omega (arith, ints)
few_bits (negsuc a) low h k = absurd (omega (arith, ints))

-- the numbers of a state have 32 bits
pub record HasFew (s : Adaptation) (y : ℤ) : Type 0 where
  pub yl : mag s.yl < 2147483648
  pub dms : mag s.dms < 2147483648
  pub dml : mag s.dml < 2147483648
  pub ap : mag s.ap < 2147483648
  pub scale : mag y < 2147483648

-- so they have in their ranges
pub few : (s : Adaptation) (y : ℤ) → IsKept s y → HasFew s y
few s y h = grind (arith, common_steps)

-- a state in its ranges, read from numbers of 32 bits that are its own
pub same : (s : Adaptation) (yu yl dms dml ap : ℤ) (td : Bool) → InRange s → yu ≡ s.yu → yl ≡ s.yl
    → dms ≡ s.dms → dml ≡ s.dml → ap ≡ s.ap → td ≡ s.td → ◌≡◌ {A = Adaptation} (record {
      yu = to_z w32 (of_z w32 yu);
      yl = to_z w32 (of_z w32 yl);
      dms = to_z w32 (of_z w32 dms);
      dml = to_z w32 (of_z w32 dml);
      ap = to_z w32 (of_z w32 ap);
      td = td;
    }) s
same s yu yl dms dml ap td r a b c d e f =
    let y = once s.yu (few_bits s.yu 544 r.yu_low (omega (arith, ints, r.yu_high))) in
    let l = once s.yl (few_bits s.yl 34816 r.yl_low r.yl_high) in
    let m = once s.dms (few_bits s.dms 0 r.dms_low (omega (arith, ints, r.dms_high))) in
    let n = once s.dml (few_bits s.dml 0 r.dml_low (omega (arith, ints, r.dml_high))) in
    let p = once s.ap (few_bits s.ap 0 r.ap_low (omega (arith, ints, r.ap_high))) in
    rw (a, b, c, d, e, f, y, l, m, n, p) refl

-- two numbers that are read are those that were saved
pub two_read : (a b c d : ℤ) → ◌≡◌ {A = Option (ℤ × ℤ)} (Some (a, b)) (Some (c, d)) → (a ≡ c) × (b ≡ d)
two_read a b c d e = grind (arith, common_steps)

-- and so are three
pub three_read : (a b c d f g : ℤ) → ◌≡◌ {A = Option (ℤ × ℤ × ℤ)} (Some (a, b, c)) (Some (d, f, g))
    → (a ≡ d) × (b ≡ f) × (c ≡ g)
three_read a b c d f g e = grind (arith, common_steps)

-- and a flag
pub flag_read : (a b : Bool) → ◌≡◌ {A = Option Bool} (Some a) (Some b) → a ≡ b
flag_read a b e = cc
