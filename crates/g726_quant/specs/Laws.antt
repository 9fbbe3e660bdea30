-- Laws of the definitions of ITU-T G.726.
use Rattle.std.specs.Prelude.{ℕ, ◌≡◌, ◌≢◌, ◌^◌, ◌<◌, ◌≤◌, ℤ, pos, negsuc, ◌+ℤ◌, ◌*ℤ◌, ◌≤ℤ◌, Bool, IsTrue}
use Rattle.g726_quant.specs.Arithmetic.{wrap16, number_of_bits}
use Rattle.g726_quant.specs.Tables.{RateTables, magnitudes, has_its_places}
use Rattle.g726_quant.specs.Blocks.{log, subtb, quan_word, word_magnitude, quantised}

-- wrap16 returns a 16-bit number that differs by a multiple of 65536
abbrev pub WrapsTo16Bits : Type 0
WrapsTo16Bits = (z : ℤ) → (negsuc 32767 ≤ℤ wrap16 z) × (wrap16 z ≤ℤ pos 32767) ×
    ((k : ℤ) × (z ≡ wrap16 z +ℤ k *ℤ pos 65536))

-- the number of bits is the least k with m < 2 ^ k
abbrev pub NumberOfBitsIsLeast : Type 0
NumberOfBitsIsLeast = (m : ℕ) → (m < 2 ^ number_of_bits m) × ((k : ℕ) → m < 2 ^ k → number_of_bits m ≤ k)

-- DLN is a twelve-bit number
abbrev pub DlnHasTwelveBits : Type 0
DlnHasTwelveBits = (dqm y : ℕ) → dqm < 32768 → 544 ≤ y → y ≤ 5120
    → (negsuc 2047 ≤ℤ subtb (log dqm) y) × (subtb (log dqm) y ≤ℤ pos 2047)

-- with more than two bits the word of all zeros is never sent
abbrev pub AllZerosNeverSent : Type 0
AllZerosNeverSent =
    (r : RateTables) (d : ℤ) (y : ℕ) → IsTrue (has_its_places r) → 2 < r.bits → quantised r d y ≢ 0

-- a word has the magnitude that it was made from
abbrev pub MagnitudesComeBack : Type 0
MagnitudesComeBack = (bits : ℕ) (ds : Bool) (magnitude : ℕ) → 2 ≤ bits → magnitude < magnitudes bits
    → word_magnitude bits (quan_word bits ds magnitude) ≡ magnitude
