-- Worked examples of the quantisers, at the scale factor 544.
use Rattle.std.proofs.Common.{◌≡◌, refl, ℕ, pos, negsuc, Bool, true, false}
use Rattle.g726_quant.specs.Arithmetic.{number_of_bits}
use Rattle.g726_quant.specs.Tables.{RateTables, tables16, tables24, tables32, tables40}
use Rattle.g726_quant.specs.Blocks.{exponent, log, antilog, quantised, reconstructed, word_is_negative}

-- the words of 2, 0 and -2
abbrev near_zero : RateTables → ℕ × ℕ × ℕ
near_zero r = (quantised r (pos 2) 544, quantised r (pos 0) 544, quantised r (negsuc 1) 544)

-- at each rate
quantised_near_zero :
    (near_zero tables16 ≡ (0, 0, 3)) × (near_zero tables24 ≡ (7, 7, 7)) × (near_zero tables32 ≡ (1, 15, 14)) ×
    (near_zero tables40 ≡ (2, 31, 29))
unfolding quantised log exponent number_of_bits
quantised_near_zero = (refl, refl, refl, refl)

-- the words of the greatest and the least difference
quantised_extremes : (quantised tables40 (pos 32767) 544 ≡ 15) × (quantised tables40 (negsuc 32766) 544 ≡ 16)
unfolding quantised log exponent number_of_bits
quantised_extremes = (refl, refl)

-- the sign and the magnitude of a word
abbrev value : RateTables → ℕ → Bool × ℕ
value r word = (word_is_negative r.bits word, reconstructed r word 544)

-- of some words at each rate
reconstructed_words :
    (value tables32 0 ≡ (false, 0)) × (value tables32 15 ≡ (true, 0)) × (value tables32 1 ≡ (false, 2)) ×
    (value tables32 14 ≡ (true, 2)) × (value tables32 7 ≡ (false, 22)) × (value tables16 0 ≡ (false, 3)) ×
    (value tables24 7 ≡ (true, 0)) × (value tables40 2 ≡ (false, 2))
unfolding reconstructed antilog
reconstructed_words = (refl, refl, refl, refl, refl, refl, refl, refl)
