-- The adaptive quantiser of ITU-T G.726 and its inverse, by the blocks of the Recommendation.
use Rattle.std.specs.Prelude.{ℕ, ◌+◌, ◌-◌, ◌*◌, ◌/◌, ◌%◌, ◌^◌, ℤ, pos, ◌+ℤ◌, ◌-ℤ◌, Bool, ◌&&◌, ◌||◌, ◌==◌}
use Rattle.std.specs.Prelude.{nat_le, nat_lt, List, count_by, slice_index_or, unsigned_abs, if◌then◌else◌}
use Rattle.std.specs.Int.{int_rem_euclid, is_negative}
use Rattle.std.specs.Int.RustNames.{int_le}
use Rattle.g726_quant.specs.Arithmetic.{number_of_bits}
use Rattle.g726_quant.specs.Tables.{RateTables, magnitudes}

-- LOG: EXP, the place of the highest bit set in DQM, from 0; 0 for 0
unfoldable pub exponent : ℕ → ℕ
exponent dqm = number_of_bits dqm - 1

-- LOG: DL, the logarithm of DQM, a difference's magnitude, with seven fractional bits
unfoldable pub log : ℕ → ℕ
log dqm = 128 * exponent dqm + dqm * 2 ^ 7 / 2 ^ exponent dqm % 128

-- SUBTB: DLN, DL less the scale factor's logarithm
abbrev pub subtb : ℕ → ℕ → ℤ
subtb dl y = pos dl -ℤ pos (y / 2 ^ 2)

-- QUAN: the magnitude is the number of thresholds at or below DLN
abbrev pub quan_magnitude : List ℤ → ℤ → ℕ
quan_magnitude thresholds dln = count_by (λ threshold. int_le threshold dln) thresholds

-- QUAN: I is the magnitude, or its complement if DS is 1. With more than two bits 0 is sent as all ones
abbrev pub quan_word : ℕ → Bool → ℕ → ℕ
quan_word bits ds magnitude =
    if ds || (nat_lt 2 bits && (magnitude == 0)) then 2 ^ bits - 1 - magnitude else magnitude

-- QUAN: I
abbrev pub quan : RateTables → Bool → ℤ → ℕ
quan r ds dln = quan_word r.bits ds (quan_magnitude r.thresholds dln)

-- LOG, SUBTB and QUAN: I, the word of a difference D at a scale factor Y
unfoldable pub quantised : RateTables → ℤ → ℕ → ℕ
quantised r d y = quan r (is_negative d) (subtb (log (unsigned_abs d)) y)

-- RECONST: DQS, whether the top bit of a word is set
abbrev pub word_is_negative : ℕ → ℕ → Bool
word_is_negative bits word = nat_le (magnitudes bits) word

-- RECONST: the magnitude of a word, that of its complement if the top bit is set. That of all zeros is 0,
-- also with more than two bits (our choice)
abbrev pub word_magnitude : ℕ → ℕ → ℕ
word_magnitude bits word = if word_is_negative bits word then 2 ^ bits - 1 - word else word

-- RECONST: DQLN
abbrev pub reconst : RateTables → ℕ → ℤ
reconst r magnitude = slice_index_or r.log_levels magnitude (pos 0)

-- ADDA: DQL
abbrev pub adda : ℤ → ℕ → ℕ
adda dqln y = unsigned_abs (int_rem_euclid (dqln +ℤ pos (y / 2 ^ 2)) (pos 4096))

-- ANTILOG: the magnitude of DQ
unfoldable pub antilog : ℕ → ℕ
antilog dql = if nat_le 2048 dql then 0 else (128 + dql % 128) * 2 ^ 7 / 2 ^ (14 - dql / 2 ^ 7)

-- RECONST, ADDA and ANTILOG: the magnitude of DQ, a word's quantised difference
unfoldable pub reconstructed : RateTables → ℕ → ℕ → ℕ
reconstructed r word y = antilog (adda (reconst r (word_magnitude r.bits word)) y)

-- SYNC: IM and ID, a word with its top bit inverted
abbrev pub word_order : ℕ → ℕ → ℕ
word_order bits word = if word_is_negative bits word then word - magnitudes bits else word + magnitudes bits

-- FUNCTW: WI, the multiplier for a magnitude
abbrev pub functw : RateTables → ℕ → ℤ
functw r magnitude = slice_index_or r.multipliers magnitude (pos 0)

-- FUNCTF: FI, the value of the speed control for a magnitude
abbrev pub functf : RateTables → ℕ → ℕ
functf r magnitude = slice_index_or r.speed_values magnitude 0
