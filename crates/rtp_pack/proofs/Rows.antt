-- The definitions on a worked example, by computing.
use Rattle.std.proofs.Common.{◌≡◌, [], ◌∷◌, refl}
use Rattle.rtp_pack.specs.Payload.{octets_of, words_of}

-- eight words of three bits, packed
three_bit_words-packed : octets_of 3 (1 ∷ 2 ∷ 3 ∷ 4 ∷ 5 ∷ 6 ∷ 7 ∷ 1 ∷ []) ≡ 0xD1 ∷ 0x58 ∷ 0x3F ∷ []
unfolding octets_of
three_bit_words-packed = refl

-- ten words of three bits, read; two bits are left over
three_bit_words-read : words_of 3 (0xD1 ∷ 0x58 ∷ 0x3F ∷ 0x05 ∷ []) ≡ 1 ∷ 2 ∷ 3 ∷ 4 ∷ 5 ∷ 6 ∷ 7 ∷ 1 ∷ 5 ∷ 0 ∷ []
unfolding words_of
three_bit_words-read = refl
