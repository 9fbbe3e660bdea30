-- Remainders as numbers.
use Rattle.g704_crc4.proofs.Common.{◌≡◌, ℕ, ◌*◌, ◌<◌, Bool, true, false, get_or, refl, ◌==◌, bit_xor, rules}
use Rattle.g704_crc4.proofs.Common.{agree_below, agree_below_at, eqb-true, Remainder, after_octet, crc_number}
use Rattle.g704_crc4.specs.declared.table.TheConstants.{REMAINDERS}

-- The table has the remainder with an octet more.
abbrev is_entry : Remainder → ℕ → Bool
is_entry left octet =
    get_or REMAINDERS (bit_xor (16 * crc_number left) octet) 0 == crc_number (after_octet left octet)

-- It has it for each remainder and each octet.
all-entries : (a b c d : Bool)
    → agree_below (is_entry (record { c1 = a; c2 = b; c3 = c; c4 = d })) (λ _. true) 256 ≡ true
all-entries false false false false = refl
all-entries false false false true = refl
all-entries false false true false = refl
all-entries false false true true = refl
all-entries false true false false = refl
all-entries false true false true = refl
all-entries false true true false = refl
all-entries false true true true = refl
all-entries true false false false = refl
all-entries true false false true = refl
all-entries true false true false = refl
all-entries true false true true = refl
all-entries true true false false = refl
all-entries true true false true = refl
all-entries true true true false = refl
all-entries true true true true = refl

-- So the entry is the number of the remainder with the octet more.
pub entry-is : (left : Remainder) (octet : ℕ) → octet < 256
    → get_or REMAINDERS (bit_xor (16 * crc_number left) octet) 0 ≡ crc_number (after_octet left octet)
entry-is left octet lt =
    eqb-true _ _ (agree_below_at (is_entry left) (λ _. true) 256 octet
    (all-entries left.c1 left.c2 left.c3 left.c4) lt)

-- A remainder has four bits.
all-below : (a b c d : Bool) → crc_number (record { c1 = a; c2 = b; c3 = c; c4 = d }) < 16
all-below a b c d = search rules

-- So its number is below 16.
pub number-below : (left : Remainder) → crc_number left < 16
number-below left = all-below left.c1 left.c2 left.c3 left.c4
