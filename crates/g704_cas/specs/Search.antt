-- Finding multiframe alignment in the octets of time slot 16 (ITU-T G.732, 5.2).
use Rattle.std.specs.Prelude.{◌≡◌, ℕ, zero, suc, ◌-◌, Bool, false, not, ◌&&◌, ◌==◌, nat_lt, nat_le, bit_and}
use Rattle.std.specs.Prelude.{if◌then◌else◌, List, [], ◌∷◌, length, slice_index, Option, Some, None}
use Rattle.g704_framing.specs.Least.{least}
use Rattle.g704_framing.specs.Alignment.{later}

-- bits 1 to 4 are the multiframe alignment signal 0000, as in the octet of frame 0 (ITU-T G.704, 5.1.3.2.2)
unfoldable pub is_mfas : ℕ → Bool
is_mfas octet = bit_and octet 0xf0 == 0

-- there is an octet before, and it is not 0
abbrev pub is_not_zero : Option ℕ → Bool
is_not_zero None = false
is_not_zero (Some octet) = not (octet == 0)

-- The search from a position, in octets after this one, if any: the first right octet behind one that is not
-- 0. The octet before may be the one by which an alignment was lost.
unfoldable pub search : Option ℕ → List ℕ → ℕ → Option ℕ
search before [] from = None
search before (octet ∷ octets) (suc from) = later (search (Some octet) octets from)
search before (octet ∷ octets) zero =
    if is_mfas octet && is_not_zero before then Some 0 else later (search (Some octet) octets 0)

-- an alignment can be found at this position: its octet is right, and the one before it is not 0
abbrev pub is_found_at : List ℕ → ℕ → Bool
is_found_at octets position =
    nat_lt 0 position
    && (is_mfas (slice_index octets position) && not (slice_index octets (position - 1) == 0))

-- a search in all the octets gives the least such position from its begin
abbrev pub SearchIsLeast : Type 0
SearchIsLeast = (octets : List ℕ) (from : ℕ)
    → search None octets from
    ≡ least (λ position. nat_le from position && is_found_at octets position) (length octets)
