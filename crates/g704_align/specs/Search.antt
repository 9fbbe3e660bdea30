-- Finding frame alignment in a stream of octets: FAS, NFAS and FAS, 32 octets apart (ITU-T G.706, 4.1.2).
use Rattle.std.specs.Prelude.{◌≡◌, ℕ, zero, suc, ◌+◌, Bool, not, ◌&&◌, ◌==◌, nat_le, bit_and, if◌then◌else◌}
use Rattle.std.specs.Prelude.{List, [], ◌∷◌, length, slice_index, Option, Some, None, slice_get}
use Rattle.g704_framing.specs.Least.{least}
use Rattle.g704_framing.specs.Alignment.{later}

-- bits 2 to 8 are the frame alignment signal 0011011, as in a FAS octet (ITU-T G.704, 2.3.2)
unfoldable pub is_fas : ℕ → Bool
is_fas octet = bit_and octet 0x7f == 0x1b

-- bit 2 is 1, as in an NFAS octet, slot 0 of a frame without the signal (ITU-T G.704, 2.3.2)
unfoldable pub is_nfas : ℕ → Bool
is_nfas octet = not (bit_and octet 0x40 == 0)

-- A FAS octet, given the octets 32 and 64 octets on, if the stream has them: it is found if the first is an
-- NFAS octet and the second a FAS octet; otherwise the search goes on past the first of the two that is
-- wrong, with the result given for that case.
abbrev pub confirmed : Option ℕ → Option ℕ → Option ℕ → Option ℕ → Option ℕ → Option ℕ
confirmed found None second past_first past_second = None
confirmed found (Some first) None past_first past_second = if is_nfas first then None else past_first
confirmed found (Some first) (Some second) past_first past_second =
    if is_nfas first then (if is_fas second then found else past_second) else past_first

-- The search from a position: the first FAS octet that an NFAS octet 32 octets on and a FAS octet 64 octets
-- on confirm; it goes on past each octet that is wrong. Nothing if the stream ends first. (Where it goes on
-- after a wrong octet is our choice.)
unfoldable pub search : List ℕ → ℕ → Option ℕ
search [] from = None
search (octet ∷ stream) (suc from) = later (search stream from)
search (octet ∷ stream) zero =
    if is_fas octet
    then confirmed (Some 0) (slice_get stream 31) (slice_get stream 63)
    (later (search stream 32)) (later (search stream 64))
    else later (search stream 0)

-- the result of a search whose first FAS octet is at this position, if any
abbrev pub after_fas : List ℕ → Option ℕ → Option ℕ
after_fas stream None = None
after_fas stream (Some position) =
    confirmed (Some position) (slice_get stream (position + 32)) (slice_get stream (position + 64))
    (search stream (position + 33)) (search stream (position + 65))

-- in positions of the whole stream, a search finds the least position with a FAS octet
abbrev pub SearchMeetsLeast : Type 0
SearchMeetsLeast = (stream : List ℕ) (from : ℕ) → search stream from
    ≡ after_fas stream (least (λ position. nat_le from position && is_fas (slice_index stream position))
    (length stream))
