-- A stream of octets as bits, and the octets of the aligned stream.
use Rattle.std.specs.Prelude.{◌≡◌, ℕ, ◌+◌, ◌-◌, ◌*◌, ◌/◌, ◌%◌, ◌^◌, ◌<◌, List, [], ◌∷◌, ◌++◌, length}
use Rattle.std.specs.Prelude.{slice_index, true}
use Rattle.g704_align.specs.Search.{is_fas, is_nfas}
use Rattle.g704_bits.specs.Search.{is_confirmed}
use Rattle.g704_framing.specs.Alignment.{AlignmentSpan, alignments_of}
use Rattle.g704_bits.specs.Loss.{bit_alignment}

-- the window that ends at a bit of the second of two octets, bit 0 the first sent
abbrev pub window_at : ℕ → ℕ → ℕ → ℕ
window_at before octet bit = (256 * before + octet) / 2 ^ (7 - bit) % 256

-- the eight windows that end in an octet
abbrev pub windows_in : ℕ → ℕ → List ℕ
windows_in before octet =
    window_at before octet 0 ∷ window_at before octet 1 ∷ window_at before octet 2
    ∷ window_at before octet 3 ∷ window_at before octet 4 ∷ window_at before octet 5
    ∷ window_at before octet 6 ∷ window_at before octet 7 ∷ []

-- the windows of octets after this one
unfoldable pub windows_after : ℕ → List ℕ → List ℕ
windows_after before [] = []
windows_after before (octet ∷ octets) = windows_in before octet ++ windows_after octet octets

-- the windows of a stream; the line before it has ones, which contain no signal
abbrev pub windows_of : List ℕ → List ℕ
windows_of octets = windows_after 255 octets

-- the last bit of windows in the last of these alignments, or this one if there is none
abbrev pub offset_of : ℕ → List AlignmentSpan → ℕ
offset_of before [] = before
offset_of before (alignment ∷ others) = offset_of (alignment.start % 8) others

-- that of all alignments in these windows, lost ones too; 7 is that of aligned octets
unfoldable pub offset_after : List ℕ → ℕ
offset_after windows = offset_of 7 (alignments_of bit_alignment windows)

-- the octet of the aligned stream returned with the last of these: the window at the offset in it
unfoldable pub aligned_octet : List ℕ → ℕ
aligned_octet octets =
    slice_index (windows_of octets) (8 * (length octets - 1) + offset_after (windows_of octets))

-- the octets received if the far end's octets are this many bits late, after this one
unfoldable pub delayed_after : ℕ → ℕ → List ℕ → List ℕ
delayed_after bits before [] = []
delayed_after bits before (octet ∷ octets) =
    (256 * before + octet) / 2 ^ bits % 256 ∷ delayed_after bits octet octets

-- at the offset of aligned octets the octet received is returned
abbrev pub AlignedPasses : Type 0
AlignedPasses =
    (octets : List ℕ) (octet : ℕ) → octet < 256 → offset_after (windows_of (octets ++ octet ∷ [])) ≡ 7
    → aligned_octet (octets ++ octet ∷ []) ≡ octet

-- if octets are late by one to seven bits, and the offset is that delay, each octet returns the far end's
-- octet before it
abbrev pub DelayedIsReturned : Type 0
DelayedIsReturned =
    (bits before : ℕ) (octets : List ℕ) (previous octet : ℕ) → 0 < bits → bits < 8
    → previous < 256 → octet < 256
    → offset_after (windows_of (delayed_after bits before (octets ++ previous ∷ octet ∷ []))) ≡ bits - 1
    → aligned_octet (delayed_after bits before (octets ++ previous ∷ octet ∷ [])) ≡ previous

-- if octets are late by one to seven bits, each is a window at the offset of the delay
abbrev pub DelayedIsWhole : Type 0
DelayedIsWhole =
    (bits before : ℕ) (octets : List ℕ) (position : ℕ) → 0 < bits → bits < 8
    → ((index : ℕ) → slice_index octets index < 256) → position + 1 < length octets
    → slice_index (windows_of (delayed_after bits before octets)) (8 * (position + 1) + (bits - 1))
    ≡ slice_index octets position

-- the far end's frame alignment is found: its signal, the octet without it and the signal again, 32 octets
-- apart, are a confirmed signal of the bits, at every delay
abbrev pub FarEndIsConfirmed : Type 0
FarEndIsConfirmed =
    (bits before : ℕ) (octets : List ℕ) (position : ℕ) → 0 < bits → bits < 8
    → ((index : ℕ) → slice_index octets index < 256) → position + 65 < length octets
    → is_fas (slice_index octets position) ≡ true → is_nfas (slice_index octets (position + 32)) ≡ true
    → is_fas (slice_index octets (position + 64)) ≡ true
    → is_confirmed (windows_of (delayed_after bits before octets)) (8 * (position + 1) + (bits - 1)) ≡ true
