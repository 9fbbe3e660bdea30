-- CRC multiframe alignment in the octets of a trunk, and the events of its submultiframes (ITU-T G.706, 4.1
-- to 4.3).
use Rattle.std.specs.Prelude.{ℕ, zero, suc, ◌+◌, ◌-◌, ◌*◌, ◌/◌, ◌%◌, Bool, not, ◌&&◌, ◌||◌, ◌==◌, nat_lt}
use Rattle.std.specs.Prelude.{nat_le, if◌then◌else◌, List, [], ◌∷◌, ◌++◌, length, take, drop, slice_index}
use Rattle.std.specs.Prelude.{Option, Some, None, option_map, is_none}
use Rattle.g704_framing.specs.Least.{least}
use Rattle.g704_framing.specs.Alignment.{Framing, alignments_of}
use Rattle.g704_framing.specs.Age.{age_in}
use Rattle.g704_align.specs.Loss.{frame_alignment}
use Rattle.g704_crc4.specs.declared.receiving.ReceiverEvent.{ReceiverEvent}
use Rattle.g704_crc4.specs.declared.receiving.ReceiverEvent.TheVariants.{Found, Lost, GivenUp, Received}
use Rattle.g704_crc4.specs.Searching.{begins_multiframe}
use Rattle.g704_crc4.specs.Checking.{is_right, event_of}

-- The last octets, from the one this many before the last; none without such a number.
abbrev pub octets_since : List ℕ → Option ℕ → List ℕ
octets_since octets None = []
octets_since octets (Some age) = drop (length octets - 1 - age) octets

-- The octets of the last octet's alignment, from its first one; none if it belongs to none. Octets belong to
-- an alignment from this age.
unfoldable pub since_start : Framing → ℕ → List ℕ → List ℕ
since_start framing after octets =
    octets_since octets (age_in after (alignments_of framing octets) (length octets - 1))

-- The octets of the frame alignment in which the last octet has a time slot (ITU-T G.706, 4.1). The first one
-- is the first FAS octet, so frames begin there, and even frames have the frame alignment signal. The octet
-- 64 octets later finds frame alignment, and time slots are known from the next one.
abbrev pub aligned_octets : List ℕ → List ℕ
aligned_octets octets = since_start frame_alignment 65 octets

-- The 8 ms of a frame alignment in which CRC multiframe alignment is searched for: 64 frames from the octet
-- by which frame alignment was found (ITU-T G.706, 4.2).
unfoldable pub searched_octets : List ℕ → List ℕ
searched_octets octets = take 2048 (drop 64 octets)

-- The first double frame at which a multiframe begins that has its signal twice within the 8 ms, 2 ms or a
-- multiple apart.
unfoldable pub multiframe_in : List ℕ → Option ℕ
multiframe_in octets = least (λ number. begins_multiframe (searched_octets octets) (2 * number)) 32

-- The last octet is the one behind the 8 ms. It is the FAS octet of its frame.
abbrev pub is_search_over : List ℕ → Bool
is_search_over octets = length octets == 2113

-- CRC multiframe alignment is found by the last octet (ITU-T G.706, 4.2).
unfoldable pub is_multiframe_found : List ℕ → Bool
is_multiframe_found octets = is_search_over octets && not (is_none (multiframe_in octets))

-- Frame alignment is found to be false by the last octet: there is no CRC multiframe alignment in 8 ms. The
-- next search begins behind this octet, which is the place of the false signal (ITU-T G.706, 4.2).
unfoldable pub is_false : List ℕ → Bool
is_false octets = is_search_over octets && is_none (multiframe_in octets)

-- There is CRC multiframe alignment at the last octet.
unfoldable pub has_multiframes : List ℕ → Bool
has_multiframes octets = nat_lt 2112 (length octets) && not (is_none (multiframe_in octets))

-- The octets from the first multiframe after the 8 ms, if one begins at this double frame of them.
-- Multiframes begin a multiple of sixteen frames, eight double frames, apart.
abbrev pub octets_from : List ℕ → Option ℕ → List ℕ
octets_from octets None = []
octets_from octets (Some number) = drop (2112 + 64 * (number % 8)) octets

-- The octets whose submultiframes are checked.
unfoldable pub checked_octets : List ℕ → List ℕ
checked_octets octets = octets_from octets (multiframe_in octets)

-- How many of this many numbers, from this one, pass.
unfoldable pub count_in : (ℕ → Bool) → ℕ → ℕ → ℕ
count_in passes from zero = 0
count_in passes from (suc count) =
    if passes (from + count) then count_in passes from count + 1 else count_in passes from count

-- The submultiframes known to be right or errored: the check bits of each come with the next.
abbrev pub known_blocks : List ℕ → ℕ
known_blocks checked = length checked / 256 - 1

-- How many of this many submultiframes, from this one, are errored.
unfoldable pub errored_in : List ℕ → ℕ → ℕ → ℕ
errored_in checked from count = count_in (λ number. not (is_right checked number)) from count

-- With the last octet one more submultiframe is known to be errored, and 915 or more of its thousand are
-- (ITU-T G.706, 4.3.2). Submultiframes are counted by the thousand.
unfoldable pub is_excessive : List ℕ → Bool
is_excessive checked =
    (length checked % 256 == 0) && (nat_lt 256 (length checked)
    && nat_le 915 (errored_in checked (1000 * ((known_blocks checked - 1) / 1000))
    ((known_blocks checked - 1) % 1000 + 1)))

-- Frame alignment is given up at its last octet.
unfoldable pub is_given_up : List ℕ → Bool
is_given_up octets = is_false octets || is_excessive (checked_octets octets)

-- The octets before this position.
unfoldable pub octets_before : List ℕ → ℕ → List ℕ
octets_before octets zero = []
octets_before octets (suc position) = octets_before octets position ++ slice_index octets position ∷ []

-- The position of an octet, if there is one, as the first of a result.
abbrev pub position_in : List ℕ → ℕ → Option ℕ
position_in [] position = None
position_in (octet ∷ octets) zero = Some 0
position_in (octet ∷ octets) (suc position) = option_map suc (position_in octets position)

-- The parts of a stream in which frame alignment is found, kept and lost by the frame alignment signal alone.
-- The first begins at the first octet, each further one behind the octet by which frame alignment was given
-- up, which ends its part.
abbrev pub parts : Framing
parts = record {
  search = λ before stream from. position_in stream from;
  found_at = 0;
  period = 1;
  is_lost = λ octets age. is_given_up (aligned_octets (octets_before octets (suc age)));
}

-- The part of the octet after these, up to that octet.
unfoldable pub part_before : List ℕ → List ℕ
part_before octets = since_start parts 0 octets

-- The event of submultiframes at the last octet of a frame alignment.
unfoldable pub followed : List ℕ → Option ReceiverEvent
followed octets =
    if is_excessive (checked_octets octets)
    then Some GivenUp
    else option_map (λ event. Received event) (event_of (checked_octets octets))

-- The event of an octet, by the octets of the frame alignment before it and with it.
unfoldable pub learned_of : List ℕ → List ℕ → Option ReceiverEvent
learned_of before octets =
    if is_multiframe_found octets
    then Some Found
    else (if has_multiframes before && not (has_multiframes octets) then Some Lost else followed octets)

-- The event of the octet after these.
unfoldable pub learned : List ℕ → ℕ → Option ReceiverEvent
learned before octet =
    learned_of (aligned_octets (part_before before)) (aligned_octets (part_before before ++ octet ∷ []))
