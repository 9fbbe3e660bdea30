-- The places of octets in a stream, for each kind of alignment, and their laws.
use Rattle.std.specs.Prelude.{◌≡◌, ℕ, ◌+◌, ◌%◌, ◌<◌, ◌≤◌, Bool, is_none, List, ◌++◌, length, All}
use Rattle.std.specs.Prelude.{slice_index, Option}
use Rattle.g704_framing.specs.Alignment.{Framing, AlignmentSpan, alignments_from, alignments_of}
use Rattle.g704_framing.specs.Alignment.{search_ends_of}
use Rattle.g704_framing.specs.Age.{age_in}
use Rattle.g704_framing.specs.Laws.{IsFraming, IsUpToLoss, IsRead}

-- The places of octets for a kind of alignment.
pub record PlaceRules (Place : Type 0) : Type 0 where
  pub framing : Framing
  -- octets have a place from this age
  pub placed_from : ℕ
  -- the place of an octet of this age, if it has one
  pub place_of : Option ℕ → Place
  -- the number of a place: 0 for octets that keep the alignment, and without alignment
  pub number_of : Place → ℕ
  -- whether an octet is right for this age, as one of those that keep the alignment
  pub is_right : ℕ → ℕ → Bool

-- the alignments of a stream
abbrev pub alignments_in : {Place : Type 0} → PlaceRules Place → List ℕ → List AlignmentSpan
alignments_in p stream = alignments_of p.framing stream

-- the place of the octet at a position, counted from this octet, if any
unfoldable pub place_since : {Place : Type 0} → PlaceRules Place → Option ℕ → List ℕ → ℕ → Place
place_since p before octets position =
    p.place_of (age_in p.placed_from (alignments_from p.framing before octets 0) position)

-- The place of the octet at a position of the stream: that in its alignment, from the first octet with a
-- place to before the loss. (Past the end of the stream it is what would follow without a loss.)
unfoldable pub place_in : {Place : Type 0} → PlaceRules Place → List ℕ → ℕ → Place
place_in p stream position = p.place_of (age_in p.placed_from (alignments_in p stream) position)

-- The alarm after the octet at a position: there is no alignment (ITU-T G.706, 4.1). Past the end of the
-- stream it is what would follow without a loss.
unfoldable pub alarm_in : {Place : Type 0} → PlaceRules Place → List ℕ → ℕ → Bool
alarm_in p stream position = is_none (age_in p.framing.found_at (alignments_in p stream) position)

-- the octets that keep an alignment, from the first with a place to that of the loss, are right or wrong
-- alike in two streams
abbrev pub IsAlikeAlong : {Place : Type 0} → PlaceRules Place → List ℕ → List ℕ → AlignmentSpan → Type 0
IsAlikeAlong p stream other alignment = (age : ℕ) → p.placed_from ≤ age → age % p.framing.period ≡ 0
    → alignment.start + age < length stream → IsUpToLoss (alignment.start + age) alignment.lost
    → p.is_right age (slice_index stream (alignment.start + age))
    ≡ p.is_right age (slice_index other (alignment.start + age))

-- The searches of two streams end alike, and the octets that keep the first one's alignments are right or
-- wrong alike in both.
pub record IsAlignedAlike {Place : Type 0} (p : PlaceRules Place) (stream other : List ℕ) : Type 0 where
  pub len : length stream ≡ length other
  pub searches : search_ends_of p.framing (alignments_in p stream)
      ≡ search_ends_of p.framing (alignments_in p other)
  pub keeping : All (IsAlikeAlong p stream other) (alignments_in p stream)

-- Two streams differ only in octets whose place in the first one has another number than 0. (Octets read by a
-- search have the number 0.)
pub record KeepsZero {Place : Type 0} (p : PlaceRules Place) (stream other : List ℕ) : Type 0 where
  pub len : length stream ≡ length other
  pub kept : (position : ℕ) → position < length stream → p.number_of (place_in p stream position) ≡ 0
      → slice_index stream position ≡ slice_index other position

-- later octets change no place and no earlier alarm
abbrev pub PlacesAreSettled : {Place : Type 0} → PlaceRules Place → Type 0
PlacesAreSettled p = (stream rest : List ℕ) (position : ℕ) → position < length stream
    → (place_in p (stream ++ rest) position ≡ place_in p stream position)
    × (alarm_in p (stream ++ rest) position ≡ alarm_in p stream position)

-- streams that are aligned alike have the same alignments, places and alarms: places depend only on the
-- octets that keep the alignment
abbrev pub PlacesAreAlike : {Place : Type 0} → PlaceRules Place → Type 0
PlacesAreAlike p = (stream other : List ℕ) → IsAlignedAlike p stream other
    → (alignments_in p stream ≡ alignments_in p other)
    × ((position : ℕ) → (place_in p stream position ≡ place_in p other position)
    × (alarm_in p stream position ≡ alarm_in p other position))

-- no search and no loss reads an octet of another number: streams that differ only there are aligned alike,
-- and have the same alignments and places
abbrev pub OtherPlacesAreNotRead : {Place : Type 0} → PlaceRules Place → Type 0
OtherPlacesAreNotRead p = (stream other : List ℕ) → KeepsZero p stream other
    → IsAlignedAlike p stream other × (alignments_in p stream ≡ alignments_in p other)
    × ((position : ℕ) → place_in p stream position ≡ place_in p other position)

-- The properties of a kind of places that the laws need.
pub record IsPlacing {Place : Type 0} (p : PlaceRules Place) : Type 0 where
  pub framing : IsFraming p.framing
  pub found : p.framing.found_at ≤ p.placed_from
  -- the loss depends only on the octets that keep the alignment
  pub lost : (octets others : List ℕ) (last : ℕ)
      → ((age : ℕ) → age ≤ last → p.placed_from ≤ age → age % p.framing.period ≡ 0
      → p.is_right age (slice_index octets age) ≡ p.is_right age (slice_index others age))
      → p.framing.is_lost octets last ≡ p.framing.is_lost others last
  -- these have the number 0
  pub zero : (age : Option ℕ) → IsRead p.framing age → p.number_of (p.place_of age) ≡ 0
