-- Properties of the alignments of every stream, for each kind of alignment.
use Rattle.std.specs.Prelude.{◌≡◌, ℕ, suc, ◌+◌, ◌%◌, ◌<◌, ◌≤◌, List, [], ◌∷◌, ◌++◌, length, drop, All}
use Rattle.std.specs.Prelude.{slice_index, Option, Some, None, option_map}
use Rattle.g704_framing.specs.Alignment.{Framing, AlignmentSpan, alignments_from, alignments_of, after_search}
use Rattle.g704_framing.specs.Alignment.{search_ends_of}
use Rattle.g704_framing.specs.Age.{age_in}

-- whatever is found is found by an octet after the first this many
abbrev pub IsFoundAfter : ℕ → ℕ → Option ℕ → Type 0
IsFoundAfter count found_at None = Unit {0}
IsFoundAfter count found_at (Some start) = count ≤ start + found_at

-- The properties of a kind of alignment that the laws need.
pub record IsFraming (framing : Framing) : Type 0 where
  -- no octets give nothing, and a search from a later octet does not read this one
  pub nothing : (before : Option ℕ) (from : ℕ) → framing.search before [] from ≡ None
  pub later : (before : Option ℕ) (octet : ℕ) (stream : List ℕ) (from : ℕ)
      → framing.search before (octet ∷ stream) (suc from)
      ≡ option_map suc (framing.search (Some octet) stream from)
  -- later octets change nothing already found, and what they add is found by one of them
  pub found : (before : Option ℕ) (stream rest : List ℕ) (from start : ℕ)
      → framing.search before stream from ≡ Some start
      → framing.search before (stream ++ rest) from ≡ Some start
  pub not_found : (before : Option ℕ) (stream rest : List ℕ) (from : ℕ)
      → framing.search before stream from ≡ None
      → IsFoundAfter (length stream) framing.found_at (framing.search before (stream ++ rest) from)
  -- the loss depends only on the octets at whole periods from the first, up to its own
  pub reads : (octets others : List ℕ) (age : ℕ)
      → ((earlier : ℕ) → earlier ≤ age → earlier % framing.period ≡ 0
      → slice_index octets earlier ≡ slice_index others earlier)
      → framing.is_lost octets age ≡ framing.is_lost others age
  pub whole : framing.found_at % framing.period ≡ 0

-- alignments are the results of alternating searches and losses over the whole stream
abbrev pub AlignmentsTakeTurns : Type 0
AlignmentsTakeTurns =
    (framing : Framing) → IsFraming framing → (before : Option ℕ) (stream : List ℕ) (from : ℕ)
    → alignments_from framing before stream from
    ≡ after_search framing before stream (framing.search before stream from)

-- the age of an octet does not depend on later octets
abbrev pub AgesAreSettled : Type 0
AgesAreSettled = (framing : Framing) → IsFraming framing → (stream rest : List ℕ) (after position : ℕ)
    → framing.found_at ≤ after → position < length stream
    → age_in after (alignments_of framing (stream ++ rest)) position
    ≡ age_in after (alignments_of framing stream) position

-- a position is not after the loss, if there is one
abbrev pub IsUpToLoss : ℕ → Option ℕ → Type 0
IsUpToLoss position None = Unit {0}
IsUpToLoss position (Some lost) = position ≤ lost

-- the two streams are lost alike, up to and including the loss of an alignment of the first
abbrev pub IsLostAlike : Framing → List ℕ → List ℕ → AlignmentSpan → Type 0
IsLostAlike framing stream other alignment = (age : ℕ) → alignment.start + age < length stream
    → IsUpToLoss (alignment.start + age) alignment.lost
    → framing.is_lost (drop alignment.start stream) age ≡ framing.is_lost (drop alignment.start other) age

-- streams have the same alignments if their searches end alike and they lose each alignment of the first one
-- alike
abbrev pub AlignmentsAreAlike : Type 0
AlignmentsAreAlike =
    (framing : Framing) → IsFraming framing → (stream other : List ℕ) → length stream ≡ length other
    → search_ends_of framing (alignments_of framing stream)
    ≡ search_ends_of framing (alignments_of framing other)
    → All (IsLostAlike framing stream other) (alignments_of framing stream)
    → alignments_of framing stream ≡ alignments_of framing other

-- there is no alignment, or the octet is whole periods from the alignment's first one
abbrev pub IsRead : Framing → Option ℕ → Type 0
IsRead framing None = Unit {0}
IsRead framing (Some age) = age % framing.period ≡ 0

-- two streams have the same octets at whole periods from an alignment's first octet, up to its loss
abbrev pub AgreeAlong : Framing → List ℕ → List ℕ → AlignmentSpan → Type 0
AgreeAlong framing stream other alignment = (age : ℕ) → age % framing.period ≡ 0
    → alignment.start + age < length stream → IsUpToLoss (alignment.start + age) alignment.lost
    → slice_index stream (alignment.start + age) ≡ slice_index other (alignment.start + age)

-- octets in an alignment that are not at whole periods from its first one change no alignment
abbrev pub OthersAreNotRead : Type 0
OthersAreNotRead = (framing : Framing) → IsFraming framing → (stream other : List ℕ) (after : ℕ)
    → framing.found_at ≤ after → length stream ≡ length other
    → ((position : ℕ) → position < length stream
    → IsRead framing (age_in after (alignments_of framing stream) position)
    → slice_index stream position ≡ slice_index other position)
    → (alignments_of framing stream ≡ alignments_of framing other)
    × All (AgreeAlong framing stream other) (alignments_of framing stream)
