-- The alignments of a stream of octets: each is found by a search, kept, and lost (ITU-T G.706, 4.1; ITU-T
-- G.732, 5.2).
use Rattle.std.specs.Prelude.{ℕ, zero, suc, ◌+◌, Bool, List, [], ◌∷◌, map, length, drop}
use Rattle.std.specs.Prelude.{Option, Some, None, option_map}
use Rattle.g704_framing.specs.Least.{least}

-- The differences between frame alignment and multiframe alignment.
pub record Framing : Type 0 where
  -- the begin of the alignment found in a stream from a position; the octet before the stream, if any, may be
  -- read
  pub search : Option ℕ → List ℕ → ℕ → Option ℕ
  -- the age, in an alignment, of the octet by which it is found
  pub found_at : ℕ
  -- the distance of the octets that keep it
  pub period : ℕ
  -- whether the octet of this age loses it, if it is not yet lost
  pub is_lost : List ℕ → ℕ → Bool

-- An alignment: the place of its first octet, and the octet by which it is lost, if any.
pub record AlignmentSpan : Type 0 where
  pub start : ℕ
  pub lost : Option ℕ

-- the position at which an alignment that begins here is lost
unfoldable pub loss : Framing → List ℕ → ℕ → Option ℕ
loss framing stream start =
    option_map (λ age. start + age)
    (least (framing.is_lost (drop start stream)) (length (drop start stream)))

-- a position counted from the next octet, counted from this one
abbrev pub later : Option ℕ → Option ℕ
later position = option_map suc position

-- an alignment with its positions counted from one octet earlier
abbrev pub later_alignment : AlignmentSpan → AlignmentSpan
later_alignment alignment = record { start = suc alignment.start; lost = later alignment.lost }

-- the alignments of a stream after this octet, if any: the first search is from this position, each further
-- one from the octet after a loss
unfoldable pub alignments_from : Framing → Option ℕ → List ℕ → ℕ → List AlignmentSpan
alignments_from framing before [] from = []
alignments_from framing before (octet ∷ stream) (suc from) =
    map later_alignment (alignments_from framing (Some octet) stream from)
alignments_from framing before (octet ∷ stream) zero = elim (framing.search before (octet ∷ stream) zero) [
  | None ↦ []
  | Some start ↦ record { start = start; lost = loss framing (octet ∷ stream) start }
      ∷ (elim (loss framing (octet ∷ stream) start) [
        | None ↦ []
        | Some lost ↦ map later_alignment (alignments_from framing (Some octet) stream lost)
      ])
]

-- all alignments of a stream
abbrev pub alignments_of : Framing → List ℕ → List AlignmentSpan
alignments_of framing stream = alignments_from framing None stream 0

-- the positions of the octets by which alignments are found
abbrev pub search_ends_of : Framing → List AlignmentSpan → List ℕ
search_ends_of framing alignments = map (λ alignment. alignment.start + framing.found_at) alignments

-- the alignments after a loss, by a search from the octet after it
unfoldable pub after_loss : Framing → Option ℕ → List ℕ → Option ℕ → List AlignmentSpan
after_loss framing before stream None = []
after_loss framing before stream (Some lost) = alignments_from framing before stream (suc lost)

-- the alignments from what a search found: the first begins there, and further ones follow its loss
unfoldable pub after_search : Framing → Option ℕ → List ℕ → Option ℕ → List AlignmentSpan
after_search framing before stream None = []
after_search framing before stream (Some start) =
    record { start = start; lost = loss framing stream start } ∷ after_loss framing before stream
    (loss framing stream start)
