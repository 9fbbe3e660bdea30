-- After some histories everything restarts: later octets are aligned as a stream of their own, except that
-- its first search may read the last octet before.
use Rattle.std.specs.Prelude.{◌≡◌, ℕ, ◌+◌, ◌<◌, List, [], ◌∷◌, ◌++◌, map, length, Option, Some, None}
use Rattle.std.specs.Prelude.{option_map}
use Rattle.g704_framing.specs.Alignment.{Framing, AlignmentSpan, alignments_from}

-- an alignment in a stream, seen in the stream with this many octets before it
abbrev pub moved : ℕ → AlignmentSpan → AlignmentSpan
moved before alignment = record {
  start = before + alignment.start;
  lost = option_map (λ position. before + position) alignment.lost;
}

-- lost by an octet before this position
abbrev pub IsLostBefore : ℕ → Option ℕ → Type 0
IsLostBefore position None = ⊥
IsLostBefore position (Some lost) = lost < position

abbrev pub AllLostBefore : ℕ → List AlignmentSpan → Type 0
AllLostBefore position [] = Unit {0}
AllLostBefore position (alignment ∷ others) =
    IsLostBefore position alignment.lost × AllLostBefore position others

-- the last octet of a list, or the one before the list
abbrev pub last_of : Option ℕ → List ℕ → Option ℕ
last_of before [] = before
last_of before (octet ∷ octets) = last_of (Some octet) octets

-- the alignments of these octets are lost, and later octets are searched as a stream of their own
pub record RestartsAfter (framing : Framing) (before : Option ℕ) (octets : List ℕ) : Type 0 where
  pub earlier : List AlignmentSpan
  pub all_lost : AllLostBefore (length octets) earlier
  pub anew : (rest : List ℕ) → alignments_from framing before (octets ++ rest) 0
      ≡ earlier ++ map (moved (length octets)) (alignments_from framing (last_of before octets) rest 0)

-- Everything restarted within a history, and this holds of the octets since, and of the octet before them, if
-- any.
pub record HoldsSince (framing : Framing) (holds : Option ℕ → List ℕ → Type 0) (history : List ℕ)
    : Type 0 where
  pub earlier : List ℕ
  pub since : List ℕ
  pub whole : history ≡ earlier ++ since
  pub over : RestartsAfter framing None earlier
  pub fields : holds (last_of None earlier) since
