-- Losing frame alignment in a stream of bits, and the alignments of its windows.
use Rattle.std.specs.Prelude.{ℕ, zero, suc, ◌/◌, ◌%◌, Bool, ◌&&◌, ◌==◌, List, [], ◌∷◌}
use Rattle.g704_framing.specs.Alignment.{Framing}
use Rattle.g704_align.specs.Loss.{is_third_wrong}
use Rattle.g704_bits.specs.Search.{search}

-- each eighth of these windows, from the one behind this many
unfoldable pub eighths_after : ℕ → List ℕ → List ℕ
eighths_after skipped [] = []
eighths_after zero (window ∷ windows) = window ∷ eighths_after 7 windows
eighths_after (suc skipped) (window ∷ windows) = eighths_after skipped windows

-- the octets of an alignment, whose first window has the signal
abbrev pub octets_along : List ℕ → List ℕ
octets_along windows = eighths_after 0 windows

-- the window of this age in an alignment is an octet that loses frame alignment, the third wrong one of its
-- kind in a row
unfoldable pub is_lost_at : List ℕ → ℕ → Bool
is_lost_at windows age = (age % 8 == 0) && is_third_wrong (octets_along windows) (age / 8)

-- Frame alignment in the windows of a stream: found by the third window of a search, 512 bits after the
-- first; kept and lost by its octets as in a stream of octets.
abbrev pub bit_alignment : Framing
bit_alignment = record {
  search = λ before windows from. search windows from;
  found_at = 512;
  period = 256;
  is_lost = is_lost_at;
}
