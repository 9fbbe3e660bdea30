-- Losing frame alignment (ITU-T G.706, 4.1.1), and the alignments of a stream.
use Rattle.std.specs.Prelude.{ℕ, ◌-◌, ◌/◌, ◌%◌, Bool, not, ◌&&◌, ◌==◌, nat_lt, if◌then◌else◌, List}
use Rattle.std.specs.Prelude.{slice_index}
use Rattle.g704_framing.specs.Alignment.{Framing}
use Rattle.g704_align.specs.Search.{is_fas, is_nfas, search}

-- right for slot 0 at this age, counted from the first FAS octet of the alignment: even frames begin with a
-- FAS octet, odd ones with an NFAS octet
abbrev pub is_expected : ℕ → ℕ → Bool
is_expected age octet = if (age / 32) % 2 == 0 then is_fas octet else is_nfas octet

-- the octet with this age in an alignment is in slot 0, after the search, and is wrong
unfoldable pub is_wrong : List ℕ → ℕ → Bool
is_wrong octets age =
    (nat_lt 64 age && (age % 32 == 0)) && not (is_expected age (slice_index octets age))

-- it and those 64 and 128 octets before it are wrong: the third of its kind in a row
abbrev pub is_third_wrong : List ℕ → ℕ → Bool
is_third_wrong octets age =
    is_wrong octets age && (is_wrong octets (age - 64) && is_wrong octets (age - 128))

-- Frame alignment: found by the third octet of a search, 64 octets after the first, kept by the octets of
-- slot 0, and lost by the third wrong FAS octet in a row, or the third wrong NFAS octet. (That NFAS octets
-- count too is an option of the Recommendation.)
abbrev pub frame_alignment : Framing
frame_alignment = record {
  search = λ before stream from. search stream from;
  found_at = 64;
  period = 32;
  is_lost = is_third_wrong;
}
