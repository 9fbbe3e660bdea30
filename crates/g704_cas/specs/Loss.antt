-- Losing multiframe alignment (ITU-T G.732, 5.2), and the multiframe alignments of the octets of time slot
-- 16.
use Rattle.std.specs.Prelude.{ℕ, ◌-◌, ◌%◌, Bool, not, ◌&&◌, ◌==◌, nat_lt, List, slice_index}
use Rattle.g704_framing.specs.Alignment.{Framing}
use Rattle.g704_cas.specs.Search.{is_mfas, search}

-- the octet with this age in an alignment is that of a frame 0, and is wrong
unfoldable pub is_wrong : List ℕ → ℕ → Bool
is_wrong octets age = (age % 16 == 0) && not (is_mfas (slice_index octets age))

-- it and the one 16 octets before it are wrong: the second in a row
abbrev pub is_second_wrong : List ℕ → ℕ → Bool
is_second_wrong octets age = nat_lt 0 age && (is_wrong octets age && is_wrong octets (age - 16))

-- Multiframe alignment: found by its own first octet, kept by the octets of frame 0, and lost by the second
-- wrong one in a row.
abbrev pub multiframe_alignment : Framing
multiframe_alignment = record { search = search; found_at = 0; period = 16; is_lost = is_second_wrong }
