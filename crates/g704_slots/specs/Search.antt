-- Finding slot 16 in the octets of slots 1 to 31 by its multiframes (ITU-T G.704, 5.1.3.2). An octet of each
-- slot comes each 31 octets, and a multiframe has 16 frames, which are 496 octets.
use Rattle.std.specs.Prelude.{ℕ, ◌+◌, ◌*◌, ◌%◌, Bool, not, ◌&&◌, ◌==◌, nat_lt, nat_le, if◌then◌else◌, is_none}
use Rattle.std.specs.Prelude.{List, length, slice_index, Option}
use Rattle.g704_framing.specs.Least.{least}
use Rattle.g704_cas.specs.Search.{is_mfas}

-- the octet is right for slot 16 of this frame: bits 1 to 4 are the multiframe alignment signal 0000 in frame
-- 0 of a multiframe, and ABCD bits of a circuit, which are never 0000, in the others
abbrev pub is_right : ℕ → ℕ → Bool
is_right frame octet = if frame % 16 == 0 then is_mfas octet else not (is_mfas octet)

-- three whole multiframes begin in slot 16 at this position, and the signal of the next one follows
unfoldable pub is_whole : List ℕ → ℕ → Bool
is_whole octets start =
    nat_lt (start + 1488) (length octets)
    && is_none (least (λ frame. not (is_right frame (slice_index octets (start + 31 * frame)))) 49)

-- Slot 16 is found with these four multiframes: the last three are whole in the slot with the octet at this
-- position, and no three began in another slot since the first.
unfoldable pub is_found : List ℕ → ℕ → Bool
is_found octets start =
    is_whole octets (start + 496) && is_none (least (λ later. is_whole octets (start + 1 + later)) 495)

-- the search from a position: the first that it is found with
unfoldable pub search : List ℕ → ℕ → Option ℕ
search octets from = least (λ start. nat_le from start && is_found octets start) (length octets)
