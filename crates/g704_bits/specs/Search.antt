-- Finding frame alignment in a stream of bits: the signal, an octet whose bit 2 is 1, and the signal again,
-- 256 bits apart (ITU-T G.706, 4.1.2). The stream is that of its windows: for each bit the octet that ends
-- there.
use Rattle.std.specs.Prelude.{ℕ, ◌+◌, Bool, ◌&&◌, nat_le, List, length, slice_index, Option}
use Rattle.g704_framing.specs.Least.{least}
use Rattle.g704_align.specs.Search.{is_fas, is_nfas}

-- a window has the signal, and those one and two frames on confirm it (past the end there is no signal)
unfoldable pub is_confirmed : List ℕ → ℕ → Bool
is_confirmed windows position =
    is_fas (slice_index windows position)
    && (is_nfas (slice_index windows (position + 256)) && is_fas (slice_index windows (position + 512)))

-- the search from a position: the first confirmed window
unfoldable pub search : List ℕ → ℕ → Option ℕ
search windows from =
    least (λ position. nat_le from position && is_confirmed windows position) (length windows)
