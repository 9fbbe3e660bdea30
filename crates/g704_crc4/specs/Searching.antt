-- CRC multiframe alignment (ITU-T G.706, 4.2): two of its signals within 8 ms, 2, 4 or 6 ms apart, in bit 1
-- of the frames without the frame alignment signal. Frames begin at the first octet; the first has the
-- signal.
use Rattle.std.specs.Prelude.{ℕ, ◌+◌, Bool, not, ◌&&◌, ◌||◌, List}
use Rattle.g704_crc4.specs.Receiving.{si_of}

-- The signal 001011 is in the frames without the frame alignment signal from this frame.
unfoldable pub has_signal : List ℕ → ℕ → Bool
has_signal octets frame =
    not (si_of octets (frame + 1)) && not (si_of octets (frame + 3)) && si_of octets (frame + 5)
    && not (si_of octets (frame + 7)) && si_of octets (frame + 9) && si_of octets (frame + 11)

-- A multiframe begins at this frame: it and one of the next three multiframes have the signal.
unfoldable pub begins_multiframe : List ℕ → ℕ → Bool
begins_multiframe octets frame =
    has_signal octets frame
    && (has_signal octets (frame + 16) || has_signal octets (frame + 32) || has_signal octets (frame + 48))
