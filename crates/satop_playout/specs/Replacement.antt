-- The octets that replace a missing packet.
use Rattle.std.specs.Prelude.{ℕ, zero, suc, ◌+◌, ◌-◌, ◌&&◌, Bool, nat_le, if◌then◌else◌}
use Rattle.std.specs.Prelude.{List, [], ◌∷◌, ◌++◌, length, slice_index, replicate}
use Rattle.satop_playout.specs.declared.Replacement.{Replacement}
use Rattle.satop_playout.specs.declared.Replacement.TheVariants.{Again, Ones}

-- the octets of a signalling multiframe: 16 frames of 32 octets (ITU-T G.704, 5.1.3.2)
abbrev pub multiframe : ℕ
multiframe = 512

-- the octets after these: each is the one a signalling multiframe before it
unfoldable pub again : ℕ → List ℕ → List ℕ
again zero given = []
again (suc count) given =
    slice_index given (length given - multiframe)
    ∷ again count (given ++ slice_index given (length given - multiframe) ∷ [])

-- a multiframe was given, and with the packet no more than 2048 octets (8 ms) in a row are filled
abbrev pub may_repeat : ℕ → List ℕ → ℕ → Bool
may_repeat size given filled = nat_le multiframe (length given) && nat_le (filled + size) 2048

-- what replaces a packet of this many octets, after these octets, of which this many at the end were filled
abbrev pub fill_of : Replacement → ℕ → List ℕ → ℕ → List ℕ
fill_of Ones size given filled = replicate size 255
fill_of Again size given filled =
    if may_repeat size given filled then again size given else replicate size 255
