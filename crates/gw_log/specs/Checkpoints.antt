-- The octets of a checkpoint (module `checkpoint_octets`).
use Rattle.std.specs.Prelude.{ℕ, List, [], ◌∷◌, ◌++◌, drop, if◌then◌else◌, length, nat_lt}
use Rattle.byteorder.specs.Endian.{big_bytes, big_number}

-- the letters E1GC
abbrev pub checkpoint_mark : List ℕ
checkpoint_mark = 0x45 ∷ 0x31 ∷ 0x47 ∷ 0x43 ∷ []

-- a checkpoint: a mark, the octet of the log behind which the state is, and the state
unfoldable pub checkpoint : ℕ → List ℕ → List ℕ
checkpoint place state = checkpoint_mark ++ (big_bytes 8 place ++ state)

-- the octet of the log behind which a checkpoint is; 0 of octets that are too few for one
abbrev pub checkpoint_place : List ℕ → ℕ
checkpoint_place octets = if nat_lt (length octets) 12 then 0 else big_number 8 (drop 4 octets)
