-- Numbers as octets, the most significant octet first, and flags as octets.
use Rattle.std.specs.Prelude.{ℕ, List, Bool, true, false}
use Rattle.byteorder.specs.Endian.{big_bytes}

-- a 16-bit number
abbrev pub two_octets : ℕ → List ℕ
two_octets n = big_bytes 2 n

-- a 32-bit number
abbrev pub four_octets : ℕ → List ℕ
four_octets n = big_bytes 4 n

-- a flag: 1 if it is set, otherwise 0
abbrev pub flag_octet : Bool → ℕ
flag_octet false = 0
flag_octet true = 1
