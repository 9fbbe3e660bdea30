-- The definitions on worked examples, by computing.
use Rattle.std.proofs.Common.{◌≡◌, [], ◌∷◌, Some, None, true, false, refl}
use Rattle.satop_packet.specs.declared.SatopFault.TheVariants.{Short, NoRtp, NoControl, OtherLength}
use Rattle.satop_packet.specs.Satop.{plain_packet}
use Rattle.satop_packet.specs.Fault.{fault}
use Rattle.satop_packet.specs.Read.{content_of, control_of}

-- L and R, LEN 6, sequence number 0x1234, two octets
read : content_of false (0x0C ∷ 6 ∷ 0x12 ∷ 0x34 ∷ 0xD5 ∷ 0x55 ∷ [])
    ≡ record {
      rtp = [];
      control = record { lost = true; remote = true; sequence = 0x1234 };
      payload = 0xD5 ∷ 0x55 ∷ [];
    }
unfolding content_of control_of
read = refl

-- the same, as it is written
written : plain_packet [] (record { lost = true; remote = true; sequence = 0x1234 }) (0xD5 ∷ 0x55 ∷ [])
    ≡ 0x0C ∷ 6 ∷ 0x12 ∷ 0x34 ∷ 0xD5 ∷ 0x55 ∷ []
unfolding plain_packet
written = refl

-- each fault, and none
faults : (fault false (0 ∷ 0 ∷ 0 ∷ []) ≡ Some Short)
    × (fault true (0 ∷ 0 ∷ 0 ∷ 0 ∷ 0 ∷ 0 ∷ 0 ∷ 0 ∷ 0 ∷ 0 ∷ 0 ∷ 0 ∷ 0 ∷ 0 ∷ 0 ∷ 0 ∷ []) ≡ Some NoRtp)
    × (fault false (0x1C ∷ 0x40 ∷ 0 ∷ 0 ∷ []) ≡ Some NoControl)
    × (fault false (0x0F ∷ 0x43 ∷ 0 ∷ 0 ∷ []) ≡ Some OtherLength)
    × (fault false (0x0F ∷ 0x44 ∷ 0 ∷ 0 ∷ []) ≡ None)
faults = (refl, refl, refl, refl, refl)
