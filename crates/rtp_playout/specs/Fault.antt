-- Faults of refused datagrams, as numbers.
use Rattle.std.specs.Prelude.{ℕ}
use Rattle.rtp_playout.specs.declared.PlayoutFault.{PlayoutFault}
use Rattle.rtp_playout.specs.declared.PlayoutFault.TheVariants.{PayloadType, WrongSource, Repeat, Late}
use Rattle.rtp_playout.specs.declared.PlayoutFault.TheVariants.{TooMany, Full}

-- the number of a fault, in order of precedence
abbrev pub fault_number : PlayoutFault → ℕ
fault_number PayloadType = 11
fault_number WrongSource = 12
fault_number Repeat = 13
fault_number Late = 14
fault_number TooMany = 15
fault_number Full = 16
