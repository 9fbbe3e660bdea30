-- Why a datagram is dropped or a codec refused, as numbers.
use Rattle.std.specs.Prelude.{ℕ}
use Rattle.rtp_packet.specs.Fault as rtp
use Rattle.rtp_playout.specs.Fault as playout
use Rattle.gw_circuit.specs.declared.Dropped.{Dropped}
use Rattle.gw_circuit.specs.declared.Dropped.TheVariants.{NotOpen, Rtp, Playout}
use Rattle.gw_circuit.specs.declared.CodecFault.{CodecFault}
use Rattle.gw_circuit.specs.declared.CodecFault.TheVariants.{PayloadType}

-- the number of a refusal of a datagram: 20, or that of its fault
abbrev pub code_of : Dropped → ℕ
code_of NotOpen = 20
code_of (Rtp fault) = rtp.fault_number fault
code_of (Playout fault) = playout.fault_number fault

-- the number of a refusal of a codec
abbrev pub fault_number : CodecFault → ℕ
fault_number PayloadType = 31
