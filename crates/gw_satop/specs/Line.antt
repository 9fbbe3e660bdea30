-- What a receiver makes of datagrams and plays (module `line`).
use Rattle.std.specs.Prelude.{ℕ, List, [], ◌∷◌, Option, Some, None, Result, Ok, Err}
use Rattle.g704_framing.specs.Replies.{stream_replies}
use Rattle.gw_filter.specs.Align.{align_reply}
use Rattle.satop_packet.specs.Satop.{Content}
use Rattle.satop_playout.specs.declared.ArrivalFault.{ArrivalFault}
use Rattle.satop_playout.specs.declared.Settings.{Settings}
use Rattle.satop_playout.specs.Calls.{PlayoutCall, Begins, Arrives}
use Rattle.satop_playout.specs.Plays.{arrival_answer, given_octets}
use Rattle.g704_bits.specs.Standing.{StandsAfter}
use Rattle.satop_playout.specs.Standing.{HasHistory}
use Rattle.gw_satop.specs.declared.line.DatagramOutcome.{DatagramOutcome}
use Rattle.gw_satop.specs.declared.line.Receiver.{Receiver}
use Rattle.gw_satop.specs.declared.line.DatagramOutcome.TheVariants as receipts
use Rattle.gw_satop.specs.declared.packet.PacketFault.{PacketFault}
use Rattle.gw_satop.specs.declared.pace.PlayClock.{PlayClock}
use Rattle.gw_satop.specs.Packets.{octets_to_play}
use Rattle.gw_satop.specs.Pace.{beginning}

-- what becomes of a packet that is refused, and with which a stream begins at this number or none does
abbrev pub receipt_refused : ArrivalFault → Option ℕ → DatagramOutcome
receipt_refused fault None = receipts.Refused fault
receipt_refused fault (Some first) = receipts.Began first

-- what becomes of a packet that was answered so
abbrev pub receipt_by : Result (Unit {0}) ArrivalFault → (ArrivalFault → Option ℕ) → DatagramOutcome
receipt_by (Ok _) begins = receipts.Accepted
receipt_by (Err fault) begins = receipt_refused fault (begins fault)

-- what becomes of a datagram at a time, after these calls
abbrev pub receipt_of : Settings → List PlayoutCall → PlayClock → ℕ → Result Content PacketFault
    → DatagramOutcome
receipt_of settings calls pace now (Err fault) = receipts.PacketFault fault
receipt_of settings calls pace now (Ok p) = receipt_by
    (arrival_answer settings calls p.control.sequence (octets_to_play settings.size p))
    (λ fault. beginning pace fault p.control.sequence now)

-- the calls for a packet of which this became: it arrives, after a beginning if a stream begins with it
abbrev pub calls_of_receipt : DatagramOutcome → ℕ → List ℕ → List PlayoutCall
calls_of_receipt (receipts.Began first) sequence octets = Begins first ∷ Arrives sequence octets ∷ []
calls_of_receipt _ sequence octets = Arrives sequence octets ∷ []

-- the calls for a datagram of which this became
abbrev pub calls_for : ℕ → DatagramOutcome → Result Content PacketFault → List PlayoutCall
calls_for size receipt (Err fault) = []
calls_for size receipt (Ok p) = calls_of_receipt receipt p.control.sequence (octets_to_play size p)

-- the octets that a receiver gives in the plays of these calls: those of the time slots (ITU-T G.704) for the
-- octets that its playout gives
abbrev pub played : Settings → List PlayoutCall → List ℕ
played settings calls = stream_replies align_reply (given_octets settings calls)

-- a receiver whose playout has this history of calls: the aligner has taken the octets of the plays
pub record HasPlayed (receiver : Receiver) (calls : List PlayoutCall) : Type 0 where
  pub playout : HasHistory receiver.playout receiver.settings calls
  pub aligner : StandsAfter receiver.aligner (given_octets receiver.settings calls)
