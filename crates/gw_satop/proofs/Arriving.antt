-- The packets of datagrams, as they arrive at the playout.
use Rattle.std.proofs.Common.{◌≡◌, ℕ, Bool, List, [], ◌∷◌, ◌++◌, refl, sym, ap, ◌∙◌, append_assoc, append-nil, Ok, Err}
use Rattle.std.proofs.Common.{Result}
use Rattle.satop_packet.specs.Satop.{Content}
use Rattle.satop_playout.specs.Calls.{PlayoutCall, Begins, Arrives, Plays}
use Rattle.satop_playout.specs.Laws.{arrivals_of}
use Rattle.gw_satop.specs.declared.line.DatagramOutcome.{DatagramOutcome}
use Rattle.gw_satop.specs.declared.line.DatagramOutcome.TheVariants as receipts
use Rattle.gw_satop.specs.declared.packet.PacketFault.{PacketFault}
use Rattle.gw_satop.specs.Line.{calls_for}
use Rattle.gw_satop.specs.Packets.{arrival_of, arrivals_in, packet_in}

-- What arrives in calls, and in others after them.
pub arrivals-append : (calls more : List PlayoutCall)
    → arrivals_of (calls ++ more) ≡ arrivals_of calls ++ arrivals_of more
arrivals-append [] more = refl
arrivals-append (Begins sequence ∷ calls) more = arrivals-append calls more
arrivals-append (Arrives sequence octets ∷ calls) more =
    ap (λ (s : List (ℕ × List ℕ)). (sequence, octets) ∷ s) (arrivals-append calls more)
arrivals-append (Plays ∷ calls) more = arrivals-append calls more

-- A datagram's calls have the arrival of its packet, whatever became of it.
pub arrivals-for : (size : ℕ) (receipt : DatagramOutcome) (p : Result Content PacketFault)
    → arrivals_of (calls_for size receipt p) ≡ arrival_of size p
arrivals-for size receipt (Err f) = refl
arrivals-for size (receipts.Began first) (Ok p) = refl
arrivals-for size receipts.Accepted (Ok p) = refl
arrivals-for size (receipts.Refused f) (Ok p) = refl
arrivals-for size (receipts.PacketFault f) (Ok p) = refl

-- One more datagram.
pub arrivals-more : (rtp : Bool) (size : ℕ) (datagrams : List (List ℕ)) (datagram : List ℕ)
    → arrivals_in rtp size (datagrams ++ datagram ∷ [])
    ≡ arrivals_in rtp size datagrams ++ arrival_of size (packet_in rtp size datagram)
arrivals-more rtp size [] datagram = append-nil (arrival_of size (packet_in rtp size datagram))
arrivals-more rtp size (d ∷ datagrams) datagram =
    ap (λ (s : List (ℕ × List ℕ)). arrival_of size (packet_in rtp size d) ++ s)
    (arrivals-more rtp size datagrams datagram)
    ∙ sym (append_assoc (arrival_of size (packet_in rtp size d)) (arrivals_in rtp size datagrams)
    (arrival_of size (packet_in rtp size datagram)))
