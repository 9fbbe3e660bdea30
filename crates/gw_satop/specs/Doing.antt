-- What a turn of an emulated circuit has done when it ends well (module `circuit`).
use Rattle.std.specs.Prelude.{◌≡◌, ◌⊎◌, ◌+◌, ◌*◌, ◌^◌, ◌≤◌, ℕ, true, false, List, ◌++◌, length}
use Rattle.satop_playout.specs.Calls.{PlayoutCall}
use Rattle.satop_playout.specs.Plays.{reach_after}
use Rattle.gw_satop.specs.declared.line.Receiver.{Receiver}
use Rattle.gw_satop.specs.declared.pace.PlayClock.{PlayClock}
use Rattle.gw_satop.specs.declared.peer.UdpPeer.{UdpPeer}
use Rattle.gw_satop.specs.FarEnd.{HasFoundNone}
use Rattle.gw_satop.specs.Line.{HasPlayed}
use Rattle.gw_satop.specs.Pace.{is_due}
use Rattle.gw_udp.specs.Socket.{Received}

-- Datagrams were received until none waited, or a thousand. (None waited when the far end had given these
-- and no more.)
pub record HearsAll {S : Type 0} {s : _} (receives : Received S) (old new : UdpPeer S s) : Type 0 where
  pub heard : List (List ℕ)
  pub received_are : new.received.datagrams ≡ old.received.datagrams ++ heard
  pub all : (1000 ≤ length heard) ⊎ ((then : UdpPeer S s) × HasFoundNone receives then.socket
      × (then.received.datagrams ≡ new.received.datagrams))

-- .. since some time
abbrev pub HasHeardAll : {S : Type 0} {s : _} → Received S → UdpPeer S s → Type 0
HasHeardAll {S} {s} receives peer = (before : UdpPeer S s) × HearsAll receives before peer

-- no packet is due any more
abbrev pub IsNoneDue : Receiver → PlayClock → Type 0
IsNoneDue receiver pace = (calls : List PlayoutCall) → HasPlayed receiver calls
    → is_due pace pace.counted (reach_after receiver.settings calls) ≡ false

-- a packet is due
abbrev pub IsDueNow : Receiver → PlayClock → Type 0
IsDueNow receiver pace = (calls : List PlayoutCall) → HasPlayed receiver calls
    → is_due pace pace.counted (reach_after receiver.settings calls) ≡ true

-- Packets were played until none was due any more, or 8192: their octets went to the trunk or are left for
-- it.
abbrev pub PlaysDue : Receiver → PlayClock → ℕ → List ℕ → List ℕ → Type 0
PlaysDue receiver pace size before after =
    IsNoneDue receiver pace ⊎ (length before + 8192 * size ≤ length after)

-- why octets are left for the trunk: the last write to it failed, or took none, or it was waited for 2 ^ 63
-- times
abbrev pub RefusesOctets : {O : Type 0} → (O → Type 0) → (O → ℕ → Type 0) → (O → ℕ) → O → Type 0
RefusesOctets has_failed has_taken waits outgoing =
    has_failed outgoing ⊎ has_taken outgoing 0 ⊎ (2 ^ 63 ≤ waits outgoing)
