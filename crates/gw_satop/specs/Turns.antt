-- The turns of an emulated circuit: what happens to it, and what follows from that (module `circuit`).
use Rattle.std.specs.Prelude.{◌≡◌, ⊤, ℕ, Bool, true, nat_lt, List, [], ◌∷◌, ◌++◌}
use Rattle.std.specs.Prelude.{Result}
use Rattle.satop_packet.specs.Satop.{Content}
use Rattle.satop_playout.specs.declared.Settings.{Settings}
use Rattle.satop_playout.specs.Calls.{PlayoutCall}
use Rattle.satop_playout.specs.Plays.{is_there, reach_after}
use Rattle.gw_satop.specs.declared.counts.Counts.{Counts}
use Rattle.gw_satop.specs.declared.line.DatagramOutcome.{DatagramOutcome}
use Rattle.gw_satop.specs.declared.pace.PlayClock.{PlayClock}
use Rattle.gw_satop.specs.declared.packet.PacketFault.{PacketFault}
use Rattle.gw_satop.specs.declared.timing.Timing.{Timing}
use Rattle.gw_satop.specs.Counts.{counts_by_bits, counts_by_outcome, counts_by_play, counts_by_sending}
use Rattle.gw_satop.specs.Counts.{more_if, no_counts}
use Rattle.gw_satop.specs.Line.{calls_for, receipt_of}
use Rattle.gw_satop.specs.Pace.{after_listening, after_outcome, after_plan, after_play, at_time, falls_silent}
use Rattle.gw_satop.specs.Pace.{is_due, new_pace}
use Rattle.gw_satop.specs.Packets.{control_in, packet_in}

-- What happens: a turn begins at a time; a datagram comes; a packet is played; all that came was read, so
-- that a silence may begin; a packet is sent, which the system takes or not; the next turn is planned.
pub data TurnEvent : Type 0 where
  Turns : ℕ → TurnEvent
  Hears : List ℕ → TurnEvent
  Plays : TurnEvent
  Listens : TurnEvent
  Sends : Bool → TurnEvent
  Plans : TurnEvent

-- What follows: the calls of the playout; the pace, which tells whether the circuit is silent; bit R of each
-- packet that was sent; and the counts.
pub record CircuitState : Type 0 where
  pub calls : List PlayoutCall
  pub pace : PlayClock
  pub flags : List Bool
  pub counts : Counts

-- before anything has happened
abbrev pub state_at_first : Timing → ℕ → CircuitState
state_at_first timing began =
    record { calls = []; pace = new_pace timing began; flags = []; counts = no_counts }

-- what becomes of a datagram at the time of the turn
abbrev pub outcome_at : Settings → CircuitState → Result Content PacketFault → DatagramOutcome
outcome_at settings s packet = receipt_of settings s.calls s.pace s.pace.counted packet

-- a datagram with this packet came, of which this became
abbrev pub after_datagram : Settings → CircuitState → Result Content PacketFault → DatagramOutcome
    → CircuitState
after_datagram settings s packet outcome = record {
  calls = s.calls ++ calls_for settings.size outcome packet;
  pace = after_outcome s.pace outcome packet s.pace.counted;
  flags = s.flags;
  counts = counts_by_bits (counts_by_outcome s.counts outcome) (control_in packet);
}

-- What follows from an event. Bit R of a packet that is sent says that the circuit is silent, since no packet
-- of the stream has come for 100 ms (RFC 4553, 4.3 and 6.2.2).
abbrev pub after_event : Settings → Bool → CircuitState → TurnEvent → CircuitState
after_event settings rtp s (Turns now) = record s { pace = at_time s.pace now }
after_event settings rtp s (Hears datagram) =
    after_datagram settings s (packet_in rtp settings.size datagram)
    (outcome_at settings s (packet_in rtp settings.size datagram))
after_event settings rtp s Plays = record {
  calls = s.calls ++ PlayoutCall.Plays ∷ [];
  pace = after_play s.pace;
  flags = s.flags;
  counts = counts_by_play s.counts (is_there settings s.calls) (nat_lt 0 (reach_after settings s.calls))
      s.pace.silent;
}
after_event settings rtp s Listens = record s {
  pace = after_listening s.pace s.pace.counted;
  counts = record s.counts { silences = more_if (falls_silent s.pace s.pace.counted) s.counts.silences };
}
after_event settings rtp s (Sends taken) = record s {
  flags = s.flags ++ s.pace.silent ∷ [];
  counts = counts_by_sending s.counts taken;
}
after_event settings rtp s Plans =
    record s { pace = after_plan s.pace s.pace.counted (reach_after settings s.calls) }

-- what follows from all events, the last of which is the first of the list
unfoldable pub state_after : Settings → Bool → CircuitState → List TurnEvent → CircuitState
state_after settings rtp begun [] = begun
state_after settings rtp begun (event ∷ earlier) =
    after_event settings rtp (state_after settings rtp begun earlier) event

-- the settings of a circuit, when it began, and what has happened since then, the last event first
pub record Past : Type 0 where
  pub settings : Settings
  pub rtp : Bool
  pub timing : Timing
  pub began : ℕ
  pub events : List TurnEvent

-- what follows from all that has happened
abbrev pub state_of : Past → CircuitState
state_of p = state_after p.settings p.rtp (state_at_first p.timing p.began) p.events

-- a packet that is played is due
abbrev pub IsDueAt : Settings → CircuitState → TurnEvent → Type 0
IsDueAt settings s Plays = is_due s.pace s.pace.counted (reach_after settings s.calls) ≡ true
IsDueAt settings s event = ⊤

-- .. each of them, when it was
unfoldable pub AllDue : Settings → Bool → CircuitState → List TurnEvent → Type 0
AllDue settings rtp begun [] = ⊤
AllDue settings rtp begun (event ∷ earlier) =
    IsDueAt settings (state_after settings rtp begun earlier) event × AllDue settings rtp begun earlier

-- the datagrams that came, in order
unfoldable pub datagrams_in : List TurnEvent → List (List ℕ)
datagrams_in [] = []
datagrams_in (Hears datagram ∷ earlier) = datagrams_in earlier ++ datagram ∷ []
datagrams_in (event ∷ earlier) = datagrams_in earlier
