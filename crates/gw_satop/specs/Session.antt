-- What an emulated circuit carries (module `circuit`).
use Rattle.std.specs.Prelude.{◌≡◌, ◌<◌, ℕ, Bool, List, [], length}
use Rattle.satop_playout.specs.Laws.{arrivals_of}
use Rattle.gw_satop.specs.declared.counts.Counts.{Counts}
use Rattle.gw_satop.specs.declared.line.Receiver.{Receiver}
use Rattle.gw_satop.specs.declared.pace.PlayClock.{PlayClock}
use Rattle.gw_satop.specs.declared.sender.Sender.{Sender}
use Rattle.gw_satop.specs.Line.{HasPlayed, played}
use Rattle.gw_satop.specs.Packets.{arrivals_in}
use Rattle.gw_satop.specs.Sending.{packets_of}
use Rattle.gw_satop.specs.Turns.{AllDue, Past, datagrams_in, state_at_first, state_of}

-- Datagrams came from the far end: their packets arrived at the playout, each once and in this order, and
-- streams began and packets were played between them, each when it was due. What went to the trunk are the
-- octets of the time slots for the octets of the plays. The pace, bit R of each packet that was sent and the
-- counts follow from what happened.
pub record PlaysAll (receiver : Receiver) (pace : PlayClock) (counts : Counts) (flags : List Bool)
    (received : List (List ℕ)) (went : List ℕ) : Type 0 where
  pub past : Past
  pub settings_are : receiver.settings ≡ past.settings
  pub rtp_is : receiver.rtp ≡ past.rtp
  pub timing_is : pace.timing ≡ past.timing
  pub stands : HasPlayed receiver (state_of past).calls
  pub pace_is : pace ≡ (state_of past).pace
  pub flags_are : flags ≡ (state_of past).flags
  pub counts_are : counts ≡ (state_of past).counts
  pub due : AllDue past.settings past.rtp (state_at_first past.timing past.began) past.events
  pub received_are : received ≡ datagrams_in past.events
  pub arrivals_are : arrivals_of (state_of past).calls ≡ arrivals_in past.rtp past.settings.size received
  pub went_are : went ≡ played past.settings (state_of past).calls

-- What was sent to the far end are the packets of the octets that came from the trunk, in order, each octet
-- once; fewer than a packet has are left.
pub record SendsAll (sender : Sender) (sent : List (List ℕ)) (came : List ℕ) : Type 0 where
  pub came_are : sender.came.octets ≡ came
  pub sent_are : sent ≡ packets_of sender.start sender.log.flags came
  pub rest : length sender.held.items < sender.start.size

-- no octet came from the trunk or went to it, and no datagram came from the far end or was sent
pub record HasNoTraffic (came went : List ℕ) (received sent : List (List ℕ)) : Type 0 where
  pub came_are : came ≡ []
  pub went_are : went ≡ []
  pub received_are : received ≡ []
  pub sent_are : sent ≡ []

-- both halves and the pace are set up as they were
pub record HasSettings (receiver receiver' : Receiver) (sender sender' : Sender) (pace pace' : PlayClock)
    : Type 0 where
  pub settings_are : receiver'.settings ≡ receiver.settings
  pub rtp_is : receiver'.rtp ≡ receiver.rtp
  pub start_is : sender'.start ≡ sender.start
  pub timing_is : pace'.timing ≡ pace.timing
