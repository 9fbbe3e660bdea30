-- When packets are played, and when a stream begins (module `pace`). Times are in microseconds.
use Rattle.std.specs.Prelude.{◌≡◌, ℕ, ◌+◌, ◌-◌, ◌*◌, ◌/◌, ◌%◌, ◌^◌, ◌==◌, ◌&&◌, ◌||◌, not}
use Rattle.std.specs.Prelude.{nat_le, nat_lt, min, max, Bool, true, false, if◌then◌else◌, Option, Some, None}
use Rattle.std.specs.Prelude.{Result, Ok, Err}
use Rattle.satop_playout.specs.declared.ArrivalFault.{ArrivalFault}
use Rattle.satop_playout.specs.declared.ArrivalFault.TheVariants.{OtherSize, NotBegun, Late, TooFar, Repeat}
use Rattle.satop_packet.specs.Satop.{Content}
use Rattle.gw_satop.specs.declared.line.DatagramOutcome.{DatagramOutcome}
use Rattle.gw_satop.specs.declared.line.DatagramOutcome.TheVariants as outcomes
use Rattle.gw_satop.specs.declared.packet.PacketFault.{PacketFault}
use Rattle.gw_satop.specs.declared.pace.PlayClock.{PlayClock}
use Rattle.gw_satop.specs.declared.pace.Run.{Run}
use Rattle.gw_satop.specs.declared.timing.Timing.{Timing}

-- the pace from a time on
abbrev pub new_pace : Timing → ℕ → PlayClock
new_pace timing began = record {
  timing = timing;
  heard = began;
  reached = began;
  patient = began;
  planned = began;
  credit = 1000000000;
  counted = began;
  silent = false;
  listened = false;
  run = None;
}

-- the number of the packet that is played next if a stream begins with this one: by this machine's clock the
-- one this many packets before it, so that the jitter buffer fills
abbrev pub first_number : Timing → ℕ → ℕ
first_number t sequence =
    if t.own_clock then (sequence + (2 ^ 16 - t.jitter % 2 ^ 16)) % 2 ^ 16 else sequence

-- a run of one packet
abbrev pub new_run : ℕ → ℕ → Run
new_run sequence now = record { since = now; last = sequence; packets = 1 }

-- the run of packets outside the window with one more packet: consecutive numbers go on
abbrev pub run_with : Option Run → ℕ → ℕ → Run
run_with None sequence now = new_run sequence now
run_with (Some r) sequence now = if (r.last + 1) % 2 ^ 16 == sequence
    then record { since = r.since; last = sequence; packets = min (r.packets + 1) (2 ^ 32 - 1) }
    else new_run sequence now

-- at least 8 packets came over at least 50 ms
abbrev pub is_long : Run → ℕ → Bool
is_long r now = nat_le 8 r.packets && nat_le 50000 (now - r.since)

-- they came at no more than one and a half times the rate of the trunk; faster ones were held back
abbrev pub is_in_step : ℕ → Run → ℕ → Bool
is_in_step packet r now = nat_le (2 * (r.packets * packet) / 3) (now - r.since)

-- a run is a new stream
abbrev pub is_stream : ℕ → Run → ℕ → Bool
is_stream packet r now = is_long r now && is_in_step packet r now

-- the number at which a stream begins, if one does, with a packet outside the window
abbrev pub restart_number : PlayClock → ℕ → ℕ → Option ℕ
restart_number p sequence now = if is_stream p.timing.packet (run_with p.run sequence now) now
    then Some (first_number p.timing sequence) else None

-- the number at which a stream begins, if one does, with a packet that is refused: at first with any packet,
-- later with one outside the window
abbrev pub beginning : PlayClock → ArrivalFault → ℕ → ℕ → Option ℕ
beginning p NotBegun sequence now = Some (first_number p.timing sequence)
beginning p Late sequence now = restart_number p sequence now
beginning p TooFar sequence now = restart_number p sequence now
beginning p OtherSize sequence now = None
beginning p Repeat sequence now = None

-- the run that is left of one with a packet outside the window: one that is too fast begins again
abbrev pub run_left : ℕ → Run → ℕ → Option Run
run_left packet r now = if is_stream packet r now then None
    else if is_long r now then Some (new_run r.last now) else Some r

-- the pace after a packet is refused
abbrev pub after_refusal : PlayClock → ArrivalFault → ℕ → ℕ → PlayClock
after_refusal p NotBegun sequence now = p
after_refusal p Late sequence now =
    record p { run = run_left p.timing.packet (run_with p.run sequence now) now }
after_refusal p TooFar sequence now =
    record p { run = run_left p.timing.packet (run_with p.run sequence now) now }
after_refusal p OtherSize sequence now = p
after_refusal p Repeat sequence now = p

-- the pace after a packet of the stream has come: there is no silence. By packets, this machine's clock
-- counts from it
abbrev pub after_packet : PlayClock → ℕ → PlayClock
after_packet p now = record p {
  heard = now;
  silent = false;
  run = None;
  reached = if p.timing.own_clock then p.reached else now;
}

-- the pace after a packet of which this became
abbrev pub after_packet_outcome : PlayClock → DatagramOutcome → ℕ → ℕ → PlayClock
after_packet_outcome p outcomes.Accepted sequence now = after_packet p now
after_packet_outcome p (outcomes.Began first) sequence now = after_packet p now
after_packet_outcome p (outcomes.Refused fault) sequence now = after_refusal p fault sequence now
after_packet_outcome p (outcomes.PacketFault fault) sequence now = p

-- the pace after a datagram of which this became
abbrev pub after_outcome : PlayClock → DatagramOutcome → Result Content PacketFault → ℕ → PlayClock
after_outcome p outcome (Err fault) now = p
after_outcome p outcome (Ok packet) now = after_packet_outcome p outcome packet.control.sequence now

-- this machine's clock plays: it is to, or no packet comes
abbrev pub by_clock : PlayClock → Bool
by_clock p = p.silent || p.timing.own_clock

-- A packet is due. By packets, once `jitter` later ones have come, and within the rate. By this machine's
-- clock, each time of a packet; before all that came was read, only those behind which `jitter` others wait.
abbrev pub is_due : PlayClock → ℕ → ℕ → Bool
is_due p now reach = if by_clock p
    then nat_le p.timing.packet (now - p.reached) && (p.listened || nat_lt p.timing.jitter reach)
    else nat_lt p.timing.jitter reach && nat_le (1000 * p.timing.packet) p.credit

-- the pace after a play
abbrev pub after_play : PlayClock → PlayClock
after_play p = if by_clock p then record p { reached = min (p.reached + p.timing.packet) (2 ^ 64 - 1) }
    else record p { credit = p.credit - 1000 * p.timing.packet }

-- The pace at a time. In thousandths of a microsecond, the credit grows by a thousandth more than time
-- passes, up to a second: so a thousandth above the rate of the trunk is played at most, except after a stall
-- of a second at most. If this machine's process itself came so late, what came may still be on its way.
-- What comes from then on is still to be read.
abbrev pub at_time : PlayClock → ℕ → PlayClock
at_time p now = record p {
  credit = min (p.credit + 1001 * min (now - p.counted) 1000000) 1000000000;
  counted = now;
  reached = max p.reached (now - 1000000);
  patient = if nat_lt 20000 (now - p.planned) then min (now + 20000) (2 ^ 64 - 1) else p.patient;
  listened = false;
}

-- no packet of the stream has come for 100 ms, and all that may be on its way had time to come
abbrev pub falls_silent : PlayClock → ℕ → Bool
falls_silent p now = not p.silent && (nat_le 100000 (now - p.heard) && nat_le p.patient now)

-- the pace is set up as it was, its time stands, and a silence that was to begin is still to begin
pub record KeepsTime (old new : PlayClock) : Type 0 where
  pub timing : new.timing ≡ old.timing
  pub time : new.counted ≡ old.counted
  pub listened : new.listened ≡ old.listened
  pub silence : falls_silent new new.counted ≡ falls_silent old old.counted

-- the pace after all that came was read
abbrev pub after_listening : PlayClock → ℕ → PlayClock
after_listening p now = record p { silent = p.silent || falls_silent p now; listened = true }

-- all that came until this time was read, so that no silence is to begin
pub record HasListened (pace : PlayClock) (now : ℕ) : Type 0 where
  pub time : pace.counted ≡ now
  pub listened : pace.listened ≡ true
  pub silence : falls_silent pace pace.counted ≡ false

-- when something is due if no packet comes
abbrev pub next_time : PlayClock → ℕ → ℕ → ℕ
next_time p now reach = if by_clock p then min (p.reached + p.timing.packet) (2 ^ 64 - 1)
    else if nat_lt p.timing.jitter reach
    then min (now + ((1000 * p.timing.packet - p.credit) / 1001 + 1)) (2 ^ 64 - 1)
    else max (min (p.heard + 100000) (2 ^ 64 - 1)) p.patient

-- the pace after the next call was planned
abbrev pub after_plan : PlayClock → ℕ → ℕ → PlayClock
after_plan p now reach = record p { planned = next_time p now reach }
