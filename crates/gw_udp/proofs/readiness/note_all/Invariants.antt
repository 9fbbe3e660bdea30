use Rattle.std.proofs.Common.{map}
use Rattle.gw_udp.specs.Resting.{AreNoted}
use Rattle.gw_udp.proofs.readiness.note_all.Given as goal

-- The events so far are noted.
abbrev pub invariant-loop-event : goal.invariant-loop-event
invariant-loop-event l = record { noted : AreNoted (map (λ e. e.now) l.yielded) l.initial.rests l.rests }
