use Rattle.std.proofs.Common.{◌≡◌, ◌||◌, map}
use Rattle.gw_trunk.specs.Clients.{AreWoken, comes}
use Rattle.gw_trunk.proofs.clients.note_all.Given as goal

-- The events so far are noted.
abbrev pub invariant-loop-event : goal.invariant-loop-event
invariant-loop-event l =
    let events = map (λ e. e.now) l.yielded in record {
      octets : l.octets ≡ (comes 0 events || l.initial.octets);
      knocks : l.knocks ≡ (comes 1 events || l.initial.knocks);
      ends : l.ends ≡ (comes 10 events || l.initial.ends);
      woken : AreWoken events l.initial.places l.places;
    }
