use Rattle.std.proofs.Common.{◌≡◌, ◌++◌, ◌≤◌, ◌<◌, length, IfSome, All}
use Rattle.rtp_playout.specs.Saved.{saved_places}
use Rattle.rtp_playout.proofs.playout.saving.load_places.Given as goal

abbrev pub invariant-loop : goal.invariant-loop
invariant-loop l = record {
  octets : l.initial.octets ≡ saved_places l.window.items ++ l.octets;
  many : length l.window.items ≡ l.counter;
  within : l.counter ≤ l.initial.window.capacity;
  room : l.window.capacity ≡ l.initial.window.capacity;
  below : All (λ place. IfSome place (λ word. word < l.bound)) l.window.items;
}
