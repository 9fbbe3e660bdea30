use Rattle.std.proofs.Common.{◌≡◌, ◌++◌, take}
use Rattle.rtp_playout.specs.Saved.{saved_places}
use Rattle.rtp_playout.proofs.playout.saving.save_places.Given as goal

abbrev pub invariant-loop-i : goal.invariant-loop-i
invariant-loop-i l = l.out.items ≡ l.initial.out.items ++ saved_places (take l.i l.window.items)
