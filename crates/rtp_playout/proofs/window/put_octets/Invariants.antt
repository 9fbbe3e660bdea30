use Rattle.std.proofs.Common.{◌≡◌, take}
use Rattle.circular_buffer.specs.Buffer.{buffer}
use Rattle.rtp_playout.specs.Window.{put_words}
use Rattle.rtp_playout.proofs.window.put_octets.Given as goal

abbrev pub invariant-loop-i : goal.invariant-loop-i
invariant-loop-i l =
    l.window ≡ buffer (put_words l.initial.window.items l.from (take l.i l.octets)) l.initial.window.capacity
