use Rattle.std.proofs.Common.{◌≡◌, ◌<◌, ℕ, Some, None, length, slice_index_or}
use Rattle.std.specs.Prelude.{slice_index}
use Rattle.rtp_playout.proofs.window.first_words.Given as goal

-- the words of the places before the index are got
abbrev pub invariant-loop-i : goal.invariant-loop-i
invariant-loop-i l = record {
  len : length l.words ≡ length l.initial.words;
  got : (k : ℕ) → k < l.i → slice_index_or l.window.items k None ≡ Some (slice_index l.words k);
}
