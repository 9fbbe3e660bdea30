-- The octets of a saved aligner: the number of its phase, then the phase's age and counts.
use Rattle.std.specs.Prelude.{ℕ, List, [], ◌∷◌}
use Rattle.g704_align.specs.declared.alignment.Aligner.{Aligner}
use Rattle.g704_align.specs.declared.alignment.SyncState.{SyncState}
use Rattle.g704_align.specs.declared.alignment.SyncState.TheVariants.{Searching, Candidate, Aligned}

abbrev pub saved_phase : SyncState → List ℕ
saved_phase Searching = 0 ∷ []
saved_phase (Candidate age) = 1 ∷ age ∷ []
saved_phase (Aligned age wrong_fas wrong_nfas) = 2 ∷ age ∷ wrong_fas ∷ wrong_nfas ∷ []

abbrev pub saved_aligner : Aligner → List ℕ
saved_aligner aligner = saved_phase aligner.phase
