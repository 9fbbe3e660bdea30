-- The octets of a saved multiframe aligner: the number of its phase, then the phase's values.
use Rattle.std.specs.Prelude.{ℕ, List, [], ◌∷◌}
use Rattle.saved_octets.specs.Numbers.{flag_octet}
use Rattle.g704_cas.specs.declared.alignment.MfAligner.{MfAligner}
use Rattle.g704_cas.specs.declared.alignment.SyncState.{SyncState}
use Rattle.g704_cas.specs.declared.alignment.SyncState.TheVariants.{Searching, Aligned}

abbrev pub saved_mf_phase : SyncState → List ℕ
saved_mf_phase (Searching after_nonzero) = 0 ∷ flag_octet after_nonzero ∷ []
saved_mf_phase (Aligned frame wrong) = 1 ∷ frame ∷ flag_octet wrong ∷ []

abbrev pub saved_mf_aligner : MfAligner → List ℕ
saved_mf_aligner aligner = saved_mf_phase aligner.phase
