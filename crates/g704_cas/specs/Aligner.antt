-- The history of a multiframe aligner: the octets that it received, by its fields.
use Rattle.std.specs.Prelude.{◌≡◌, ℕ, ◌+◌, ◌-◌, ◌%◌, ◌<◌, ◌≤◌, Bool, true, false, List, [], length}
use Rattle.std.specs.Prelude.{slice_index, Option}
use Rattle.g704_framing.specs.Restart.{RestartsAfter, last_of, HoldsSince}
use Rattle.g704_cas.specs.declared.alignment.MfAligner.{MfAligner}
use Rattle.g704_cas.specs.declared.alignment.SyncState.{SyncState}
use Rattle.g704_cas.specs.declared.alignment.SyncState.TheVariants.{Searching, Aligned}
use Rattle.g704_cas.specs.Search.{is_mfas, is_not_zero}
use Rattle.g704_cas.specs.Loss.{is_wrong, is_second_wrong, multiframe_alignment}

-- The octets are a present alignment, from its first one; the octet before them is not 0.
pub record IsAlignedRun (before : Option ℕ) (frame : ℕ) (wrong : Bool) (octets : List ℕ) : Type 0 where
  pub after_nonzero : is_not_zero before ≡ true
  pub begun : 0 < length octets
  pub first : is_mfas (slice_index octets 0) ≡ true
  pub counted : frame ≡ length octets % 16
  pub kept : (earlier : ℕ) → earlier < length octets → is_second_wrong octets earlier ≡ false
  -- the octet of the frame 0 before the next one
  pub last : (next : ℕ) → length octets ≤ next → next < length octets + 16 → next % 16 ≡ 0
      → wrong ≡ is_wrong octets (next - 16)

-- the octets since the last restart, and the one before them, by the phase
abbrev pub Describes : SyncState → Option ℕ → List ℕ → Type 0
Describes (Searching after_nonzero) before octets = (octets ≡ []) × (after_nonzero ≡ is_not_zero before)
Describes (Aligned frame wrong) before octets = IsAlignedRun before frame wrong octets

-- the phase fits these octets, or is the search that follows them
abbrev pub Follows : SyncState → Option ℕ → List ℕ → Type 0
Follows (Searching after_nonzero) before octets =
    RestartsAfter multiframe_alignment before octets × (after_nonzero ≡ is_not_zero (last_of before octets))
Follows (Aligned frame wrong) before octets = IsAlignedRun before frame wrong octets

-- The aligner has this history: the octets since it was made, or since a loss of frame alignment.
abbrev pub HasHistory : MfAligner → List ℕ → Type 0
HasHistory aligner history = HoldsSince multiframe_alignment (Describes aligner.phase) history
