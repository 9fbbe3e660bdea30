-- The history of an aligner: the windows that it received, by its fields.
use Rattle.std.specs.Prelude.{◌≡◌, ℕ, ◌+◌, ◌%◌, ◌<◌, ◌≤◌, Bool, true, false, ◌&&◌, nat_lt, nat_le}
use Rattle.std.specs.Prelude.{if◌then◌else◌, List, [], ◌∷◌, ◌++◌, length, slice_index}
use Rattle.g704_framing.specs.Restart.{HoldsSince}
use Rattle.g704_bits.specs.declared.aligner.Aligner.{Aligner}
use Rattle.g704_bits.specs.declared.aligner.SyncState.{SyncState}
use Rattle.g704_bits.specs.declared.aligner.SyncState.TheVariants.{Hunting, Aligned}
use Rattle.g704_align.specs.Search.{is_fas, is_nfas}
use Rattle.g704_align.specs.Aligner as frames
use Rattle.g704_bits.specs.Search.{is_confirmed}
use Rattle.g704_bits.specs.Loss.{octets_along, is_lost_at, bit_alignment}
use Rattle.g704_bits.specs.Bits.{offset_after}

-- No window is confirmed yet; the count and the memory are those of these windows.
pub record IsHunting (seen : ℕ) (memory windows : List ℕ) : Type 0 where
  pub limit : seen < 1024
  pub rest : seen % 512 ≡ length windows % 512
  pub few : seen < 512 → length windows < 512
  pub many : 512 ≤ seen → 512 ≤ length windows
  pub room : length memory ≡ 512
  pub kept : (position : ℕ) → position < length windows → length windows ≤ position + 512
      → slice_index memory (position % 512) ≡ slice_index windows position
  pub none : (position : ℕ) → is_confirmed windows position ≡ false

-- the count after one more window
abbrev pub next_seen : ℕ → ℕ
next_seen seen = if nat_lt seen 1023 then seen + 1 else 512

-- the window is, by the count and the memory, the third of three that confirm one another
abbrev pub confirms : ℕ → List ℕ → ℕ → Bool
confirms seen memory window =
    nat_le 512 seen
    && (is_fas (slice_index memory (seen % 512))
    && (is_nfas (slice_index memory ((seen + 256) % 512)) && is_fas window))

-- The windows are a present alignment, from its first signal.
pub record IsAlignedRun (age wrong_fas wrong_nfas : ℕ) (windows : List ℕ) : Type 0 where
  pub counted : age ≡ length windows % 512
  pub found : 512 < length windows
  pub octets :
      frames.IsAlignedRun (length (octets_along windows) % 64) wrong_fas wrong_nfas (octets_along windows)

-- The alignment behind windows of which none is confirmed.
pub record IsAligned (age wrong_fas wrong_nfas : ℕ) (windows : List ℕ) : Type 0 where
  pub skipped : List ℕ
  pub aligned : List ℕ
  pub whole : windows ≡ skipped ++ aligned
  pub none : (position : ℕ) → position < length skipped → is_confirmed windows position ≡ false
  pub fields : IsAlignedRun age wrong_fas wrong_nfas aligned

-- the windows since the last restart, by the phase, and the memory without alignment
abbrev pub Describes : SyncState → List ℕ → List ℕ → Type 0
Describes (Hunting seen) memory windows = IsHunting seen memory windows
Describes (Aligned age wrong_fas wrong_nfas) memory windows = IsAligned age wrong_fas wrong_nfas windows

-- the phase is that of the alignment with one more window, or the search after a loss by that window
abbrev pub FollowsAlignment : SyncState → List ℕ → ℕ → Type 0
FollowsAlignment (Hunting seen) windows window =
    (seen ≡ 0) × (is_lost_at (windows ++ window ∷ []) (length windows) ≡ true)
FollowsAlignment (Aligned age wrong_fas wrong_nfas) windows window =
    IsAlignedRun age wrong_fas wrong_nfas (windows ++ window ∷ [])

-- The aligner has this history of windows.
pub record HasHistory (aligner : Aligner) (history : List ℕ) : Type 0 where
  pub since : HoldsSince bit_alignment
      (λ before windows. Describes aligner.phase aligner.memory windows) history
  pub offset : aligner.offset ≡ offset_after history
  pub room : length aligner.memory ≡ 512
