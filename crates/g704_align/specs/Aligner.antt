-- The history of an aligner: the octets that it received, by its fields.
use Rattle.std.specs.Prelude.{◌≡◌, ℕ, ◌+◌, ◌-◌, ◌%◌, ◌<◌, ◌≤◌, Bool, true, false, not, ◌&&◌, ◌||◌, ◌==◌}
use Rattle.std.specs.Prelude.{nat_lt, if◌then◌else◌, List, [], length, slice_index, Option, Some, None}
use Rattle.g704_framing.specs.Restart.{RestartsAfter, HoldsSince}
use Rattle.g704_align.specs.declared.alignment.Aligner.{Aligner}
use Rattle.g704_align.specs.declared.alignment.SyncState.{SyncState}
use Rattle.g704_align.specs.declared.alignment.SyncState.TheVariants.{Searching, Candidate, Aligned}
use Rattle.g704_align.specs.Search.{is_fas, is_nfas}
use Rattle.g704_align.specs.Loss.{is_wrong, is_third_wrong, frame_alignment}

-- This many octets ago, that one included, a FAS octet was received that is not refuted yet.
pub record IsCandidate (age : ℕ) (octets : List ℕ) : Type 0 where
  pub counted : length octets ≡ age
  pub begun : 0 < age
  pub young : age ≤ 64
  pub fas : is_fas (slice_index octets 0) ≡ true
  pub nfas : 32 < age → is_nfas (slice_index octets 32) ≡ true

-- the octet at this age should confirm a candidate, and is wrong
abbrev pub is_refuted : ℕ → ℕ → Bool
is_refuted age octet = ((age == 32) && not (is_nfas octet)) || ((age == 64) && not (is_fas octet))

-- how many of the two octets 64 and 128 octets before one of this age are wrong, without a right one in
-- between
abbrev pub wrong_before : List ℕ → ℕ → ℕ
wrong_before octets age =
    if is_wrong octets (age - 64) then (if is_wrong octets (age - 128) then 2 else 1) else 0

-- a count of consecutive wrong octets, at the next age with this remainder by 64
abbrev pub CountsWrong : ℕ → ℕ → List ℕ → Type 0
CountsWrong rest count octets =
    (next : ℕ) → length octets ≤ next → next < length octets + 64 → next % 64 ≡ rest
    → count ≡ wrong_before octets next

-- the count after one more octet of its kind; none if it is the third wrong one in a row
abbrev pub count_after : ℕ → Bool → Option ℕ
count_after count right = if right then Some 0 else (if nat_lt count 2 then Some (count + 1) else None)

-- The octets are a present alignment, from its first FAS octet.
pub record IsAlignedRun (age wrong_fas wrong_nfas : ℕ) (octets : List ℕ) : Type 0 where
  pub counted : age ≡ length octets % 64
  pub found : 64 < length octets
  pub fas : is_fas (slice_index octets 0) ≡ true
  pub nfas : is_nfas (slice_index octets 32) ≡ true
  pub confirmed : is_fas (slice_index octets 64) ≡ true
  pub kept : (earlier : ℕ) → earlier < length octets → is_third_wrong octets earlier ≡ false
  pub fas_count : CountsWrong 0 wrong_fas octets
  pub nfas_count : CountsWrong 32 wrong_nfas octets

-- the octets since the last restart, by the phase
abbrev pub Describes : SyncState → List ℕ → Type 0
Describes Searching octets = octets ≡ []
Describes (Candidate age) octets = IsCandidate age octets
Describes (Aligned age wrong_fas wrong_nfas) octets = IsAlignedRun age wrong_fas wrong_nfas octets

-- the phase fits these octets, or is the search that follows them
abbrev pub Follows : SyncState → Option ℕ → List ℕ → Type 0
Follows Searching before octets = RestartsAfter frame_alignment before octets
Follows (Candidate age) before octets = IsCandidate age octets
Follows (Aligned age wrong_fas wrong_nfas) before octets = IsAlignedRun age wrong_fas wrong_nfas octets

-- the aligner has this history: its fields describe the octets since the last restart
abbrev pub HasHistory : Aligner → List ℕ → Type 0
HasHistory aligner history = HoldsSince frame_alignment
    (λ before since. Describes aligner.phase since) history
