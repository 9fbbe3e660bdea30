-- The history of a mover: the octets that it received, by its fields.
use Rattle.std.specs.Prelude.{◌≡◌, ◌⊎◌, ℕ, ◌+◌, ◌-◌, ◌%◌, ◌/◌, ◌*◌, ◌<◌, ◌≤◌, Bool, true, false, List}
use Rattle.std.specs.Prelude.{[], ◌∷◌, ◌++◌, length, min, slice_index}
use Rattle.g704_framing.specs.Restart.{HoldsSince}
use Rattle.g704_slots.specs.declared.mover.SlotMover.{SlotMover}
use Rattle.g704_slots.specs.declared.mover.SearchState.{SearchState}
use Rattle.g704_slots.specs.declared.mover.SearchState.TheVariants.{Searching, Aligned}
use Rattle.g704_slots.specs.Search.{is_found, is_whole}
use Rattle.g704_slots.specs.Loss.{slot_16, is_second_in_error, is_wrong, is_only_signal}
use Rattle.g704_slots.specs.Shown.{delay}

-- Slot 16 is not found in these octets, of which this many are counted. Behind this many of the last ones no
-- three multiframes have ended.
pub record IsSearching (seen alone : ℕ) (octets : List ℕ) : Type 0 where
  pub counted : seen ≡ min 1984 (length octets)
  pub none : (position : ℕ) → is_found octets position ≡ false
  pub most : alone ≤ 495
  pub others : (start : ℕ) → start + 1488 < length octets → length octets ≤ start + 1488 + alone
      → is_whole octets start ≡ false
  pub last : alone < 495 → (length octets ≤ alone + 1488)
      ⊎ (is_whole octets (length octets - alone - 1489) ≡ true)

-- The octets are a present alignment, from the first of the four multiframes on.
pub record IsAlignedRun (age : ℕ) (wrong zero : Bool) (octets : List ℕ) : Type 0 where
  pub found : is_found octets 0 ≡ true
  pub counted : age ≡ length octets % 496
  pub kept : (earlier : ℕ) → earlier < length octets → is_second_in_error octets earlier ≡ false
  -- the last signal that came, and slot 16 since
  pub last : (signal : ℕ) → signal < length octets → length octets ≤ signal + 496 → signal % 496 ≡ 0
      → (wrong ≡ is_wrong octets signal)
      × (zero ≡ is_only_signal octets signal ((length octets - signal - 1) / 31))

-- The octets are a present alignment: its last octet of slot 16 was in this frame of a multiframe, and as
-- many pass before the next one.
pub record IsFollowed (frame pass : ℕ) (wrong zero : Bool) (octets : List ℕ) : Type 0 where
  pub in_multiframe : frame < 16
  pub in_frame : pass ≤ 30
  pub run : IsAlignedRun ((31 * frame + (31 - pass)) % 496) wrong zero octets

-- The alignment behind octets with which slot 16 is not found.
pub record IsAligned (frame pass : ℕ) (wrong zero : Bool) (octets : List ℕ) : Type 0 where
  pub skipped : List ℕ
  pub aligned : List ℕ
  pub whole : octets ≡ skipped ++ aligned
  pub none : (position : ℕ) → position < length skipped → is_found octets position ≡ false
  pub fields : IsFollowed frame pass wrong zero aligned

-- the octets since the last restart, by the phase and how many pass; the first octet of all was at a place,
-- and this many came
abbrev pub Describes : SearchState → ℕ → ℕ → ℕ → List ℕ → Type 0
Describes (Searching seen alone) pass first count octets = (pass ≡ 0) × IsSearching seen alone octets
Describes (Aligned frame wrong zero late) pass first count octets =
    (a : IsAligned frame pass wrong zero octets) × (late ≡ delay (first + (count - length a.aligned)))

-- the phase and how many pass are those of these octets, by those since the last restart
abbrev pub Stands : SearchState → ℕ → ℕ → List ℕ → Type 0
Stands phase pass first history =
    HoldsSince slot_16 (λ before octets. Describes phase pass first (length history) octets) history

-- how many octets pass behind one that is read
abbrev pub pass_of : SearchState → ℕ
pass_of (Searching seen alone) = 0
pass_of (Aligned frame wrong zero late) = 30

-- the phase is that of the alignment with one more octet, or the search after a loss by that octet
abbrev pub FollowsAlignment : SearchState → ℕ → ℕ → List ℕ → ℕ → Type 0
FollowsAlignment (Searching seen alone) pass late octets octet =
    (pass ≡ 0) × (seen ≡ 0) × (alone ≡ 0) × (is_second_in_error (octets ++ octet ∷ []) (length octets) ≡ true)
FollowsAlignment (Aligned frame wrong zero later) pass late octets octet =
    (later ≡ late) × IsFollowed frame pass wrong zero (octets ++ octet ∷ [])

-- The mover has this history of octets, of which the first was at this place in frames of slots 1 to 31.
pub record HasHistory (mover : SlotMover) (first : ℕ) (history : List ℕ) : Type 0 where
  pub since : Stands mover.phase mover.pass first history
  pub at : mover.at % 2048 ≡ length history % 2048
  pub place : mover.place ≡ (first + length history) % 31
  pub room : length mover.memory ≡ 2048
  pub kept : (position : ℕ) → position < length history → length history ≤ position + 2048
      → slice_index mover.memory (position % 2048) ≡ slice_index history position
