-- The history of a receiver: its octets.
use Rattle.std.specs.Prelude.{◌≡◌, ◌≢◌, ℕ, ◌+◌, ◌-◌, ◌*◌, ◌/◌, ◌%◌, ◌<◌, ◌≤◌, false, List, [], ◌∷◌, ◌++◌}
use Rattle.std.specs.Prelude.{length, slice_index, take, drop, Some}
use Rattle.g704_framing.specs.Restart.{HoldsSince}
use Rattle.g704_align.specs.Aligner as frames
use Rattle.g704_crc4.specs.declared.receiving.Receiver.{Receiver}
use Rattle.g704_crc4.specs.declared.receiving.MultiframeSync.{MultiframeSync}
use Rattle.g704_crc4.specs.declared.receiving.MultiframeSync.TheVariants.{Hunting, Searching}
use Rattle.g704_crc4.specs.declared.receiving.MultiframeSync.TheVariants.{SubmultiframeCheck}
use Rattle.g704_crc4.specs.declared.receiving.SubmultiframeCheck as followings
use Rattle.g704_crc4.specs.declared.counting.TrunkChecker.{TrunkChecker}
use Rattle.g704_crc4.specs.States.{ChecksAfter}
use Rattle.g704_crc4.specs.Aligning.{aligned_octets, multiframe_in, checked_octets, known_blocks, errored_in}
use Rattle.g704_crc4.specs.Aligning.{parts}
use Rattle.g704_crc4.specs.ReceiverCounts.{receiver_counts_of}

-- During the 8 ms: the number of their octets received, and these octets.
pub record IsSearched (count : ℕ) (searched octets : List ℕ) : Type 0 where
  pub counted : count + 64 ≡ length octets
  pub begun : 2 ≤ count
  pub limit : count ≤ 2048
  pub kept : take count searched ≡ drop 64 octets

-- After the 8 ms, in a frame alignment with CRC multiframes: the octets before the first to check, the
-- checker, and how many submultiframes of the present thousand are known, and errored.
pub record IsFollowed (following : followings.SubmultiframeCheck) (octets : List ℕ) : Type 0 where
  pub number : ℕ
  pub found : multiframe_in octets ≡ Some number
  pub past : 2112 ≤ length octets
  pub waits : following.to_come ≡ (2112 + 64 * (number % 8)) - length octets
  pub checks : ChecksAfter following.checker (checked_octets octets)
  pub known : following.known ≡ known_blocks (checked_octets octets) % 1000
  pub errored : following.errored ≡ errored_in (checked_octets octets)
      (1000 * (known_blocks (checked_octets octets) / 1000)) (known_blocks (checked_octets octets) % 1000)
  pub few : following.errored < 915

-- The octets of the frame alignment, by the stage. If there are none, the last octet of this part of the
-- stream is kept.
abbrev pub IsStage : MultiframeSync → List ℕ → List ℕ → List ℕ → Type 0
IsStage Hunting searched part octets =
    (octets ≡ []) × (0 < length part → slice_index searched 0 ≡ slice_index part (length part - 1))
IsStage (Searching count) searched part octets = IsSearched count searched octets
IsStage (SubmultiframeCheck following) searched part octets = (2112 < length octets)
    × IsFollowed following octets

-- The octets of a frame alignment after one more octet with a time slot: the first such, or the next.
pub record GoesOn (part : List ℕ) (octet : ℕ) (before octets : List ℕ) : Type 0 where
  pub begins : before ≡ [] → (length octets ≡ 66)
      × (0 < length part) × (drop 64 octets ≡ slice_index part (length part - 1) ∷ octet ∷ [])
  pub goes_on : before ≢ [] → octets ≡ before ++ octet ∷ []

-- A receiver whose frame alignment is given up is like a new one.
pub record BeginsAnew (receiver : Receiver) : Type 0 where
  pub aligner : frames.HasHistory receiver.aligner []
  pub stage : receiver.stage ≡ Hunting

-- A receiver after the octets of a part of the stream that is not given up.
pub record ReceivesPart (receiver : Receiver) (part : List ℕ) : Type 0 where
  pub aligner : frames.HasHistory receiver.aligner part
  pub room : length receiver.searched ≡ 2048
  pub stage : IsStage receiver.stage receiver.searched part (aligned_octets part)
  pub kept : (position : ℕ) → position < length part → parts.is_lost part position ≡ false

-- A receiver with this history of octets.
abbrev pub ReceivesAfter : Receiver → List ℕ → Type 0
ReceivesAfter receiver history = HoldsSince parts (λ before part. ReceivesPart receiver part) history

-- A checker of a trunk with this history of octets.
pub record ChecksTrunk (checker : TrunkChecker) (history : List ℕ) : Type 0 where
  pub receives : ReceivesAfter checker.receiver history
  pub receiver_counts : checker.receiver_counts ≡ receiver_counts_of history
