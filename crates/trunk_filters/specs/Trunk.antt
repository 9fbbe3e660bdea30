-- The filters of a trunk, in their order (module `filters`).
use Rattle.std.specs.Prelude.{◌≡◌, ◌++◌, ◌≤◌, ◌&&◌, ℕ, Bool, List, [], Option, Result, Ok, Err}
use Rattle.std.specs.Prelude.{IfSome, IfOk, MatchOption, length}
use Rattle.e1_g711.specs.declared.Law.{Law}
use Rattle.g704_bits.specs.Standing.{StandsAfter}
use Rattle.gw_filter.specs.Align.{align_reply}
use Rattle.gw_filter.specs.Check.{IsChecked}
use Rattle.gw_filter.specs.Crc4.{IsFramed}
use Rattle.gw_filter.specs.Filter.{RepliesTo}
use Rattle.trunk_filters.specs.Filters.{ReturnsBehind, ReturnsIf}
use Rattle.trunk_filters.specs.Frames.{device_frames, whole_trunk}
use Rattle.gw_trunk.specs.Multiframes.{GoesInTime}
use Rattle.gw_trunk.specs.declared.device.DeviceFault.{DeviceFault}
use Rattle.trunk_filters.specs.declared.filters.Crc4.{Crc4}
use Rattle.trunk_filters.specs.declared.filters.TrunkFilters.{TrunkFilters}

-- no reports went, and none has come
pub record AreUnused (crc4 : Crc4) : Type 0 where
  pub unsent : crc4.outward.log.octets ≡ []
  pub unread : crc4.reports.log.octets ≡ []

-- nothing has passed
pub record AreFresh (filters : TrunkFilters) : Type 0 where
  pub aligner : IfSome filters.aligner (λ aligner. StandsAfter aligner [])
  pub crc4 : IfSome filters.crc4 AreUnused

-- octets were checked and came unchanged, and all but some of their errored submultiframes were reported
abbrev pub Checks : List ℕ → List ℕ → Type 0
Checks octets returned = (reports : List ℕ) × IsChecked reports octets returned

-- octets went with CRC-4 multiframes, from a place in the first one on, and with E bits for the reports that
-- came
abbrev pub SendsFrom : ℕ → List ℕ → List ℕ → Type 0
SendsFrom place octets sent = (reports : Option (List ℕ)) × ReturnsBehind place (IsFramed reports) octets sent

-- What came of a trunk of this law was made whole, from a place in a multiframe on, if its device has slots 1
-- to 31 alone. All of this but the last octet at most was aligned, if it is to be, and what came of that was
-- checked, if it has CRC-4.
pub record Comes (slots align crc4 : Bool) (law : Law) (place : ℕ) (received came : List ℕ) : Type 0 where
  pub made : List ℕ
  pub is_made : ReturnsIf slots (λ given whole. whole ≡ whole_trunk law place given) received made
  pub whole : List ℕ
  pub rest : List ℕ
  pub made_are : made ≡ whole ++ rest
  pub few : length rest ≤ 1
  pub aligned : List ℕ
  pub aligns : ReturnsIf align (RepliesTo align_reply) whole aligned
  pub checks : ReturnsIf crc4 Checks aligned came

-- How two writers ended, one behind the other: whether both took all.
abbrev pub both_ended : Result Bool DeviceFault → Result Bool DeviceFault → Result Bool DeviceFault
both_ended (Ok all) (Ok rest) = Ok (all && rest)
both_ended (Ok all) (Err fault) = Err fault
both_ended (Err fault) rest = Err fault

-- What was left to be sent went with CRC-4 multiframes from a place on, if the trunk has them, and by slots
-- 1 to 31 of whole frames from a place on, if its device has no others. The device took all of that but for
-- what it had not taken in the end: nothing, if it did not fail then and no wait for it, of this number
-- before, has ended without room.
pub record GoesFramed (left : List ℕ) (slow_waits : ℕ) (output : Result Bool DeviceFault) : Type 0 where
  pub framed : List ℕ
  pub crc4_from : Option ℕ
  pub frames : MatchOption crc4_from (framed ≡ left) (λ place. SendsFrom place left framed)
  pub passed : List ℕ
  pub behind : List ℕ
  pub framed_are : framed ≡ passed ++ behind
  pub device : List ℕ
  pub slots_from : Option ℕ
  pub is_cut : MatchOption slots_from (device ≡ passed) (λ place. device ≡ device_frames place passed)
  pub went : List ℕ
  pub untaken : List ℕ
  pub device_is : device ≡ went ++ untaken
  pub last_waits : ℕ
  pub more_waits : slow_waits ≤ last_waits
  pub whole : IfOk output (λ all. last_waits ≡ 0 → (behind ≡ []) × (untaken ≡ []))

-- What was sent went in time, except for whole multiframes if the device was slow, and through its filters.
pub record Goes (sent : List ℕ) (discarded : ℕ) (output : Result Bool DeviceFault) : Type 0 where
  pub left : List ℕ
  pub slow_waits : ℕ
  pub in_time : GoesInTime sent left discarded slow_waits
  pub framed : GoesFramed left slow_waits output
