-- The octets of a trunk and the commands of clients as records (module `source`).
use Rattle.std.specs.Prelude.{◌≡◌, ◌==◌, ◌&&◌, nat_le, nat_lt, ◌⊎◌, ◌+◌, ◌-◌, ◌<◌, ◌≤◌, ◌++◌, ◌∷◌, ℕ, List}
use Rattle.std.specs.Prelude.{[], length, flat_map, take, Bool, true, false, Option, Some, None, Result}
use Rattle.std.specs.Prelude.{IfSome, MatchOption, MatchResult}
use Rattle.std.specs.List.{AllByRecursion}
use Rattle.gw_records.specs.declared.records.AcceptedKinds.{AcceptedKinds}
use Rattle.gw_records.specs.declared.records.FirstRecord.{FirstRecord}
use Rattle.gw_records.specs.declared.records.RecordHead.{RecordHead}
use Rattle.gw_records.specs.declared.records.RecordHead.TheVariants as heads
use Rattle.gw_records.specs.Records.{Record, IsGood, named, spelled}
use Rattle.gw_records.specs.declared.streams.SourceFault.{SourceFault}
use Rattle.gw_records.specs.Reader.{Held}
use Rattle.gw_records.specs.Streams.{SourceState}

-- how many octets of a trunk one record has at most: as many as a block of a device may have
abbrev pub most_octets : ℕ
most_octets = 2048

-- octets that one record has
abbrev pub IsPiece : List ℕ → Type 0
IsPiece octets = (0 < length octets) × (length octets ≤ most_octets)

-- clients give commands and codecs
abbrev pub client_kinds : AcceptedKinds
client_kinds = record { trunk = false; datagrams = false; commands = true; codecs = true }

-- a record that is given: a T record of a piece of the trunk, or a good one of a client
abbrev pub IsServiceRecord : Record → Type 0
IsServiceRecord (Record.Trunk octets) = IsPiece octets
IsServiceRecord r = IsGood client_kinds r

-- the octets of the trunk in a record, and the octets of a record of a client
abbrev pub trunk_part : Record → List ℕ
trunk_part (Record.Trunk octets) = octets
trunk_part r = []

abbrev pub client_part : Record → List ℕ
client_part (Record.Trunk octets) = []
client_part r = spelled r

-- the records of clients among records
abbrev pub from_clients : List Record → List Record
from_clients [] = []
from_clients (Record.Trunk octets ∷ records) = from_clients records
from_clients (r ∷ records) = r ∷ from_clients records

-- What came from a trunk and what clients asked are woven in these records: the bodies of the T records are
-- what came, and the others are what was asked, each in order and each once.
pub record Woven (came asked : List ℕ) (records : List Record) : Type 0 where
  pub good : AllByRecursion IsServiceRecord records
  pub came_are : came ≡ flat_map trunk_part records
  pub asked_are : asked ≡ flat_map client_part records

-- what came and what was asked was given, woven in records
pub record GivesWoven (came asked given : List ℕ) : Type 0 where
  pub records : List Record
  pub woven : Woven came asked records
  pub given_are : given ≡ flat_map spelled records

-- this record was given, and no more came or was asked than it holds
pub record GivesRecord (came came' asked asked' : List ℕ) (one : Record) : Type 0 where
  pub good : IsServiceRecord one
  pub came_is : came' ≡ came ++ trunk_part one
  pub asked_is : asked' ≡ asked ++ client_part one

-- nothing came or was asked
abbrev pub GivesNone : List ℕ → List ℕ → List ℕ → List ℕ → Type 0
GivesNone came came' asked asked' = (came' ≡ came) × (asked' ≡ asked)

-- the body of a first record, at the front of a room
abbrev pub body_in : FirstRecord → List ℕ → List ℕ
body_in first room = take (first.len - 4) room

-- this record was given, whose body stands at the front of a room, and it is as long as it says
pub record GivesFirst (came came' asked asked' room : List ℕ) (first : FirstRecord) : Type 0 where
  pub gives : GivesRecord came came' asked asked' (named first.head (body_in first room))
  pub len_is : first.len ≡ length (spelled (named first.head (body_in first room)))

-- what a read of the source did: it gave one record; or none, and nothing came or was asked
abbrev pub ReadsRecord : List ℕ → List ℕ → List ℕ → List ℕ → Result (Option FirstRecord) SourceFault
    → List ℕ → Type 0
ReadsRecord came came' asked asked' r room = MatchResult r
    (λ got. MatchOption got (GivesNone came came' asked asked') (GivesFirst came came' asked asked' room))
    (λ _. GivesNone came came' asked asked')

-- a client asked the record of this head, which has no more than the head says
pub record AsksRecord (asked asked' : List ℕ) (head : RecordHead) : Type 0 where
  pub good : IsGood client_kinds (named head [])
  pub asked_is : asked' ≡ asked ++ spelled (named head [])

-- .. with its length
pub record AsksFirst (asked asked' : List ℕ) (first : FirstRecord) : Type 0 where
  pub asks : AsksRecord asked asked' first.head
  pub len_is : first.len ≡ length (spelled (named first.head []))

-- the octets that spell the record of a room, if there is one
abbrev pub held_in : Option FirstRecord → List ℕ → List ℕ
held_in None room = []
held_in (Some first) room = spelled (named first.head (body_in first room))

-- a record that a trunk or a client gives, by what its head says, and by its length
abbrev pub stands_by : RecordHead → ℕ → Bool
stands_by heads.Trunk len = nat_lt 4 len && nat_le len (4 + most_octets)
stands_by (heads.Datagram circuit) len = false
stands_by (heads.Command circuit command) len = (len == 5) && (nat_le 1 circuit && nat_le circuit 30)
stands_by (heads.Codec circuit codec payload_type) len =
    (len == 6) && (nat_le 1 circuit && nat_le circuit 30) && nat_le payload_type 127

abbrev pub stands_in_room : FirstRecord → Bool
stands_in_room first = stands_by first.head first.len

-- what a read gave stands in the room, and is logged by octets that spell it
abbrev pub LogsFirst : List ℕ → List ℕ → Result (Option FirstRecord) SourceFault → List ℕ → Type 0
LogsFirst old new r room = MatchResult r
    (λ got. (new ≡ old ++ held_in got room) × IfSome got (λ first. stands_in_room first ≡ true))
    (λ _. new ≡ old)

-- records of this head are accepted
abbrev pub is_accepted : AcceptedKinds → RecordHead → Bool
is_accepted kinds heads.Trunk = kinds.trunk
is_accepted kinds (heads.Datagram circuit) = kinds.datagrams
is_accepted kinds (heads.Command circuit command) = kinds.commands
is_accepted kinds (heads.Codec circuit codec payload_type) = kinds.codecs

-- what a source tells that failed so often, was read so often and gave these octets
abbrev pub source_told : ℕ → ℕ → List ℕ → SourceState
source_told failed reads given =
    record { failures = failed; reads = reads; given = Some given; to_come = None }

-- what a session has of its records, if this one stands in a room
abbrev pub holding : Option FirstRecord → List ℕ → ℕ → Held
holding first room reads_left = record { octets = held_in first room; reads_left = reads_left }

-- why there is no record: the device has failed, or it was waited for so long
abbrev pub LacksRecord : Type 0 → Type 0 → Type 0
LacksRecord has_failed has_waited = has_failed ⊎ has_waited
