-- Laws of records.
use Rattle.std.specs.Prelude.{◌≡◌, ◌<◌, ◌++◌, ℕ, List, slice_index}
use Rattle.gw_records.specs.declared.records.AcceptedKinds.{AcceptedKinds}
use Rattle.gw_records.specs.declared.records.RecordsEnd.{RecordsEnd}
use Rattle.gw_records.specs.Records.{Record, Reads}

-- octets are read as records in one way
abbrev pub AtMostOneReading : Type 0
AtMostOneReading = (kinds : AcceptedKinds) (octets : List ℕ) (records others : List Record)
    (ending other : RecordsEnd)
    → Reads kinds octets records ending → Reads kinds octets others other
    → (records ≡ others) × (ending ≡ other)

-- more octets keep the whole records that are there
abbrev pub MoreKeepsRecords : Type 0
MoreKeepsRecords =
    (kinds : AcceptedKinds) (octets more : List ℕ) (records longer : List Record)
    (ending other : RecordsEnd)
    → Reads kinds octets records ending → Reads kinds (octets ++ more) longer other
    → (others : List Record) × (longer ≡ records ++ others)

-- any octets are read as records
abbrev pub EachIsRead : Type 0
EachIsRead = (kinds : AcceptedKinds) (octets : List ℕ) → ((i : ℕ) → slice_index octets i < 256)
    → (records : List Record) × (ending : RecordsEnd) × Reads kinds octets records ending
