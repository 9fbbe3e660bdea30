-- The records of a session (module `records`).
use Rattle.std.specs.Prelude.{◌≡◌, ◌==◌, ◌+◌, ◌*◌, ◌^◌, ◌<◌, ◌≤◌, ◌&&◌, ◌||◌, if◌then◌else◌, ◌∷◌, ◌++◌, ℕ}
use Rattle.std.specs.Prelude.{Bool, true, false, not, nat_lt, List, [], length, take, drop, slice_index}
use Rattle.std.specs.Prelude.{Option, Some, None}
use Rattle.std.specs.List.{flat_map, AllByRecursion}
use Rattle.byteorder.specs.Endian.{big_bytes}
use Rattle.gw_records.specs.declared.records.AcceptedKinds.{AcceptedKinds}
use Rattle.gw_records.specs.declared.records.RecordHead.{RecordHead}
use Rattle.gw_records.specs.declared.records.RecordHead.TheVariants as heads
use Rattle.gw_records.specs.declared.records.FirstRecord.{FirstRecord}
use Rattle.gw_records.specs.declared.records.RecordsEnd.{RecordsEnd}
use Rattle.gw_records.specs.declared.records.RecordsEnd.TheVariants as endings
use Rattle.gw_records.specs.Octets.{command_of, octet_of_command, codec_of, octet_of_codec}

-- a kind, a circuit, a 16-bit length and the body
abbrev pub record_of : ℕ → ℕ → List ℕ → List ℕ
record_of kind circuit body = kind ∷ circuit ∷ (big_bytes 2 (length body) ++ body)

-- what goes between a trunk's octets and a session, and what a session answers, as records
abbrev pub trunk_record : List ℕ → List ℕ
trunk_record body = record_of 0x54 0 body

abbrev pub packet_record : ℕ → List ℕ → List ℕ
packet_record circuit packet = record_of 0x44 circuit packet

abbrev pub code_record : ℕ → ℕ → ℕ → List ℕ
code_record circuit kind code = record_of 0x52 circuit (kind ∷ code ∷ [])

-- the octets of the longest body
abbrev pub longest_body : ℕ
longest_body = 65535

-- the record of this kind and body, up to the first octets of the body; these alone if it is the kind of none
abbrev pub logged : ℕ → ℕ → List ℕ → ℕ → List ℕ
logged kind circuit body len =
    if nat_lt kind 0x40 then take len body else take (4 + len) (record_of kind circuit body)

-- the records of a session
pub data Record : Type 0 where
  Trunk : (octets : List ℕ) → Record
  Datagram : (circuit : ℕ) → (octets : List ℕ) → Record
  Command : (circuit : ℕ) → (command : ℕ) → Record
  Codec : (circuit : ℕ) → (codec : ℕ) → (payload_type : ℕ) → Record

-- the octets of a record
abbrev pub spelled : Record → List ℕ
spelled (Record.Trunk octets) = record_of 0x54 0 octets
spelled (Record.Datagram circuit octets) = record_of 0x44 circuit octets
spelled (Record.Command circuit command) = record_of 0x43 circuit (command ∷ [])
spelled (Record.Codec circuit codec payload_type) = record_of 0x4B circuit (codec ∷ payload_type ∷ [])

abbrev pub IsCircuit : ℕ → Type 0
IsCircuit circuit = (1 ≤ circuit) × (circuit ≤ 30)

-- a record of an accepted kind
abbrev pub IsGood : AcceptedKinds → Record → Type 0
IsGood kinds (Record.Trunk octets) = (kinds.trunk ≡ true) × (length octets < 2 ^ 16)
IsGood kinds (Record.Datagram circuit octets) =
    (kinds.datagrams ≡ true) × (length octets < 2 ^ 16) × IsCircuit circuit
IsGood kinds (Record.Command circuit command) =
    (kinds.commands ≡ true) × IsCircuit circuit × (1 ≤ command) × (command ≤ 6)
IsGood kinds (Record.Codec circuit codec payload_type) =
    (kinds.codecs ≡ true) × IsCircuit circuit × (1 ≤ codec) × (codec ≤ 5) × (payload_type ≤ 127)

-- the length of the body by the third and fourth octet
abbrev pub body_len : List ℕ → ℕ
body_len octets = slice_index octets 2 * 256 + slice_index octets 3

abbrev pub is_command : List ℕ → Bool
is_command octets = slice_index octets 0 == 0x43

abbrev pub is_codec : List ℕ → Bool
is_codec octets = slice_index octets 0 == 0x4B

-- the fault of the first record of octets, of which there are at least four
unfoldable pub has_bad_kind : AcceptedKinds → List ℕ → Bool
has_bad_kind kinds octets = let kind = slice_index octets 0 in
    not (kinds.trunk && kind == 0x54 || kinds.datagrams && kind == 0x44 || kinds.commands && kind == 0x43
    || kinds.codecs && kind == 0x4B)

unfoldable pub has_bad_circuit : List ℕ → Bool
has_bad_circuit octets = let circuit = slice_index octets 1 in
    if slice_index octets 0 == 0x54 then not (circuit == 0) else nat_lt circuit 1 || nat_lt 30 circuit

unfoldable pub has_bad_length : List ℕ → Bool
has_bad_length octets =
    is_command octets && not (body_len octets == 1) || is_codec octets && not (body_len octets == 2)

unfoldable pub is_cut : List ℕ → Bool
is_cut octets = nat_lt (length octets) (4 + body_len octets)

unfoldable pub has_bad_command : List ℕ → Bool
has_bad_command octets =
    is_command octets && (nat_lt (slice_index octets 4) 1 || nat_lt 6 (slice_index octets 4))
    || is_codec octets && (nat_lt (slice_index octets 4) 1 || nat_lt 5 (slice_index octets 4)
    || nat_lt 127 (slice_index octets 5))

-- how octets end that do not begin with a whole good record
unfoldable pub end_of : AcceptedKinds → List ℕ → Option RecordsEnd
end_of kinds octets =
    if length octets == 0 then Some endings.End
    else (if nat_lt (length octets) 4 then Some endings.Truncated
    else (if has_bad_kind kinds octets then Some endings.BadKind
    else (if has_bad_circuit octets then Some endings.BadCircuit
    else (if has_bad_length octets then Some endings.BadCommand
    else (if is_cut octets then Some endings.Truncated
    else (if has_bad_command octets then Some endings.BadCommand
    else None))))))

-- more octets may change this end
abbrev pub is_open : RecordsEnd → Bool
is_open endings.End = true
is_open endings.Truncated = true
is_open _ = false

-- the octets begin with these good records
pub record BeginsWith (kinds : AcceptedKinds) (octets : List ℕ) (records : List Record) : Type 0 where
  pub rest : List ℕ
  pub whole : octets ≡ flat_map spelled records ++ rest
  pub good : AllByRecursion (IsGood kinds) records

-- the octets are these good records, and a rest with this end
pub record Reads (kinds : AcceptedKinds) (octets : List ℕ) (records : List Record)
    (ending : RecordsEnd) : Type 0 where
  pub rest : List ℕ
  pub whole : octets ≡ flat_map spelled records ++ rest
  pub good : AllByRecursion (IsGood kinds) records
  pub ends : end_of kinds rest ≡ Some ending

-- the head of the first octets
unfoldable pub head_of : List ℕ → RecordHead
head_of octets =
    if slice_index octets 0 == 0x54 then heads.Trunk
    else (if slice_index octets 0 == 0x44 then heads.Datagram (slice_index octets 1)
    else (if slice_index octets 0 == 0x43
    then heads.Command (slice_index octets 1) (command_of (slice_index octets 4))
    else heads.Codec (slice_index octets 1) (codec_of (slice_index octets 4)) (slice_index octets 5)))

-- the record with this head and body
abbrev pub named : RecordHead → List ℕ → Record
named heads.Trunk body = Record.Trunk body
named (heads.Datagram circuit) body = Record.Datagram circuit body
named (heads.Command circuit command) body = Record.Command circuit (octet_of_command command)
named (heads.Codec circuit codec payload_type) body = Record.Codec circuit (octet_of_codec codec) payload_type

-- the record that is first
abbrev pub record_at : FirstRecord → List ℕ → Record
record_at f octets = named f.head (drop 4 (take f.len octets))

-- the octets begin with a good record
pub record IsFirst (kinds : AcceptedKinds) (f : FirstRecord) (octets : List ℕ) : Type 0 where
  pub more : 4 ≤ f.len
  pub fits : f.len ≤ length octets
  pub whole : take f.len octets ≡ spelled (record_at f octets)
  pub good : IsGood kinds (record_at f octets)
