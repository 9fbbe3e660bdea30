-- What of the records that answer goes to the trunk, and what to clients (module `sink`).
use Rattle.std.specs.Prelude.{◌≡◌, ◌==◌, ◌+◌, ◌*◌, if◌then◌else◌, ◌++◌, ℕ, zero, suc, Bool, true, false, not}
use Rattle.std.specs.Prelude.{List, [], ◌∷◌, Some}
use Rattle.gw_records.specs.Records.{code_record}
use Rattle.gw_records.specs.Streams.{SinkState}

-- Where in a record the next octet stands. A place behind the kind says whether the body goes to the trunk,
-- and a body how many octets come after this one.
pub data RecordPosition : Type 0 where
  Kind : RecordPosition
  Circuit : (to_trunk : Bool) → RecordPosition
  High : (to_trunk : Bool) → RecordPosition
  Low : (to_trunk : Bool) → (high : ℕ) → RecordPosition
  Body : (to_trunk : Bool) → (more : ℕ) → RecordPosition

-- a body of this many octets begins, or where it has none the next record
abbrev pub body_place : Bool → ℕ → RecordPosition
body_place to_trunk zero = RecordPosition.Kind
body_place to_trunk (suc more) = RecordPosition.Body to_trunk more

-- the place after an octet: a record is a kind, a circuit, the two octets of a length, and a body as long
abbrev pub place_next : RecordPosition → ℕ → RecordPosition
place_next RecordPosition.Kind octet = RecordPosition.Circuit (octet == 0x54)
place_next (RecordPosition.Circuit to_trunk) octet = RecordPosition.High to_trunk
place_next (RecordPosition.High to_trunk) octet = RecordPosition.Low to_trunk octet
place_next (RecordPosition.Low to_trunk high) octet = body_place to_trunk (high * 256 + octet)
place_next (RecordPosition.Body to_trunk more) octet = body_place to_trunk more

-- what of an octet goes to the trunk: it does in the body of a T record
abbrev pub part_passed : RecordPosition → ℕ → List ℕ
part_passed (RecordPosition.Body true more) octet = octet ∷ []
part_passed _ octet = []

-- the place after octets
unfoldable pub place_behind : RecordPosition → List ℕ → RecordPosition
place_behind place [] = place
place_behind place (octet ∷ octets) = place_behind (place_next place octet) octets

-- what of octets goes to the trunk
unfoldable pub passed : RecordPosition → List ℕ → List ℕ
passed place [] = []
passed place (octet ∷ octets) = part_passed place octet ++ passed (place_next place octet) octets

-- the octets in the bodies of the T records among these records, whose last one may be cut
abbrev pub bodies : List ℕ → List ℕ
bodies octets = passed RecordPosition.Kind octets

-- whether an octet is of a record that is no T record: its kind says so
abbrev pub is_answer : RecordPosition → ℕ → Bool
is_answer RecordPosition.Kind octet = not (octet == 0x54)
is_answer (RecordPosition.Circuit to_trunk) octet = not to_trunk
is_answer (RecordPosition.High to_trunk) octet = not to_trunk
is_answer (RecordPosition.Low to_trunk high) octet = not to_trunk
is_answer (RecordPosition.Body to_trunk more) octet = not to_trunk

-- what of octets goes to clients
unfoldable pub to_clients : RecordPosition → List ℕ → List ℕ
to_clients place [] = []
to_clients place (octet ∷ octets) =
    (if is_answer place octet then octet ∷ [] else []) ++ to_clients (place_next place octet) octets

-- the octets of the records among these that are no T records, whole or cut
abbrev pub others : List ℕ → List ℕ
others octets = to_clients RecordPosition.Kind octets

-- the next record begins at this place
abbrev pub is_between : RecordPosition → Bool
is_between RecordPosition.Kind = true
is_between _ = false

-- Answers were taken, all whole unless one was cut, and the bodies of the T records among them went to the trunk.
pub record HasPassed (cut : Bool) (taken went : List ℕ) : Type 0 where
  pub whole : cut ≡ false → is_between (place_behind RecordPosition.Kind taken) ≡ true
  pub went_are : went ≡ bodies taken

-- what a sink tells that failed so often, and took these octets
abbrev pub told_by : ℕ → List ℕ → SinkState
told_by failed taken = record { failures = failed; taken = Some taken }

-- octets are an R record
abbrev pub IsCodeRecord : List ℕ → Type 0
IsCodeRecord octets = (circuit : ℕ) × (kind : ℕ) × (code : ℕ) × (octets ≡ code_record circuit kind code)
