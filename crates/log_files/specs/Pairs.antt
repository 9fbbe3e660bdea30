-- Two pairs of a state and the records behind it, and which of them is loaded.
use Rattle.std.specs.Prelude.{◌≡◌, ◌<◌, ◌≤◌, ◌^◌, ◌-◌, ◌⊎◌, ◌+◌, ◌++◌, ℕ, Bool, List, [], length}
use Rattle.std.specs.Prelude.{Option, Some, None, IfSome}
use Rattle.log_files.specs.Adler.{Sums, adler, sums_of}
use Rattle.log_files.specs.Area.{IsArea, IsBlank}
use Rattle.log_files.specs.Stores.{WhereKnown}

-- what the two files of a pair hold
pub record Contents : Type 0 where
  pub state : List ℕ
  pub records : List ℕ

-- what was kept in a turn: a state, and the octets of records that were appended behind it
pub record Kept : Type 0 where
  pub turn : ℕ
  pub state : List ℕ
  pub records : List ℕ

-- a pair of files has this, whole
pub record Has (pair : Contents) (kept : Kept) : Type 0 where
  pub state : IsArea pair.state kept.turn kept.state
  pub records : IsArea pair.records kept.turn kept.records

-- a pair of files has nothing whole
abbrev pub HasNothingWhole : Contents → Type 0
HasNothingWhole pair = (kept : Kept) → ¬ Has pair kept

-- what a pair has, if anything, is of an earlier turn than this
abbrev pub IsBefore : ℕ → Contents → Type 0
IsBefore turn pair = (kept : Kept) → Has pair kept → kept.turn < turn

-- the first of two pairs has this, and the second one nothing that is of the same turn or a later one
abbrev pub IsNewer : Contents → Contents → Kept → Type 0
IsNewer first second kept = Has first kept × IsBefore kept.turn second

-- one of two pairs has this, and it is newer than what the other one has: this is loaded
abbrev pub IsNewest : Contents → Contents → Kept → Type 0
IsNewest first second kept = IsNewer first second kept ⊎ IsNewer second first kept

-- two pairs have something of the same turn
abbrev pub HaveSameTurn : Contents → Contents → Type 0
HaveSameTurn first second =
    (kept : Kept) × (other : Kept) × Has first kept × Has second other × (kept.turn ≡ other.turn)

-- with octets of records behind the others
abbrev pub with_more : Kept → List ℕ → Kept
with_more kept octets = record kept { records = kept.records ++ octets }

-- what was kept is of this turn and has `len` octets of records, which with these behind have this checksum
pub record Counts (turn len : ℕ) (octets : List ℕ) (sum : ℕ) (kept : Kept) : Type 0 where
  pub turns : kept.turn ≡ turn
  pub counted : length kept.records ≡ len
  pub summed : adler (kept.records ++ octets) ≡ sum

-- a pair has what it had, with these octets of records behind
abbrev pub HasMore : ℕ → ℕ → List ℕ → ℕ → Contents → Contents → Type 0
HasMore turn len octets sum pair pair' =
    (kept : Kept) → Counts turn len octets sum kept → Has pair kept → Has pair' (with_more kept octets)

-- .. or it has what it had
abbrev pub MayHaveMore : ℕ → ℕ → List ℕ → ℕ → Contents → Contents → Type 0
MayHaveMore turn len octets sum pair pair' = (kept : Kept) → Counts turn len octets sum kept → Has pair kept
    → Has pair' kept ⊎ Has pair' (with_more kept octets)

-- a state of this turn, with no record behind it
abbrev pub begun : ℕ → List ℕ → Kept
begun turn state = record { turn = turn; state = state; records = [] }

-- what the stores of a pair hold, if both are known
abbrev pub both : Option (List ℕ) → Option (List ℕ) → Option Contents
both (Some state) (Some records) = Some (record { state = state; records = records })
both _ _ = None

-- the stores of a pair: what they hold, if this is known, whether a write failed, and how many octets they
-- hold
pub record PairState : Type 0 where
  pub contents : Option Contents
  pub failed : Bool
  pub state_room : ℕ
  pub records_room : ℕ

-- the files of a log: the pair to which records are appended, the other one, its turn, and how many octets of
-- records it has, with their checksum
pub record LogState : Type 0 where
  pub newest : PairState
  pub other : PairState
  pub turn : ℕ
  pub len : ℕ
  pub sums : Sums

-- the files of a log have this, and it is loaded; more can be appended to it
pub record StandsFor (files : LogState) (kept : Kept) : Type 0 where
  pub turn : files.turn ≡ kept.turn
  pub len : files.len ≡ length kept.records
  pub sums : files.sums ≡ sums_of kept.records
  pub newest : IfSome files.newest.contents (λ pair. Has pair kept)
  pub other : IfSome files.other.contents (IsBefore kept.turn)

-- the files of a log leave this: it is loaded
pub record LeavesKept (files : LogState) (kept : Kept) : Type 0 where
  pub loaded : IfSome files.newest.contents (λ newest. IfSome files.other.contents (λ other.
      IsNewest newest other kept))

-- `len` octets of records fit behind the others
pub record FitsBehind (files : LogState) (len : ℕ) : Type 0 where
  pub records : 24 + files.len + len ≤ files.newest.records_room
  pub counted : files.len + len < 2 ^ 32

-- a state of `len` octets can be written in the next turn
pub record CanTake (files : LogState) (len : ℕ) : Type 0 where
  pub state : 24 + len ≤ files.other.state_room
  pub counted : len < 2 ^ 32
  pub turn : files.turn < 2 ^ 64 - 1

-- nothing changes but the records of the newest pair and what is counted of them
pub record Appends (files files' : LogState) : Type 0 where
  pub other : files'.other ≡ files.other
  pub turn : files'.turn ≡ files.turn
  pub state : WhereKnown files.newest.contents files'.newest.contents (λ pair pair'. pair'.state ≡ pair.state)
  pub state_room : files'.newest.state_room ≡ files.newest.state_room
  pub records_room : files'.newest.records_room ≡ files.newest.records_room

-- what a write of this to a pair may leave if it fails: the pair as it was, no state in it, or this
abbrev pub MayLeave : Kept → Contents → Contents → Type 0
MayLeave kept pair pair' = (pair' ≡ pair) ⊎ IsBlank pair'.state ⊎ Has pair' kept

-- stores have the room that they had
pub record SameRoom (pair pair' : PairState) : Type 0 where
  pub state_room : pair'.state_room ≡ pair.state_room
  pub records_room : pair'.records_room ≡ pair.records_room
