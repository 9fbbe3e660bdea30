-- What is loaded of two pairs of files (module `loading`).
use Rattle.std.specs.Prelude.{◌≡◌, ◌<◌, ◌^◌, Option, Some, Result, Ok, length}
use Rattle.log_files.specs.Pairs.{Contents, IsNewer, Kept}
use Rattle.log_files.specs.declared.loading.KeptContents.{KeptContents}
use Rattle.log_files.specs.declared.loading.Loaded.{Loaded}
use Rattle.log_files.specs.declared.loading.Loaded.TheVariants.{First, Second}
use Rattle.log_files.specs.declared.loading.PairContents.{PairContents}
use Rattle.log_files.specs.declared.loading.SameTurn.{SameTurn}

-- the octets of two files
abbrev pub contents_of : PairContents → Contents
contents_of pair = record { state = pair.state.now; records = pair.records.now }

-- the octets of what was kept
abbrev pub kept_of : KeptContents → Kept
kept_of kept = record { turn = kept.turn; state = kept.state.now; records = kept.records.now }

-- the pair that is named has this, and it is newer than what the other one has
abbrev pub NamesNewer : Contents → Contents → Loaded → Type 0
NamesNewer first second (First kept) = IsNewer first second (kept_of kept)
NamesNewer first second (Second kept) = IsNewer second first (kept_of kept)

-- this was loaded
abbrev pub Loads : Result (Option Loaded) SameTurn → Kept → Type 0
Loads (Ok (Some (First loaded))) kept = kept_of loaded ≡ kept
Loads (Ok (Some (Second loaded))) kept = kept_of loaded ≡ kept
Loads _ kept = ⊥

-- what is loaded, whichever pair it is of
abbrev pub IsLoadedOf : Loaded → KeptContents → Type 0
IsLoadedOf (First loaded) kept = kept ≡ loaded
IsLoadedOf (Second loaded) kept = kept ≡ loaded

-- what is loaded has so few octets of records that they can be counted
abbrev pub IsCounted : Loaded → Type 0
IsCounted (First loaded) = length loaded.records.now < 2 ^ 32
IsCounted (Second loaded) = length loaded.records.now < 2 ^ 32
