-- How the room of a log's file is filled (module `room`).
use Rattle.std.specs.Prelude.{◌≡◌, ◌≤◌, ◌-◌, ◌++◌, ℕ, List, length, take, drop, replicate}
use Rattle.log_files.specs.Stores.{IsWrittenAt}

-- zeros were written from an octet on, up to another one; what is before and behind them stays
abbrev pub FillsUpTo : ℕ → ℕ → List ℕ → List ℕ → Type 0
FillsUpTo from at old new = from ≤ length old → from ≤ at
    → new ≡ take from old ++ (replicate (at - from) 0 ++ drop at old)

-- this many zeros were written from an octet on
abbrev pub WritesZeros : ℕ → ℕ → List ℕ → List ℕ → Type 0
WritesZeros at len old new = IsWrittenAt at (replicate len 0) old new
