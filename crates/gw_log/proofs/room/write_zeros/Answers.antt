use Rattle.std.proofs.Common.{ℕ, ◌≡◌, Result, Ok, Err, OnOk, Option, List, replicate}
use Rattle.std.proofs.lemmas.List.{take-replicate}
use Rattle.log_files.specs.Stores.{WhereKnown, WritesAt}
use Rattle.gw_log.specs.Room.{WritesZeros}
use Rattle.gw_log.proofs.room.write_zeros.Goals as goal

-- a write that did not fail wrote all
all_written : {F : Type 0} {old new : Option (List ℕ)} (result : Result (Unit {0}) F) (at len : ℕ) (octets : List ℕ)
    → octets ≡ replicate len 0 → WhereKnown old new (WritesAt at octets result)
    → OnOk result (WhereKnown old new (WritesZeros at len))
all_written (Ok u) at len octets are w = rw are at w
all_written (Err e) at len octets are w = tt

pub returns-clause-ok : goal.returns-clause-ok
returns-clause-ok g c = all_written _ c.args.at c.args.len _ (take-replicate c.args.len 4096 0 c.requires.few)
    c.write_at.ensures.writes
