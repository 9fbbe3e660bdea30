-- How the log of a trunk goes on (module `trunk_log`).
use Rattle.std.specs.Prelude.{◌≡◌, Option}
use Rattle.log_files.specs.Pairs.{Contents, PairState}
use Rattle.log_files.specs.declared.loading.Loaded.{Loaded}
use Rattle.gw_log.specs.Logs.{TrunkLogState, files_over, place_after_loaded}
use Rattle.gw_log.specs.Resuming.{IsFoundIn}

-- a log was opened over two pairs of files, of which this was loaded: what they have, if anything was ever
-- kept in them
pub record IsOpenedOver (first second : Contents) (log : TrunkLogState) : Type 0 where
  pub found : Option Loaded
  pub is : IsFoundIn first second found
  pub pair : PairState
  pub other : PairState
  pub files : log.files ≡ files_over pair other found
  pub place : log.place ≡ place_after_loaded found
