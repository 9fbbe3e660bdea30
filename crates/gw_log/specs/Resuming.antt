-- The gateway that goes on from what a log has (modules `resuming`, `log_contents`).
use Rattle.std.specs.Prelude.{◌≡◌, ◌⊎◌, ◌≤◌, ℕ, List, [], ◌++◌, Option, MatchOption}
use Rattle.gw_switch.specs.declared.GatewayConfig.{GatewayConfig}
use Rattle.gw_switch.specs.declared.gateway.Gateway.{Gateway}
use Rattle.gw_switch.specs.Events.{Event}
use Rattle.gw_switch.specs.Standing.{HasHistory}
use Rattle.gw_switch.specs.Whole.{config_of}
use Rattle.gw_state.specs.declared.loading.Loaded.{Loaded}
use Rattle.gw_state.specs.Layout.{state_file}
use Rattle.gw_state.specs.Loaded.{IsLoaded}
use Rattle.gw_records.specs.declared.records.RecordsEnd.TheVariants as endings
use Rattle.gw_records.specs.Records.{Reads, Record}
use Rattle.gw_session.specs.Answers.{events}
use Rattle.gw_session.specs.Running.{all_kinds}
use Rattle.log_files.specs.Area.{IsBlank}
use Rattle.log_files.specs.Loading.{NamesNewer}
use Rattle.log_files.specs.Pairs.{Contents, HasNothingWhole, HaveSameTurn, IsNewest, Kept}
use Rattle.log_files.specs.declared.loading.Loaded as found
use Rattle.gw_log.specs.State.{WasLoaded}

-- in neither pair of files anything was ever kept
abbrev pub AreNewFiles : Contents → Contents → Type 0
AreNewFiles first second =
    HasNothingWhole first × HasNothingWhole second × IsBlank first.state × IsBlank second.state

-- nothing is whole in two pairs of files, though something was kept, or it is not known which is newer
abbrev pub AreDamaged : Contents → Contents → Type 0
AreDamaged first second = HaveSameTurn first second
    ⊎ (HasNothingWhole first × HasNothingWhole second × ¬ (IsBlank first.state × IsBlank second.state))

-- what is loaded of two pairs: that of the pair that is named, or nothing if nothing was ever kept
abbrev pub IsFoundIn : Contents → Contents → Option found.Loaded → Type 0
IsFoundIn first second loaded = MatchOption loaded (AreNewFiles first second) (NamesNewer first second)

-- a gateway was given what the records say that octets spell, from the first to the last
pub record WasGivenAll (octets : List ℕ) (gateway gateway' : Gateway) : Type 0 where
  pub records : List Record
  pub reads : Reads all_kinds octets records endings.End
  pub stands : (config : GatewayConfig) (before : List Event) → HasHistory config gateway before
      → HasHistory config gateway' (before ++ events records)

-- a state, and the records behind it, as they were kept: the gateway of the state, loaded with this
-- configuration, was given what the records say
pub record IsReplayed (kept : Kept) (config : GatewayConfig) (loaded : Loaded) (gateway : Gateway) : Type 0
  where
    pub was : WasLoaded kept.state config loaded
    pub given : WasGivenAll kept.records loaded.gateway gateway

-- two configurations have the same circuits
abbrev pub HaveSameCircuits : GatewayConfig → GatewayConfig → ℕ → Type 0
HaveSameCircuits old config most = (c : ℕ) → 1 ≤ c → c ≤ most → config_of old c ≡ config_of config c

-- a gateway that had one configuration goes on with another one: this has the same circuits; or it has
-- others, and the state of the gateway was loaded with it
abbrev pub GoesOnWith : GatewayConfig → GatewayConfig → Gateway → Gateway → Type 0
GoesOnWith old config before gateway = (HaveSameCircuits old config 30 × (gateway ≡ before))
    ⊎ ((¬ HaveSameCircuits old config 30) × ((loaded : Loaded)
    × IsLoaded config (state_file old before) loaded × (gateway ≡ loaded.gateway)))

-- The gateway of what was kept in a log: that of the state, with the configuration that it was kept with,
-- behind the records. Then it goes on with this configuration.
pub record IsResumed (kept : Kept) (config : GatewayConfig) (gateway : Gateway) : Type 0 where
  pub found : Loaded
  pub was : WasLoaded kept.state config found
  pub loaded : Loaded
  pub before : Gateway
  pub replayed : IsReplayed kept found.old loaded before
  pub goes_on : GoesOnWith found.old config before gateway

-- .. of the newest pair of two
pub record IsFromLog (first second : Contents) (config : GatewayConfig) (gateway : Gateway) : Type 0 where
  pub kept : Kept
  pub newest : IsNewest first second kept
  pub resumed : IsResumed kept config gateway

-- a start has this gateway of two pairs of files, or a new one if nothing was ever kept in them
abbrev pub BeginsFrom : Contents → Contents → GatewayConfig → Gateway → Type 0
BeginsFrom first second config gateway = IsFromLog first second config gateway
    ⊎ (AreNewFiles first second × HasHistory config gateway [])
