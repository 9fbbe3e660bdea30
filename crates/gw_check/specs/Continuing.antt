-- Sessions that go on from a saved state (module `laws`).
use Rattle.std.specs.Prelude.{◌≡◌, ℕ, Bool, List, [], ◌++◌, Result}
use Rattle.std.specs.Io.KnownBytes.{Appends}
use Rattle.gw_switch.specs.declared.GatewayConfig.{GatewayConfig}
use Rattle.gw_switch.specs.declared.gateway.Gateway.{Gateway}
use Rattle.gw_switch.specs.Events.{Event}
use Rattle.gw_switch.specs.Standing.{HasHistory}
use Rattle.gw_switch.specs.Reconfigured.{AreRenewals}
use Rattle.gw_switch.specs.Saved.{GatewayFits, AreConfiguredAlike}
use Rattle.gw_records.specs.declared.outcome.Totals.{Totals}
use Rattle.gw_records.specs.Records.{Record}
use Rattle.gw_records.specs.declared.outcome.RunFault.{RunFault}
use Rattle.gw_records.specs.Streams.{SourceState, SinkState}
use Rattle.gw_session.specs.Answers.{events}
use Rattle.gw_session.specs.Laws.{Run, HasRun, WritesAsOne}
use Rattle.gw_session.specs.Recovery.{EndsWhole, HasRecorded, IsGivenOnly, Recovers}
use Rattle.gw_session.specs.Running.{AnswersAll}
use Rattle.gw_session.specs.Serve.{Served, SessionInput, SessionStreams, events_through, written}
use Rattle.gw_state.specs.declared.loading.Loaded.{Loaded}
use Rattle.gw_state.specs.Layout.{state_file, ConfigFits}
use Rattle.gw_state.specs.Loaded.{IsLoaded}
use Rattle.gw_check.specs.Sessions.{Runs, Serves}

-- A gateway with these events was saved, whose circuits were configured as `old`, and its state was loaded
-- with a configuration.
pub record IsSavedAndLoaded (first old config : GatewayConfig) (saved : Gateway) (events : List Event)
    (loaded : Loaded) : Type 0 where
  pub configured : AreConfiguredAlike first events old []
  pub gateway_fits : GatewayFits saved
  pub config_fits : ConfigFits old
  pub octets : List ℕ
  pub file : octets ≡ state_file old saved
  pub loads : IsLoaded config octets loaded

-- The second run answers by the definitions for all that has happened to the gateway of the first one, and
-- then that each circuit with another configuration begins as new. With the same configuration both runs
-- write what one run over all their records writes.
pub record RunsOn (first old config : GatewayConfig) (before : List Event) (one next : Run) : Type 0 where
  pub more : List Event
  pub renewals : AreRenewals old config 30 more
  pub answers : AnswersAll first ((before ++ events one.records) ++ more) next.gateway' next.sink next.sink'
      next.totals next.records
  pub as_one : old ≡ config → (whole : Run) → HasRun whole → HasHistory first whole.gateway before
      → whole.records ≡ one.records ++ next.records → WritesAsOne first one next whole

-- A run that begins with the state that another run has saved goes on where that one ended.
abbrev pub LoadedSessionsRunOn : Type 0
LoadedSessionsRunOn = (first old config : GatewayConfig) (before : List Event) (one next : Run)
    (loaded : Loaded) → HasHistory first one.gateway before → HasRun one → HasRun next
    → next.gateway ≡ loaded.gateway
    → IsSavedAndLoaded first old config one.gateway' (before ++ events one.records) loaded
    → RunsOn first old config before one next

-- The same of serving: with the same configuration what the second session writes is what is written for its
-- inputs behind those of the first.
pub record ServesOn (first : GatewayConfig) (before : List Event) (inputs others : List SessionInput)
    (sink sink' : SinkState) : Type 0 where
  pub took : Appends sink.taken sink'.taken (written first (before ++ events_through inputs) others)
  pub behind : written first before (inputs ++ others)
      ≡ written first before inputs ++ written first (before ++ events_through inputs) others

-- records were served, and the sink took all of the answers
abbrev pub HasServedAll : SessionStreams → SessionStreams → Gateway → Gateway → Totals → List Record → Type 0
HasServedAll a a' gateway gateway' =
    Served a a' gateway gateway' (λ first. Appends a.sink.taken a'.sink.taken)

abbrev pub LoadedServingsGoOn : Type 0
LoadedServingsGoOn = (first config : GatewayConfig) (before : List Event) (a a' b b' : SessionStreams)
    (gateway gateway' next_gateway next_gateway' : Gateway) (totals others_totals : Totals)
    (records others : List Record) (loaded : Loaded)
    (one : HasServedAll a a' gateway gateway' totals records)
    (next : HasServedAll b b' next_gateway next_gateway' others_totals others)
    → HasHistory first gateway before → next_gateway ≡ loaded.gateway
    → IsSavedAndLoaded first config config gateway' (before ++ events_through one.inputs) loaded
    → ServesOn first before one.inputs next.inputs b.sink b'.sink

-- A state was saved behind the first records of a live session's recording, and loaded with the same
-- configuration. A replay from it, over octets behind these records, recovers the state of the live session.
abbrev pub SavedStatesRecover : Type 0
SavedStatesRecover = (first config : GatewayConfig) (before : List Event) (a a' : SessionStreams)
    (gateway live saved recovered : Gateway) (end ended : Result Totals RunFault) (passed : List Record)
    (octets behind : List ℕ) (holds : Bool) (loaded : Loaded) (source source' : SourceState)
    (sink sink' : SinkState)
    → Serves holds a a' end gateway live → HasRecorded a.tape a'.tape passed octets behind
    → HasHistory first gateway before → HasHistory first saved (before ++ events passed)
    → IsSavedAndLoaded first config config saved (before ++ events passed) loaded
    → Runs source source' sink sink' ended loaded.gateway recovered
    → IsGivenOnly octets source source' sink sink'
    → Recovers first before live recovered passed octets (EndsWhole a'.tape behind)
    (Appends sink.taken sink'.taken)
