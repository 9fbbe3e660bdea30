-- What a replay of a part of a recording recovers, wherever the recording was cut.
use Rattle.std.specs.Prelude.{◌≡◌, ◌++◌, ℕ, true, false, List, [], Some, Result, MatchResult, flat_map}
use Rattle.std.specs.Io.KnownBytes.{Appends}
use Rattle.std.specs.List.{AllByRecursion}
use Rattle.gw_session.specs.Prelude.{GatewayConfig, Gateway, HasHistory, Totals, RunFault, SourceState}
use Rattle.gw_session.specs.Prelude.{SinkState, Event, Record, IsGood}
use Rattle.gw_records.specs.declared.records.RecordsEnd.{RecordsEnd}
use Rattle.gw_records.specs.declared.records.RecordsEnd.TheVariants as endings
use Rattle.gw_records.specs.Records.{Reads, spelled, is_open}
use Rattle.gw_session.specs.Answers.{events, render}
use Rattle.gw_session.specs.Running.{all_kinds, replies_to, RunsAll, RunsUntil}
use Rattle.gw_session.specs.Serve.{SessionStreams, ServesAll, ServesUntil}
use Rattle.gw_session.specs.Tape.{TapeState}

-- The recording of a session was begun empty. It took these records, and behind them these octets and others.
pub record HasRecorded (tape tape' : TapeState) (passed : List Record) (octets behind : List ℕ) : Type 0 where
  pub empty : tape.taken ≡ Some []
  pub good : AllByRecursion (IsGood all_kinds) passed
  pub took : tape'.taken ≡ Some (flat_map spelled passed ++ (octets ++ behind))

-- A replay was given these octets and no others, and no write failed.
pub record IsGivenOnly (octets : List ℕ) (source source' : SourceState)
    (sink sink' : SinkState) : Type 0 where
  pub begun : source.given ≡ Some []
  pub given : source'.given ≡ Some octets
  pub no_write : sink'.failures ≡ sink.failures

-- What a replay of octets of a recording leaves. The octets are whole records, and at most a part of the next
-- one. The gateway of the replay has the history that the live one had behind these records: what happened to
-- the live one begins with it, and is all of it if the octets end the whole recording. The answers to the
-- records were written.
pub record Recovers (config : GatewayConfig) (before : List Event) (live recovered : Gateway)
    (passed : List Record) (octets : List ℕ) (Whole : Type 0) (Took : List ℕ → Type 0) : Type 0
  where
    pub records : List Record
    pub ending : RecordsEnd
    pub reads : Reads all_kinds octets records ending
    pub cut : is_open ending ≡ true
    pub stands : HasHistory config recovered (before ++ events (passed ++ records))
    pub took : Took (render records (replies_to config (before ++ events passed) records))
    pub later : List Event
    pub live_stands : HasHistory config live (before ++ (events (passed ++ records) ++ later))
    pub all : Whole → (ending ≡ endings.End) × (later ≡ [])

-- the recording has not ended, and no octet of it is behind
abbrev pub EndsWhole : TapeState → List ℕ → Type 0
EndsWhole tape' behind = (tape'.ended ≡ false) × (behind ≡ [])

-- A replay recovers the state of every live session from octets of its recording, if its gateway had the
-- history that the live one had behind the records before them: so has a new one if there are none, and one
-- that was loaded from a state that was saved there.
abbrev pub RecoversLive : SourceState → SourceState → SinkState → SinkState → Gateway → Gateway → Type 0
RecoversLive source source' sink sink' saved recovered =
    (a a' : SessionStreams) (gateway live : Gateway) (end : Result Totals RunFault)
    (passed : List Record) (octets behind : List ℕ) (config : GatewayConfig) (before : List Event)
    → MatchResult end (ServesAll a a' gateway live) (ServesUntil a a' gateway live)
    → HasRecorded a.tape a'.tape passed octets behind → IsGivenOnly octets source source' sink sink'
    → HasHistory config gateway before → HasHistory config saved (before ++ events passed)
    → Recovers config before live recovered passed octets (EndsWhole a'.tape behind)
    (Appends sink.taken sink'.taken)

-- each replay does, whatever ends it
abbrev pub CutRecordingsRecover : Type 0
CutRecordingsRecover = (source source' : SourceState) (sink sink' : SinkState) (saved recovered : Gateway)
    (ended : Result Totals RunFault)
    → MatchResult ended (RunsAll saved recovered source source' sink sink')
    (RunsUntil saved recovered source source' sink sink')
    → RecoversLive source source' sink sink' saved recovered
