-- Laws of recordings.
use Rattle.std.specs.Prelude.{◌≡◌, ◌==◌, ◌++◌, if◌then◌else◌, ℕ, false, List, [], ◌∷◌, Some, Result}
use Rattle.std.specs.Prelude.{MatchResult, flat_map}
use Rattle.std.specs.Io.KnownBytes.{Appends}
use Rattle.gw_session.specs.Prelude.{GatewayConfig, Gateway, HasHistory, Totals, RunFault, SourceState}
use Rattle.gw_session.specs.Prelude.{SinkState, AppendsPrefix, Extends, counted, Event, whole_from, Record}
use Rattle.gw_records.specs.declared.records.RecordsEnd.{RecordsEnd}
use Rattle.gw_records.specs.declared.records.RecordsEnd.TheVariants as endings
use Rattle.gw_records.specs.Records.{Reads}
use Rattle.gw_session.specs.Answers.{Written, written_out, answers, answered, trunk_in, datagrams_in}
use Rattle.gw_session.specs.Answers as records_of
use Rattle.gw_session.specs.Running.{all_kinds, replies_to, RunsAll}
use Rattle.gw_session.specs.Serve.{SessionInput, input_record, events_through, events_in, events_of_turns}
use Rattle.gw_session.specs.Serve.{octets_for, packets_for, written, through, LeavesOut, SessionStreams}
use Rattle.gw_session.specs.Serve.{ServesAll, ServesUntil}
use Rattle.gw_session.specs.Tape.{TapeState, Recorded}

-- What was recorded is read as records whose events are the first of those that happened; where the tape has
-- not ended, the octets end with a whole record, and these are all events.
pub record ReadsBack (tape' : TapeState) (happened : List Event) (records : List Record)
    (ending : RecordsEnd)
    : Type 0 where
  pub lost : List Event
  pub first : happened ≡ records_of.events records ++ lost
  pub all : tape'.ended ≡ false → (ending ≡ endings.End) × (lost ≡ [])

-- a recording that was begun empty is read back
abbrev pub RecordingsAreReadBack : Type 0
RecordingsAreReadBack = (tape tape' : TapeState) (happened : List Event) (octets : List ℕ)
    (records : List Record)
    (ending : RecordsEnd) → Recorded tape tape' happened → tape.taken ≡ Some [] → tape'.taken ≡ Some octets
    → Reads all_kinds octets records ending → ReadsBack tape' happened records ending

-- the records that are written for an input, and for inputs one after another
abbrev pub answers_to : GatewayConfig → List Event → SessionInput → List Written
answers_to config before (SessionInput.Trunk ts) = Written.Trunk (octets_for config before
    (events_of_turns ts)) ∷ []
answers_to config before input = answers (input_record input) (whole_from config before (events_in input))

abbrev pub all_answers : GatewayConfig → List Event → List SessionInput → List Written
all_answers = through answers_to

-- the answer to a command or a codec: its circuit, its kind and its code
abbrev pub command_in : Written → List (ℕ × ℕ × ℕ)
command_in (Written.Answered circuit kind code) = if kind == 0x44 then [] else (circuit, kind, code) ∷ []
command_in _ = []

-- a session over records sends the octets, the datagrams and the answers to commands that these inputs sent
pub record AnswersAs (config : GatewayConfig) (before : List Event) (inputs : List SessionInput)
    (records : List Record)
    : Type 0 where
  pub live : written config before inputs ≡ flat_map written_out (all_answers config before inputs)
  pub trunk : flat_map trunk_in (answered records (replies_to config before records))
      ≡ flat_map trunk_in (all_answers config before inputs)
  pub datagrams : flat_map datagrams_in (answered records (replies_to config before records))
      ≡ packets_for config before (events_through inputs)
  pub commands : flat_map command_in (answered records (replies_to config before records))
      ≡ flat_map command_in (all_answers config before inputs)

-- records of the same events answer as the inputs did
abbrev pub RecordingsAnswerAlike : Type 0
RecordingsAnswerAlike = (config : GatewayConfig) (before : List Event) (inputs : List SessionInput)
    (records : List Record) → records_of.events records ≡ events_through inputs
    → AnswersAs config before inputs records

-- A session that was recorded and a replay of what was recorded. Both gateways stand after the same events.
-- The octets of the trunk and the answers to commands are alike in what both wrote: of the live one a prefix
-- of its answers was taken, and all of them where no write failed. The ports took the datagrams that the
-- replay wrote, but for as many as failed sends.
pub record RunAlike (config : GatewayConfig) (live replayed : Gateway) (a a' : SessionStreams)
    (again again' : SinkState) : Type 0 where
  pub happened : List Event
  pub stands : HasHistory config live happened
  pub stands_again : HasHistory config replayed happened
  pub answers : List Written
  pub took : AppendsPrefix a.sink.taken a'.sink.taken (flat_map written_out answers)
  pub whole : a'.sink.failures ≡ a.sink.failures
      → Appends a.sink.taken a'.sink.taken (flat_map written_out answers)
  pub answers_again : List Written
  pub took_again : Appends again.taken again'.taken (flat_map written_out answers_again)
  pub trunk : flat_map trunk_in answers_again ≡ flat_map trunk_in answers
  pub commands : flat_map command_in answers_again ≡ flat_map command_in answers
  pub sent : List (ℕ × List ℕ)
  pub takes : Extends a.ports.taken a'.ports.taken sent
  pub failed : ℕ
  pub sends : a'.ports.send_failures ≡ counted a.ports.send_failures failed
  pub datagrams : LeavesOut failed sent (flat_map datagrams_in answers_again)

-- A session was served and recorded on a tape that was begun empty and has not ended; the octets that the
-- tape took were all that a session without ports was given, whose gateway stood as the other one did before.
abbrev pub RecordedSessionsRunAlike : Type 0
RecordedSessionsRunAlike = (a a' : SessionStreams) (gateway live : Gateway) (end : Result Totals RunFault)
    (from from' : SourceState) (again again' : SinkState) (other replayed : Gateway) (totals : Totals)
    (octets : List ℕ) (config : GatewayConfig) (before : List Event)
    → MatchResult end (ServesAll a a' gateway live) (ServesUntil a a' gateway live)
    → a.tape.taken ≡ Some [] → a'.tape.taken ≡ Some octets → a'.tape.ended ≡ false
    → RunsAll other replayed from from' again again' totals
    → from.given ≡ Some [] → from'.given ≡ Some octets
    → HasHistory config gateway before → HasHistory config other before
    → RunAlike config live replayed a a' again again'
