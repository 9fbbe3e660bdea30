-- What a session that logs its records has given out, wherever it is cut, and what its log has then.
use Rattle.std.specs.Prelude.{◌≡◌, ◌⊎◌, ◌++◌, ℕ, Bool, true, false, List, [], ◌∷◌, Option, Some}
use Rattle.std.specs.Io.KnownBytes.{Appends}
use Rattle.std.specs.List.{AllByRecursion}
use Rattle.gw_session.specs.Prelude.{AppendsPrefix, Event, Gateway, GatewayConfig, HasHistory, Record, counted}
use Rattle.gw_records.specs.declared.records.RecordsEnd.{RecordsEnd}
use Rattle.gw_records.specs.Records.{Reads}
use Rattle.gw_session.specs.Answers.{events}
use Rattle.gw_session.specs.Running.{all_kinds}
use Rattle.gw_session.specs.Serve.{SessionInput, Follows, LeavesOut, answer_to, are_held, events_in}
use Rattle.gw_session.specs.Serve.{events_through, packets_for, turns_of, written}
use Rattle.gw_session.specs.Tape.{Act, Gone, TapeState}
use Rattle.gw_session.specs.World.{SessionState}

-- whether the tape had ended at an act, what it had taken, and what had gone out
abbrev pub had_ended : Act → Bool
had_ended (Act.Keeps gateway ended taken gone) = ended
had_ended (Act.Answers ended taken gone) = ended

abbrev pub had_taken : Act → Option (List ℕ)
had_taken (Act.Keeps gateway ended taken gone) = taken
had_taken (Act.Answers ended taken gone) = taken

abbrev pub had_gone : Act → Gone
had_gone (Act.Keeps gateway ended taken gone) = gone
had_gone (Act.Answers ended taken gone) = gone

abbrev pub IsGoing : Act → Type 0
IsGoing act = had_ended act ≡ false

-- what acts say at the last of them, or what was at the beginning
abbrev pub at_last : {X : Type 0} → (Act → X) → X → List Act → X
at_last f begun [] = begun
at_last f begun (act ∷ acts) = at_last f (f act) acts

-- .. at the first of them, or what is at the end
abbrev pub at_next : {X : Type 0} → (Act → X) → List Act → X → X
at_next f [] end = end
at_next f (act ∷ acts) end = f act

-- the packets of an input are held until it is on the tape, as `serve_logged` does up to 2,048 octets
abbrev pub HoldsPackets : Bool → SessionInput → Type 0
HoldsPackets holds input = are_held holds (turns_of input) ≡ true

-- a tape that is begun
abbrev pub new_tape : TapeState
new_tape = record { ended = false; failures = 0; taken = Some []; acts = Some [] }

-- nothing has gone out
abbrev pub nothing_gone : Gone
nothing_gone = record { sent = Some []; written = Some []; failures = 0 }

-- what a list is that only grows, at a moment between two at which it was known
pub record IsBetween {X : Type 0} (low high : Option (List X)) (xs : List X) : Type 0 where
  pub first : List X
  pub low_is : low ≡ Some first
  pub more : List X
  pub xs_are : xs ≡ first ++ more
  pub rest : List X
  pub high_is : high ≡ Some (xs ++ rest)

-- What a session gave out until it was cut: packets, with their circuits, and octets; and how many sends its
-- ports had counted as failed at the act before the cut, and at the one behind it.
pub record GivenOut : Type 0 where
  pub sent : List (ℕ × List ℕ)
  pub out : List ℕ
  pub failed : ℕ
  pub failed_by_next : ℕ

-- A session of this gateway, with a new tape, which held the packets of each input until it was on the tape,
-- was cut at a moment between two acts, at none of which before it the tape had ended. What its tape had taken
-- then, and the packets and octets that had gone out, are between what they were at these acts (`low` and
-- `high`), or at the beginning and the end. (`Follows` is so of each session that returned, by `ServesAll` and
-- `ServesUntil`. One that is killed has done the first of what one does that returns, around which everything
-- fails from the kill on.)
pub record WasCutOff (gateway : Gateway) (octets : List ℕ) (gave : GivenOut) : Type 0 where
  pub session : SessionState
  pub gateway_is : session.gateway ≡ gateway
  pub none_sent : session.ports.taken ≡ Some []
  pub none_failed : session.ports.send_failures ≡ 0
  pub none_held : session.held ≡ []
  pub inputs : List SessionInput
  pub session' : SessionState
  pub tape' : TapeState
  pub follows : Follows written (Appends (Some [])) session session' new_tape tape' inputs
  pub held : AllByRecursion (HoldsPackets session.holds) inputs
  pub out' : Option (List ℕ)
  pub took : (config : GatewayConfig) (before : List Event) → HasHistory config gateway before
      → AppendsPrefix (Some []) out' (written config before inputs)
  pub acts : List Act
  pub later : List Act
  pub all : tape'.acts ≡ Some (acts ++ later)
  pub going : AllByRecursion IsGoing acts
  pub logged : IsBetween (at_last had_taken (Some []) acts) (at_next had_taken later tape'.taken) octets
  pub low : Gone
  pub low_is : low ≡ at_last had_gone nothing_gone acts
  pub high : Gone
  pub high_is : high ≡ at_next had_gone later
      (record { sent = session'.ports.taken; written = out'; failures = session'.ports.send_failures })
  pub sends : IsBetween low.sent high.sent gave.sent
  pub writes : IsBetween low.written high.written gave.out
  pub failed_is : gave.failed ≡ low.failures
  pub failed_next_is : gave.failed_by_next ≡ high.failures

-- events are the first of those of the next input, or there are none
abbrev pub AreOfNext : List Event → List SessionInput → Type 0
AreOfNext es [] = es ≡ []
AreOfNext es (input ∷ inputs) = (later : List Event) × (events_in input ≡ es ++ later)

-- The next input is logged whole, and what went out is the first of what answers it, behind all that answers
-- the inputs before: the octets; and the packets of all these inputs, but for as many as sends are counted as
-- failed when it is done.
pub record AnswersNext (config : GatewayConfig) (before : List Event) (answered others : List SessionInput)
    (last : List Event) (sent : List (ℕ × List ℕ)) (part : List ℕ) (failed_by_next : ℕ)
    : Type 0 where
  pub next : SessionInput
  pub later : List SessionInput
  pub others_are : others ≡ next ∷ later
  pub last_is : last ≡ events_in next
  pub unsent : List (ℕ × List ℕ)
  pub left_out : ℕ
  pub counted_is : counted 0 left_out ≡ failed_by_next
  pub packets_are :
      LeavesOut left_out (sent ++ unsent) (packets_for config before (events_through answered ++ events_in next))
  pub rest : List ℕ
  pub octets_are : part ++ rest ≡ answer_to config (before ++ events_through answered) next

-- What went out is the beginning of what answers the events that are logged. It is all that answers the first
-- inputs, the octets, and the packets but for as many as sends had been counted as failed; and nothing more, or
-- the first of what answers the next input, if that is logged whole.
pub record AnswersFirst (config : GatewayConfig) (before : List Event) (inputs : List SessionInput)
    (logged : List Event) (gave : GivenOut)
    : Type 0 where
  pub answered : List SessionInput
  pub others : List SessionInput
  pub inputs_are : inputs ≡ answered ++ others
  pub last : List Event
  pub logged_are : logged ≡ events_through answered ++ last
  pub of_next : AreOfNext last others
  pub first : List (ℕ × List ℕ)
  pub more : List (ℕ × List ℕ)
  pub sent_are : gave.sent ≡ first ++ more
  pub left_out : ℕ
  pub counted_is : counted 0 left_out ≡ gave.failed
  pub first_are : LeavesOut left_out first (packets_for config before (events_through answered))
  pub part : List ℕ
  pub out_is : gave.out ≡ written config before answered ++ part
  pub rest_is : ((more ≡ []) × (part ≡ []))
      ⊎ AnswersNext config before answered others last gave.sent part gave.failed_by_next

-- However a session is cut off, what it gave out is the beginning of what answers the whole records in its
-- log, and lacks at most a part of the last one's answer, and as many packets as sends failed.
abbrev pub CutSessionsAnswerTheirLogs : Type 0
CutSessionsAnswerTheirLogs = (config : GatewayConfig) (before : List Event) (gateway : Gateway)
    (octets : List ℕ) (gave : GivenOut) (records : List Record) (ending : RecordsEnd)
    → HasHistory config gateway before → (cut : WasCutOff gateway octets gave)
    → Reads all_kinds octets records ending
    → AnswersFirst config before cut.inputs (events records) gave
