-- What tapes tell of themselves, and how events are recorded on them.
use Rattle.std.specs.Prelude.{Contains, ◌≡◌, ◌⊎◌, ◌^◌, ◌<◌, ◌≤◌, ◌++◌, Bool, true, false, List, [], ℕ, Option}
use Rattle.std.specs.Prelude.{None, Some, length, map, flat_map}
use Rattle.std.specs.Io.KnownBytes.{Appends}
use Rattle.std.specs.List.{AllByRecursion}
use Rattle.gw_session.specs.Prelude.{Datagram, Event, Gateway, Record, IsGood, AppendsPrefix, Extends}
use Rattle.gw_session.specs.Prelude.{PortsState, SinkState}
use Rattle.gw_records.specs.Records.{spelled}
use Rattle.gw_session.specs.Answers.{events}
use Rattle.gw_session.specs.Running.{all_kinds}

-- what had gone to the ports and the sink of a session, where it is known, packets with their circuits, and
-- octets; and how many sends had failed
pub record Gone : Type 0 where
  pub sent : Option (List (ℕ × List ℕ))
  pub written : Option (List ℕ)
  pub failures : ℕ

abbrev pub gone_to : PortsState → SinkState → Gone
gone_to ports sink = record { sent = ports.taken; written = sink.taken; failures = ports.send_failures }

-- What a session does between two writes to its tape: it shows the tape its gateway, or it answers, by packets
-- and octets, what the tape has. With it is what the tape had then: whether it had ended and, where they are
-- known, the octets that it had taken; and what had gone out by then.
pub data Act : Type 0 where
  Keeps : (gateway : Gateway) → (ended : Bool) → (taken : Option (List ℕ)) → (gone : Gone) → Act
  Answers : (ended : Bool) → (taken : Option (List ℕ)) → (gone : Gone) → Act

-- a tape: whether it has ended, its writes that failed and, where they are known, the octets that it took and
-- the acts that it was told of
pub record TapeState : Type 0 where
  pub ended : Bool
  pub failures : ℕ
  pub taken : Option (List ℕ)
  pub acts : Option (List Act)

-- a gateway is shown, or an answer begins, when the tape is so and this had gone out
abbrev pub keeps_at : TapeState → Gateway → Gone → Act
keeps_at tape gateway gone = Act.Keeps gateway tape.ended tape.taken gone

abbrev pub answers_at : TapeState → Gone → Act
answers_at tape gone = Act.Answers tape.ended tape.taken gone

-- a tape was told of acts, and stays as it was but for that
pub record Learns (tape tape' : TapeState) (acts : List Act) : Type 0 where
  pub same : tape' ≡ record tape { acts = tape'.acts }
  pub told : Extends tape.acts tape'.acts acts

-- a tape that takes nothing
abbrev pub no_tape : TapeState
no_tape = record { ended = true; failures = 0; taken = None; acts = None }

-- the state of a tape, or of one that takes nothing
abbrev pub tells_of : {T : Type 0} → (T → TapeState) → Option T → TapeState
tells_of tells None = no_tape
tells_of tells (Some tape) = tells tape

-- whether a session is not to go on, by its tape, or without one
abbrev pub is_lost_of : {T : Type 0} → (T → Bool) → Option T → Bool
is_lost_of is_lost None = false
is_lost_of is_lost (Some tape) = is_lost tape

-- a datagram among events is longer than a record can say
abbrev pub HasLong : List Event → Type 0
HasLong es =
    (circuit : ℕ) × (bytes : List ℕ) × Contains es (Event.Given circuit (Datagram bytes))
    × (2 ^ 16 ≤ length bytes)

-- Events were recorded: the tape took the octets of good records, or a prefix of them, and the events of
-- these records are the first of the events that happened. As long as the tape has not ended, they are all of
-- them, and it took the octets whole and no write failed. It ends only where a write failed, or at a datagram
-- that no record can say, and one that had ended stays as it was, but for acts.
pub record Recorded (tape tape' : TapeState) (happened : List Event) : Type 0 where
  pub records : List Record
  pub good : AllByRecursion (IsGood all_kinds) records
  pub lost : List Event
  pub events_are : happened ≡ events records ++ lost
  pub took : AppendsPrefix tape.taken tape'.taken (flat_map spelled records)
  pub whole : tape'.ended ≡ false → (lost ≡ []) × Appends tape.taken tape'.taken (flat_map spelled records)
      × (tape'.failures ≡ tape.failures)
  pub cause : tape.ended ≡ false → tape'.ended ≡ true → (tape.failures < tape'.failures) ⊎ HasLong happened
  pub stays : tape.ended ≡ true → tape' ≡ record tape { acts = tape'.acts }

-- octets that spell good records
pub record AreSpelled (records : List Record) (octets : List ℕ) : Type 0 where
  pub good : AllByRecursion (IsGood all_kinds) records
  pub octets_are : octets ≡ flat_map spelled records

-- the events of the records that octets spell were recorded
abbrev pub WritesRecords : TapeState → TapeState → List ℕ → Type 0
WritesRecords tape tape' octets =
    (records : List Record) → AreSpelled records octets → Recorded tape tape' (events records)

-- a tape, and the octets of records that are to be put on it together
pub record Taping : Type 0 where
  pub tape : TapeState
  pub batch : List ℕ

abbrev pub taping : TapeState → List ℕ → Taping
taping tape batch = record { tape = tape; batch = batch }

-- Events happened. Behind the records that were in the batch they were recorded, or are in the batch now.
pub record Batched (t t' : Taping) (before : List Record) (happened : List Event) : Type 0 where
  pub first : List Event
  pub recorded : Recorded t.tape t'.tape first
  pub acts : t'.tape.acts ≡ t.tape.acts
  pub after : List Record
  pub batch_is : AreSpelled after t'.batch
  pub all : events before ++ happened ≡ first ++ events after

abbrev pub Batches : Taping → Taping → List Event → Type 0
Batches t t' happened = (before : List Record) → AreSpelled before t.batch → Batched t t' before happened

-- the records that were in the batch were recorded, and behind them events
abbrev pub RecordsAll : Taping → TapeState → List Event → Type 0
RecordsAll t tape' happened =
    (before : List Record) → AreSpelled before t.batch → Recorded t.tape tape' (events before ++ happened)
    × (tape'.acts ≡ t.tape.acts)

-- a tape ends, with what it has taken
abbrev pub HasEnded : TapeState → TapeState → Type 0
HasEnded tape tape' = (tape'.ended ≡ true) × (tape'.taken ≡ tape.taken) × (tape'.acts ≡ tape.acts)
    × (tape.ended ≡ true → tape' ≡ tape)

-- events happened, and were recorded or are in the batch, but for octets of the trunk at their end
abbrev pub RecordedBut : Taping → Taping → List Event → List ℕ → Type 0
RecordedBut t t' happened fresh =
    (es : List Event) × Batches t t' es × (happened ≡ es ++ map Event.Octet fresh)
