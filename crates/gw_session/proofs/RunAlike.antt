-- A session that was recorded and a run over what was recorded are alike.
use Rattle.gw_session.proofs.Common.{◌≡◌, ◌<◌, ℕ, List, [], ◌++◌, sym, ◌∙◌, append-nil, arith, Option, Result, Ok}
use Rattle.gw_session.proofs.Common.{rules, common_steps, Err, Appends, GatewayConfig, Gateway, Event, HasHistory}
use Rattle.gw_session.proofs.Common.{Totals, RunFault, Record, AppendsPrefix, AppendsBut, Extends, counted, events}
use Rattle.gw_session.proofs.Common.{answered, replies_to, SessionInput, events_through, packets_for, given_by, written}
use Rattle.gw_session.proofs.Common.{but_last, LeavesOut, Recorded, all_answers, MatchResult, SessionStreams, Served}
use Rattle.gw_session.proofs.Common.{ServesAll, ServesUntil, RecordedSessionsRunAlike}
use Rattle.std.proofs.KnownBytes.{Appends-nil}
use Rattle.gw_records.specs.declared.outcome.RunFault.TheVariants as faults
use Rattle.gw_records.specs.declared.records.RecordsEnd.TheVariants as endings
use Rattle.gw_session.proofs.ReadBack.{read_back}
use Rattle.gw_session.proofs.AnsweredAlike.{answer_alike}
use Rattle.gw_session.proofs.Taping.{recorded_none}
use Rattle.gw_session.proofs.Turns.{Extends-none}

-- what a session that was recorded did, whatever ended it
pub record Lived (config : GatewayConfig) (before : List Event) (live : Gateway) (a a' : SessionStreams) : Type 0 where
  pub inputs : List SessionInput
  pub stands : HasHistory config live (before ++ events_through inputs)
  pub recorded : Recorded a.tape a'.tape (events_through inputs)
  pub took : AppendsPrefix a.sink.taken a'.sink.taken (written config before inputs)
  pub whole : a'.sink.failures ≡ a.sink.failures → Appends a.sink.taken a'.sink.taken (written config before inputs)
  pub sent : List (ℕ × List ℕ)
  pub takes : Extends a.ports.taken a'.ports.taken sent
  pub failed : ℕ
  pub sends : a'.ports.send_failures ≡ counted a.ports.send_failures failed
  pub packets : LeavesOut failed sent (packets_for config before (events_through inputs))

-- what was all taken is a prefix of itself
prefix_of_all : (a b : Option (List ℕ)) (xs : List ℕ) → Appends a b xs → AppendsPrefix a b xs
prefix_of_all a b xs p = record { written = xs; rest = []; whole = sym (append-nil xs); appended = p }

module _ {config : GatewayConfig} {before : List Event} {gateway live : Gateway} (a a' : SessionStreams)
    (stood : HasHistory config gateway before)
  where
    -- a session that was served did so, where this is known of what its sink took
    lived_through : {Took : List ℕ → List ℕ → Type 0} {totals : Totals} {records : List Record}
        → (s : Served a a' gateway live Took totals records)
        → (Took (written config before (but_last s.inputs)) (written config before s.inputs)
        → AppendsPrefix a.sink.taken a'.sink.taken (written config before s.inputs)
        × (a'.sink.failures ≡ a.sink.failures
        → Appends a.sink.taken a'.sink.taken (written config before s.inputs))) → Lived config before live a a'
    lived_through s taken = grind (arith, append-nil, taken (s.took config before stood))

    -- .. where no write failed
    lived_well : {totals : Totals} {records : List Record}
        → Served a a' gateway live (λ first. Appends a.sink.taken a'.sink.taken) totals records
        → Lived config before live a a'
    lived_well s = lived_through s (λ p. (prefix_of_all a.sink.taken a'.sink.taken _ p, λ e. p))

    -- .. where one did
    lived_to_write : {totals : Totals} {records : List Record} → a.sink.failures < a'.sink.failures
        → Served a a' gateway live (AppendsBut 0 a.sink.taken a'.sink.taken) totals records
        → Lived config before live a a'
    lived_to_write counted s = lived_through s (grind (arith, common_steps))

-- .. where nothing was done
lived_idly : (config : GatewayConfig) (before : List Event) (live : Gateway) (a : SessionStreams)
    → HasHistory config live before
    → Lived config before live a a
unfolding given_by
lived_idly config before live a stood =
    search (rules, append-nil, recorded_none, prefix_of_all, Appends-nil, Extends-none)

-- whatever ended a session that was recorded, it did so
pub lived : (a a' : SessionStreams) (gateway live : Gateway) (end : Result Totals RunFault) (config : GatewayConfig)
    (before : List Event) → HasHistory config gateway before
    → MatchResult end (ServesAll a a' gateway live) (ServesUntil a a' gateway live) → Lived config before live a a'
lived a a' gateway live (Ok totals) config before stood h = lived_well a a' stood h.ends.0.done
lived a a' gateway live (Err faults.Truncated) config before stood h = lived_well a a' stood h.0.0.done
lived a a' gateway live (Err faults.Read) config before stood h = lived_well a a' stood h.1.done
lived a a' gateway live (Err faults.Write) config before stood h =
    lived_to_write a a' stood h.counted h.begun.1
lived a a' gateway live (Err faults.OutOfMemory) config before stood h =
    rw (h.0, h.1) (lived_idly config before gateway a stood)
lived a a' gateway live (Err _) config before stood h = lived_well a a' stood h.0.done

-- a session that was recorded and a run over what was recorded are alike
pub run_alike : RecordedSessionsRunAlike
run_alike a a' gateway live end from from' again again' other replayed totals octets config before served none known
    going ran at_first given stood stood_again =
    let l = lived a a' gateway live end config before stood served in
    let s = ran.ends.0 in
    let same : octets ≡ s.octets = rw (at_first, given) at s.gives.gave in
    let back = read_back a.tape a'.tape (events_through l.inputs) octets s.records endings.End l.recorded none known
    (rw same s.reads) in
    let nothing = (back.all going).1 in
    let input_record : events_through l.inputs
    ≡ events s.records = back.first ∙ rw nothing (append-nil (events s.records)) in
    let answers = answer_alike config before l.inputs s.records (sym input_record) in
    let done = s.done config before stood_again in
    record {
      happened = before ++ events_through l.inputs;
      stands = l.stands;
      stands_again = rw input_record done.stands;
      answers = all_answers config before l.inputs;
      took = rw (← answers.live) l.took;
      whole = λ e. rw (← answers.live) (l.whole e);
      answers_again = answered s.records (replies_to config before s.records);
      took_again = done.took;
      trunk = answers.trunk;
      commands = answers.commands;
      sent = l.sent;
      takes = l.takes;
      failed = l.failed;
      sends = l.sends;
      datagrams = rw answers.datagrams l.packets;
    }
