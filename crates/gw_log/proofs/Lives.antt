-- What starts did, whenever they were killed.
use Rattle.std.proofs.Common.{◌++◌, ◌∷◌, [], List, refl, inl, inr, append-nil, append_assoc}
use Rattle.std.proofs.Common.{flat_map, map}
use Rattle.std.specs.List.{AllByRecursion}
use Rattle.gw_switch.specs.Events.{Event}
use Rattle.gw_switch.specs.Standing.{HasHistory}
use Rattle.gw_switch.specs.declared.GatewayConfig.{GatewayConfig}
use Rattle.gw_switch.specs.declared.gateway.Gateway.{Gateway}
use Rattle.gw_state.specs.Laws.{LoadedGatewaysGoOn}
use Rattle.gw_state.specs.Layout.{ConfigFits}
use Rattle.gw_records.specs.Laws.{AtMostOneReading}
use Rattle.gw_records.specs.Records.{spelled}
use Rattle.gw_records.specs.declared.records.RecordsEnd.TheVariants as endings
use Rattle.gw_session.specs.Answers.{events}
use Rattle.gw_session.specs.Killed.{CutSessionsAnswerTheirLogs}
use Rattle.gw_session.proofs.ReadBack.{reads_all}
use Rattle.gw_log.specs.Calls.{LogsAreLeft}
use Rattle.gw_log.proofs.Cuts.{called_good, logged_good}
use Rattle.log_files.specs.Pairs.{Contents}
use Rattle.gw_log.specs.Resuming.{BeginsFrom}
use Rattle.gw_log.specs.Starts.{AreStarts, Disk, IsStart, ReadsWhatWasWritten, given_wait}
use Rattle.gw_log.specs.Lives.{HasDone, HaveDone, Life, StartsAnswerTheirLogs, WasKilledSo, start_of}
use Rattle.gw_log.proofs.Starting.{Holds, begins_with, one_start, served_start, stands_now}

module _ (left_law : LogsAreLeft) (go_on : LoadedGatewaysGoOn) (one_reading : AtMostOneReading)
    (cut_law : CutSessionsAnswerTheirLogs) (config : GatewayConfig) (fits : ConfigFits config)
  where
    -- what one start did, and its files have
    one_life : (disk : Disk) (history : List Event) (life : Life) → Holds config disk.first disk.second history
        → IsStart config disk life.start → WasKilledSo life
        → (logged : List Event) × HasDone config history life logged
        × Holds config life.start.left.first life.start.left.second (history ++ logged)
    one_life disk history life held is (inl half) =
        let l = one_start left_law go_on one_reading config fits disk history life.start held is in
        (l.0, inl (l.1, half.0, half.2), l.2)
    one_life disk history life held is (inr served) =
        let wait = given_wait life.start.wait in
        let l = served_start left_law go_on one_reading config fits disk history life.start held is served.0 in
        let c = served.1 l.0 l.1 in
        let stands = stands_now left_law go_on one_reading config fits disk history life.start held is in
        let good = logged_good life.start.log life.start.calls l.0 l.1
        (called_good served.0.begun life.start.log life.start.calls served.0.called) in
        let did = cut_law config (history ++ wait) life.start.gateway (flat_map spelled l.0) life.gave l.0 endings.End
        stands c (reads_all l.0 good) in
        (wait ++ events l.0, inr (l.0, c, l.1, refl, did), l.2)

    -- .. and starts, one behind the other
    all_lives : (lives : List Life) (disk disk' : Disk) (history : List Event) (next : Gateway)
        → Holds config disk.first disk.second history → AreStarts config disk (map start_of lives) disk'
        → AllByRecursion WasKilledSo lives
        → (first second : Contents) → ReadsWhatWasWritten disk' first second → BeginsFrom first second config next
        → (logged : List Event) × HaveDone config history lives logged × HasHistory config next (history ++ logged)
    all_lives [] disk disk' history next held same killed first second given begins =
        let there : Holds config disk'.first disk'.second history = rw same held in (
          [],
          refl,
          rw append-nil
              (begins_with left_law go_on one_reading config fits disk' history next there first second given begins),
        )
    all_lives (life ∷ lives) disk disk' history next held (is, are) killed first second given begins =
        let l = one_life disk history life held is killed.0 in
        let rest = all_lives lives life.start.left disk' (history ++ l.0) next l.2 are killed.1 first second given begins in (
          l.0 ++ rest.0,
          (l.0, rest.0, l.1, rest.1, refl),
          rw append_assoc at rest.2,
        )

-- what all starts did is the first of what answers their logs
pub starts_answer : LogsAreLeft → LoadedGatewaysGoOn → AtMostOneReading → CutSessionsAnswerTheirLogs
    → StartsAnswerTheirLogs
starts_answer left_law go_on one_reading cut_law config disk disk' lives next fits none nor are killed first
    second given begins =
    all_lives left_law go_on one_reading cut_law config fits lives disk disk' [] next (inl (none, nor, refl)) are
    killed first second given begins
