-- The gateway with which a start begins, whenever those before it were killed.
use Rattle.std.proofs.Common.{◌≡◌, ◌∙◌, ◌++◌, ◌∷◌, ◌⊎◌, [], ℕ, List, Option, Some, None, refl, sym, ap, subst}
use Rattle.std.proofs.Common.{inl, inr, ⊎_elim, append-nil, append_assoc, flat_map}
use Rattle.std.proofs.lemmas.Grind.{flat_map-append}
use Rattle.std.specs.List.{AllByRecursion}
use Rattle.gw_switch.specs.Events.{Event}
use Rattle.gw_switch.specs.Saved.{GatewayFits}
use Rattle.gw_switch.specs.Standing.{HasHistory}
use Rattle.gw_switch.specs.declared.GatewayConfig.{GatewayConfig}
use Rattle.gw_switch.specs.declared.gateway.Gateway.{Gateway}
use Rattle.gw_state.specs.Laws.{LoadedGatewaysGoOn}
use Rattle.gw_state.specs.Layout.{ConfigFits}
use Rattle.gw_records.specs.Laws.{AtMostOneReading}
use Rattle.gw_records.specs.Records.{IsGood, Record, spelled}
use Rattle.gw_records.proofs.Sessions.{All-join}
use Rattle.gw_session.specs.Answers.{events, events_of}
use Rattle.gw_session.specs.Running.{all_kinds}
use Rattle.gw_session.specs.Tape.{TapeState}
use Rattle.log_files.specs.Pairs.{Contents, HasNothingWhole, IsNewest, Kept, LeavesKept, LogState, MayLeave}
use Rattle.log_files.specs.Pairs.{StandsFor}
use Rattle.log_files.specs.Stores.{WhereKnown}
use Rattle.gw_log.specs.Calls.{AreLogged, LeavesBehind, LogsAreLeft, WasServed}
use Rattle.gw_log.specs.Logs.{CanFollow, HalfCheckpointed, LeavesOf, TrunkLogState, kept_as}
use Rattle.gw_log.specs.Resuming.{BeginsFrom}
use Rattle.gw_log.specs.Starts.{AreStarts, Disk, HasLogged, HaveLogged, IsStart, ReadsWhatWasWritten}
use Rattle.gw_log.specs.Starts.{Start, StartsGoOn, Waits, given_wait}
use Rattle.gw_log.proofs.Configured.{IsPlain, configured_still, plain_events, plain_wait}
use Rattle.gw_log.proofs.Disks.{IsOver, blank_nothing, none_newest, one_newest, over_read, newest_read, read_newest}
use Rattle.gw_log.proofs.Replaying.{resumes}

-- two pairs have a gateway with this history: the newest is a state of it, and the records behind that
pub record HasKept (config : GatewayConfig) (first second : Contents) (history : List Event) : Type 0 where
  turn : ℕ
  place : ℕ
  saved : Gateway
  before : List Event
  records : List Record
  newest : IsNewest first second (kept_as turn config place saved (flat_map spelled records))
  stands : HasHistory config saved before
  plain : AllByRecursion IsPlain before
  fits : GatewayFits saved
  good : AllByRecursion (IsGood all_kinds) records
  history_is : history ≡ before ++ events records

-- .. or nothing, and nothing has happened yet
abbrev pub Holds : GatewayConfig → Contents → Contents → List Event → Type 0
Holds config first second history =
    (HasNothingWhole first × HasNothingWhole second × (history ≡ [])) ⊎ HasKept config first second history

-- other pairs have the same gateway
with_newest : {config : GatewayConfig} {first second newest other : Contents} {history : List Event}
    (k : HasKept config first second history)
    → IsNewest newest other (kept_as k.turn config k.place k.saved (flat_map spelled k.records))
    → HasKept config newest other history
with_newest k is_newest = record {
  turn = k.turn;
  place = k.place;
  saved = k.saved;
  before = k.before;
  records = k.records;
  newest = is_newest;
  stands = k.stands;
  plain = k.plain;
  fits = k.fits;
  good = k.good;
  history_is = k.history_is;
}

-- it does not matter which pair is the first
turned : {config : GatewayConfig} {first second : Contents} {history : List Event} → Holds config first second history
    → Holds config second first history
turned (inl none) = inl (none.1, none.0, none.2)
turned (inr k) = inr (with_newest k (⊎_elim (λ n. inr n) (λ n. inl n) k.newest))

-- no circuit was configured again
plain_history : (config : GatewayConfig) (first second : Contents) (history : List Event)
    → Holds config first second history → AllByRecursion IsPlain history
plain_history config first second history (inl none) = rw none.2 tt
plain_history config first second history (inr k) =
    rw k.history_is (All-join IsPlain k.before (events k.records) k.plain (plain_events k.records))

-- what is left is newest of pairs that are known
left_newest : {files : LogState} {kept : Kept} {newest other : Contents} → LeavesKept files kept
    → files.newest.contents ≡ Some newest → files.other.contents ≡ Some other → IsNewest newest other kept
left_newest l one two = rw (one, two) at l.loaded

-- .. of a log of this configuration
newest_of : {config : GatewayConfig} {log : TrunkLogState} {place : ℕ} {gateway : Gateway} {records : List ℕ}
    {newest other : Contents} → (l : LeavesOf log place gateway records) → log.config ≡ config
    → log.files.newest.contents ≡ Some newest → log.files.other.contents ≡ Some other
    → IsNewest newest other (kept_as l.turn config place gateway records)
newest_of {place = place} {gateway = gateway} {records = records} {newest = newest} {other = other} l same one two =
    subst (λ (x : GatewayConfig). IsNewest newest other (kept_as l.turn x place gateway records)) same
    (left_newest l.left one two)

-- a gateway that is given a wait
waited : (config : GatewayConfig) (begun gateway : Gateway) (history : List Event) (wait : Option ℕ)
    → Waits wait begun gateway → HasHistory config begun history
    → HasHistory config gateway (history ++ given_wait wait)
waited config begun gateway history None waits stands = rw (append-nil, waits) stands
waited config begun gateway history (Some signals) waits stands = waits config history stands

-- all that has happened, by what is before a state and what is behind it
all_of : (history wait : List Event) (records first others : List Record) → records ≡ first ++ others
    → history ++ (wait ++ events records) ≡ ((history ++ wait) ++ events first) ++ events others
all_of history wait records first others are =
    sym (append_assoc history wait (events records))
    ∙ ap (λ (rs : List Record). (history ++ wait) ++ events rs) are
    ∙ ap (λ (es : List Event). (history ++ wait) ++ es) (flat_map-append events_of first others)
    ∙ sym (append_assoc (history ++ wait) (events first) (events others))

-- the pairs have a gateway behind all that happened to it
has_now : {config : GatewayConfig} {gateway : Gateway} {history : List Event} {newest other : Contents}
    → (turn place : ℕ) → HasHistory config gateway history → AllByRecursion IsPlain history → GatewayFits gateway
    → IsNewest newest other (kept_as turn config place gateway []) → Holds config newest other history
has_now {gateway = gateway} {history = history} turn place stands plain fits newest = inr (record {
  turn = turn;
  place = place;
  saved = gateway;
  before = history;
  records = [];
  newest = newest;
  stands = stands;
  plain = plain;
  fits = fits;
  good = tt;
  history_is = sym (append-nil history);
})

-- what a pair has of which a first checkpoint may be left
may_leave : (old new : Option Contents) (pair pair' : Contents) (kept : Kept) → old ≡ Some pair → new ≡ Some pair'
    → WhereKnown old new (MayLeave kept) → MayLeave kept pair pair'
may_leave None new pair pair' kept one two w = absurd (cc one)
may_leave (Some old) None pair pair' kept one two w = absurd (cc two)
may_leave (Some old) (Some new) pair pair' kept one two w =
    let same : old ≡ pair = cc one in
    let same' : new ≡ pair' = cc two in
    rw (same, same') at w.fact

module _ (left_law : LogsAreLeft) (go_on : LoadedGatewaysGoOn) (one_reading : AtMostOneReading)
    (config : GatewayConfig) (fits : ConfigFits config)
  where
    -- a start begins with the gateway that the files have
    pub begins_with : (disk : Disk) (history : List Event) (next : Gateway)
        → Holds config disk.first disk.second history → (first second : Contents)
        → ReadsWhatWasWritten disk first second → BeginsFrom first second config next
        → HasHistory config next history
    begins_with disk history next (inl none) first second given (inl from) =
        absurd (none_newest none.0 none.1 (newest_read given from.newest))
    begins_with disk history next (inl none) first second given (inr new) = rw none.2 new.1
    begins_with disk history next (inr k) first second given (inl from) =
        let same = one_newest (read_newest given k.newest) from.newest in
        rw k.history_is
        (resumes go_on one_reading config fits k.turn k.place k.saved next k.before k.records k.stands
        (configured_still config k.before k.plain) k.fits k.good from.kept same from.resumed)
    begins_with disk history next (inr k) first second given (inr new) =
        absurd (none_newest new.0.0 new.0.1 (read_newest given k.newest))

    module _ (disk : Disk) (history : List Event) (start : Start) (held : Holds config disk.first disk.second history)
        (is : IsStart config disk start)
      where
        -- what has happened to the gateway of a start
        pub stands_now : HasHistory config start.gateway (history ++ given_wait start.wait)
        stands_now =
            waited config is.begun start.gateway history start.wait is.waits
            (begins_with disk history is.begun held is.first is.second is.given is.begins)

        plain_now : AllByRecursion IsPlain (history ++ given_wait start.wait)
        plain_now =
            All-join IsPlain history (given_wait start.wait)
            (plain_history config disk.first disk.second history held) (plain_wait start.wait)

        -- its log was opened over what the files held
        is_over : IsOver disk start.opened.files
        is_over =
            rw is.over.files
            (over_read disk is.first_again is.second_again is.over.pair is.over.other is.over.found is.held.reads
            is.over.is is.held.first_is is.held.second_is)

        -- what it has logged, and the two pairs have
        abbrev pub Leaves : Contents → Contents → Type 0
        Leaves newest other = (logged : List Event) × HasLogged start logged
            × Holds config newest other (history ++ logged)

        -- nothing was logged
        left_nothing : (newest other : Contents) → HalfCheckpointed start.opened start.log start.gateway
            → Holds config newest other history → Leaves newest other
        left_nothing newest other half holds = ([], inl (half, refl), rw append-nil holds)

        -- the first checkpoint is there, and no record
        left_begun : (newest other : Contents) → HalfCheckpointed start.opened start.log start.gateway
            → start.calls ≡ [] → (turn place : ℕ)
            → IsNewest newest other (kept_as turn config place start.gateway []) → Leaves newest other
        left_begun newest other half none turn place is_newest =
            let taken : Some start.opened.taken ≡ Some [] = ap (λ (t : TapeState). t.taken) is.unused.new in (
              given_wait start.wait,
              inr (
                [],
                record {
                  took = [];
                  took_are = ap (λ (l : TrunkLogState). l.taken) half.same ∙ cc taken;
                  rest = [];
                  all = rw none refl;
                  whole = λ going whole. (refl, refl);
                  cut = inl refl;
                },
                sym (append-nil (given_wait start.wait)),
              ),
              has_now turn place stands_now plain_now half.fits is_newest,
            )

        -- the configuration of the log
        half_config : HalfCheckpointed start.opened start.log start.gateway → start.log.config ≡ config
        half_config half = ap (λ (l : TrunkLogState). l.config) half.same ∙ is.unused.config_is

        -- where nothing was kept, nothing has happened
        history_none : HasNothingWhole disk.first → HasNothingWhole disk.second → history ≡ []
        history_none none nor = elim held [
          | inl h ↦ h.2
          | inr k ↦ absurd (none_newest none nor k.newest)
        ]

        -- a start that was killed in its first checkpoint, in new files
        half_new : (newest other : Contents) → start.log.files.newest.contents ≡ Some newest
            → start.log.files.other.contents ≡ Some other
            → HalfCheckpointed start.opened start.log start.gateway → start.calls ≡ []
            → HasNothingWhole disk.first → HasNothingWhole disk.second
            → start.opened.files.newest.contents ≡ Some disk.second
            → start.opened.files.other.contents ≡ Some disk.first → Leaves newest other
        half_new newest other one two half none nothing nor was_newest was_other =
            let known : Some newest ≡ Some disk.second =
            sym one ∙ ap (λ (l : TrunkLogState). l.files.newest.contents) half.same ∙ was_newest in
            let stays : newest ≡ disk.second = cc known in
            let still : HasNothingWhole newest = rw stays nor in
            let empty = history_none nothing nor in
            elim (may_leave _ _ disk.first other _ was_other two half.written) [
              | inl same ↦ left_nothing newest other half (inl (still, rw same nothing, empty))
              | inr (inl blank) ↦ left_nothing newest other half (inl (still, blank_nothing blank, empty))
              | inr (inr has) ↦
                  left_begun newest other half none _ _
                  (inr (rw is.unused.config_is at has, λ k h. absurd (still k h)))
            ]

        -- .. behind what was kept
        half_kept : (newest other : Contents) → start.log.files.newest.contents ≡ Some newest
            → start.log.files.other.contents ≡ Some other
            → HalfCheckpointed start.opened start.log start.gateway → start.calls ≡ []
            → (kept : Kept) → IsNewest disk.first disk.second kept → StandsFor start.opened.files kept
            → Leaves newest other
        half_kept newest other one two half none kept is_newest stood = elim held [
          | inl h ↦ absurd (none_newest h.0 h.1 is_newest)
          | inr k ↦ elim (half.left kept stood) [
            | inl l ↦
                left_nothing newest other half
                (inr (with_newest k (subst (λ (x : Kept). IsNewest newest other x)
                (sym (one_newest k.newest is_newest)) (left_newest l one two))))
            | inr l ↦
                left_begun newest other half none l.turn _ (newest_of l (half_config half) one two)
          ]
        ]

        -- the next checkpoint can follow
        follows : CanFollow start.opened.files
        follows = elim is_over [
          | inl new ↦ inr (rw new.2 (λ kept h. absurd (new.1 kept h)))
          | inr k ↦ inl (k.0, k.2)
        ]

        -- what a start has logged that was killed behind calls
        abbrev pub LeavesServed : Contents → Contents → Type 0
        LeavesServed newest other = (records : List Record) × AreLogged start.log start.calls records
            × Holds config newest other (history ++ (given_wait start.wait ++ events records))

        served_left : (newest other : Contents) → start.log.files.newest.contents ≡ Some newest
            → start.log.files.other.contents ≡ Some other
            → WasServed start.gateway start.opened start.log start.calls → LeavesServed newest other
        served_left newest other one two served =
            let told = left_law config start.gateway start.opened start.log start.calls is.unused follows served in
            let records = told.1.0 in
            let left : LeavesBehind start.gateway start.log records = told.1.2 in (
              records,
              told.1.1,
              inr (record {
                turn = left.left.turn;
                place = left.place;
                saved = left.saved;
                before = (history ++ given_wait start.wait) ++ events left.first;
                records = left.others;
                newest = newest_of left.left told.0 one two;
                stands = left.stands config (history ++ given_wait start.wait) stands_now;
                plain = All-join IsPlain (history ++ given_wait start.wait) (events left.first) plain_now
                    (plain_events left.first);
                fits = left.fits;
                good = left.good;
                history_is = all_of history (given_wait start.wait) records left.first left.others left.records_are;
              }),
            )

        -- a start that was killed
        leaves : (newest other : Contents) → start.log.files.newest.contents ≡ Some newest
            → start.log.files.other.contents ≡ Some other → Leaves newest other
        leaves newest other one two = elim is.killed [
          | inl half ↦ elim is_over [
            | inl new ↦ half_new newest other one two half.0 half.1 new.0 new.1 new.2 new.3
            | inr k ↦ half_kept newest other one two half.0 half.1 k.0 k.1 k.2
          ]
          | inr served ↦
              let l = served_left newest other one two served in
              (given_wait start.wait ++ events l.0, inr (l.0, l.1, refl), l.2)
        ]

        -- what it leaves
        pub one_start : Leaves start.left.first start.left.second
        one_start = elim is.left [
          | inl h ↦ leaves start.left.first start.left.second h.0 h.1
          | inr h ↦
              let l = leaves start.left.second start.left.first h.0 h.1 in (l.0, l.1, turned l.2)
        ]

        -- .. behind calls
        pub served_start : WasServed start.gateway start.opened start.log start.calls
            → LeavesServed start.left.first start.left.second
        served_start served = elim is.left [
          | inl h ↦ served_left start.left.first start.left.second h.0 h.1 served
          | inr h ↦
              let l = served_left start.left.second start.left.first h.0 h.1 served in (l.0, l.1, turned l.2)
        ]

    -- starts, one behind the other
    all_starts : (starts : List Start) (disk disk' : Disk) (history : List Event) (next : Gateway)
        → Holds config disk.first disk.second history → AreStarts config disk starts disk'
        → (first second : Contents) → ReadsWhatWasWritten disk' first second → BeginsFrom first second config next
        → (logged : List Event) × HaveLogged starts logged × HasHistory config next (history ++ logged)
    all_starts [] disk disk' history next held same first second given begins =
        let there : Holds config disk'.first disk'.second history = rw same held in
        ([], refl, rw append-nil (begins_with disk' history next there first second given begins))
    all_starts (start ∷ starts) disk disk' history next held (is, are) first second given begins =
        let l = one_start disk history start held is in
        let rest = all_starts starts start.left disk' (history ++ l.0) next l.2 are first second given begins in (
          l.0 ++ rest.0,
          (l.0, rest.0, l.1, rest.1, refl),
          rw append_assoc at rest.2,
        )

-- the gateway with which the next start begins is a new one behind all that the starts before have logged
pub starts_go_on : LogsAreLeft → LoadedGatewaysGoOn → AtMostOneReading → StartsGoOn
starts_go_on left_law go_on one_reading config disk disk' starts next fits none nor are first second given begins =
    all_starts left_law go_on one_reading config fits starts disk disk' [] next (inl (none, nor, refl)) are
    first second given begins
