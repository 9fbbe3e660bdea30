-- A replay of a recording that was cut at any octet recovers the state behind its whole records.
use Rattle.gw_session.proofs.Common.{◌≡◌, ℕ, true, false, List, [], ◌∷◌, ◌++◌, refl, sym, ap, common_steps, ◌∙◌}
use Rattle.gw_session.proofs.Common.{append_assoc, append-nil, arith, AllByRecursion, flat_map, flat_map-append}
use Rattle.gw_session.proofs.Common.{append_cancel_left, Result, Ok, Err, Option, Some, None, Appends, GatewayConfig}
use Rattle.gw_session.proofs.Common.{Gateway, Event, HasHistory, Totals, RunFault, Record, IsGood, spelled, Reads}
use Rattle.gw_session.proofs.Common.{end_of, events, events_of, events_through, render, replies_to, all_kinds}
use Rattle.gw_session.proofs.Common.{SourceState, SinkState, Recorded, TapeState, RunsThrough, SessionTo, MatchResult}
use Rattle.gw_session.specs.Running.{RunsAll, RunsUntil}
use Rattle.gw_records.specs.declared.outcome.RunFault.TheVariants as faults
use Rattle.gw_records.specs.declared.records.RecordsEnd.{RecordsEnd}
use Rattle.gw_records.specs.declared.records.RecordsEnd.TheVariants as endings
use Rattle.gw_records.specs.Records.{is_open}
use Rattle.gw_records.proofs.Readings.{one_reading, more_keeps}
use Rattle.std.proofs.KnownBytes.{Appends-nil}
use Rattle.gw_session.specs.Recovery.{HasRecorded, IsGivenOnly, CutRecordingsRecover}
use Rattle.gw_session.proofs.ReadBack.{reads_all}
use Rattle.gw_session.proofs.OpenEnds.{cut_open}
use Rattle.gw_session.proofs.RunAlike.{lived}

-- what a run over these octets did, whatever ended it
record WentThrough (octets : List ℕ) (gateway gateway' : Gateway) (sink sink' : SinkState) : Type 0 where
  records : List Record
  ending : RecordsEnd
  reads : Reads all_kinds octets records ending
  done : (config : GatewayConfig) (before : List Event) → HasHistory config gateway before
      → HasHistory config gateway' (before ++ events records)
      × Appends sink.taken sink'.taken (render records (replies_to config before records))

module _ {octets : List ℕ} {gateway gateway' : Gateway} {source source' : SourceState} {sink sink' : SinkState}
    (only : IsGivenOnly octets source source' sink sink')
  where
    -- a session over records did so
    session_went : (ending : RecordsEnd)
        → SessionTo all_kinds source source' sink sink' (RunsThrough gateway gateway' sink sink') ending
        → WentThrough octets gateway gateway' sink sink'
    session_went ending s = grind (arith, common_steps)

    -- so did a run, whatever ended it
    went : (end : Result Totals RunFault) → MatchResult end (RunsAll gateway gateway' source source' sink sink')
        (RunsUntil gateway gateway' source source' sink sink') → WentThrough octets gateway gateway' sink sink'
    unfolding end_of
    went (Ok totals) h = session_went _ h.ends.0
    went (Err faults.BadKind) h = session_went _ h.0
    went (Err faults.BadCircuit) h = session_went _ h.0
    went (Err faults.BadCommand) h = session_went _ h.0
    went (Err faults.Truncated) h = session_went _ h.0.0
    went (Err faults.Read) h = session_went _ h.1
    went (Err faults.Write) h = absurd (omega (arith, h.counted, only.no_write))
    went (Err faults.OutOfMemory) h =
        let none : Some octets ≡ Some [] = sym only.given ∙ ap (λ (s : SourceState). s.given) h.1 ∙ only.begun in
        let empty : octets ≡ [] = cc in
        record {
          records = [];
          ending = endings.End;
          reads = rw empty (record { rest = []; whole = refl; good = tt; ends = refl });
          done = λ config before stood. (grind (arith, append-nil, Appends-nil sink.taken));
        }

-- octets behind good records are read behind them
reads_behind : (passed records : List Record) (octets : List ℕ) (ending : RecordsEnd)
    → AllByRecursion (IsGood all_kinds) passed
    → Reads all_kinds octets records ending
    → Reads all_kinds (flat_map spelled passed ++ octets) (passed ++ records) ending
reads_behind passed records octets ending good r = grind (arith, common_steps)

-- the last of good records are good
good_behind : (records later : List Record) → AllByRecursion (IsGood all_kinds) (records ++ later)
    → AllByRecursion (IsGood all_kinds) later
good_behind [] later good = good
good_behind (r ∷ records) later good = good_behind records later good.1

-- octets that begin with a good record have no end there
no_end_there : (octets : List ℕ) (r : Record) (rs : List Record) (o : Option RecordsEnd)
    → Reads all_kinds octets (r ∷ rs) endings.End → end_of all_kinds octets ≡ o → o ≡ None
no_end_there octets r rs None reads e = refl
no_end_there octets r rs (Some ending) reads e =
    let none : Reads all_kinds octets [] ending = record { rest = octets; whole = refl; good = tt; ends = e } in
    let once = one_reading all_kinds octets [] (r ∷ rs) ending endings.End none reads in
    absurd cc

-- the first octets of good records end as octets do to which more may come
open_start : (rest more : List ℕ) (records : List Record) (ending : RecordsEnd)
    → AllByRecursion (IsGood all_kinds) records → rest ++ more ≡ flat_map spelled records
    → end_of all_kinds rest ≡ Some ending → is_open ending ≡ true
unfolding end_of
open_start rest more (r ∷ records) ending good e h =
    let none = no_end_there (rest ++ more) r records (end_of all_kinds (rest ++ more))
    (rw e (reads_all (r ∷ records) good)) refl in
    cut_open all_kinds rest more ending none h
open_start [] more [] ending good e h = let same : ending ≡ endings.End = cc in rw same refl
open_start (x ∷ rest) more [] ending good e h = absurd cc

-- a cut inside good records leaves an end that more octets may change
open_end : (records : List Record) (octets more : List ℕ) (rs : List Record) (ending : RecordsEnd)
    → AllByRecursion (IsGood all_kinds) records → octets ++ more ≡ flat_map spelled records
    → Reads all_kinds octets rs ending → is_open ending ≡ true
open_end records octets more rs ending good e r =
    let later = more_keeps all_kinds octets more rs records ending endings.End r (rw e (reads_all records good)) in
    let whole : flat_map spelled rs ++ (r.rest ++ more) ≡ flat_map spelled rs ++ flat_map spelled later.0 =
    sym (append_assoc (flat_map spelled rs) r.rest more) ∙ ap (λ (xs : List ℕ). xs ++ more) (sym r.whole) ∙ e
    ∙ ap (λ (all : List Record). flat_map spelled all) later.1 ∙ flat_map-append spelled rs later.0 in
    let behind = append_cancel_left (flat_map spelled rs) (r.rest ++ more) (flat_map spelled later.0) whole in
    open_start r.rest more later.0 ending (good_behind rs later.0 (rw (← later.1) good)) behind r.ends

-- What was recorded, read up to a cut: its whole records are the first events that happened.
pub record CutReads (tape' : TapeState) (happened : List Event) (passed records : List Record) (behind : List ℕ)
    (ending : RecordsEnd) : Type 0 where
  pub later : List Event
  pub first : happened ≡ events (passed ++ records) ++ later
  pub cut : is_open ending ≡ true
  pub all : tape'.ended ≡ false → behind ≡ [] → (ending ≡ endings.End) × (later ≡ [])

-- so it is, of every session that was recorded
pub cut_reads : (tape tape' : TapeState) (happened : List Event) (passed records : List Record) (octets behind : List ℕ)
    (ending : RecordsEnd) → Recorded tape tape' happened → HasRecorded tape tape' passed octets behind
    → Reads all_kinds octets records ending → CutReads tape' happened passed records behind ending
cut_reads tape tape' happened passed records octets behind ending p has read =
    let first = flat_map spelled passed in
    let written : first ++ (octets ++ behind) ≡ p.took.written = rw (has.empty, has.took) at p.took.appended in
    let all = reads_all p.records p.good in
    let reads = reads_behind passed records octets ending has.good read in
    let longer : flat_map spelled p.records ≡ (first ++ octets) ++ (behind ++ p.took.rest) =
    p.took.whole ∙ ap (λ (xs : List ℕ). xs ++ p.took.rest) (sym written)
    ∙ append_assoc first (octets ++ behind) p.took.rest
    ∙ ap (λ (xs : List ℕ). first ++ xs) (append_assoc octets behind p.took.rest)
    ∙ sym (append_assoc first octets (behind ++ p.took.rest)) in
    let more = more_keeps all_kinds (first ++ octets) (behind ++ p.took.rest) (passed ++ records) p.records ending
    endings.End reads (rw longer at all) in
    record {
      later = events more.0 ++ p.lost;
      first = p.events_are ∙ ap (λ (rs : List Record). events rs ++ p.lost) more.1
          ∙ ap (λ (es : List Event). es ++ p.lost) (flat_map-append events_of (passed ++ records) more.0)
          ∙ append_assoc (events (passed ++ records)) (events more.0) p.lost;
      cut = open_end p.records (first ++ octets) (behind ++ p.took.rest) (passed ++ records) ending p.good
          (sym longer) reads;
      all = λ going nothing.
          let v = p.whole going in
          let taken : first ++ (octets ++ behind) ≡ flat_map spelled p.records = rw (has.empty, has.took) at v.1 in
          let same : first ++ octets ≡ flat_map spelled p.records =
          ap (λ (xs : List ℕ). first ++ xs) (sym (append-nil octets))
          ∙ ap (λ (xs : List ℕ). first ++ (octets ++ xs)) (sym nothing) ∙ taken in
          let once = one_reading all_kinds (first ++ octets) (passed ++ records) p.records ending endings.End reads
          (rw (← same) at all) in
          let no_more = append_cancel_left (passed ++ records) more.0 []
          (sym more.1 ∙ sym once.0 ∙ sym (append-nil (passed ++ records))) in
          (once.1, rw no_more v.0);
    }

-- a replay of a recording that was cut at any octet recovers the state behind its whole records
pub recover : CutRecordingsRecover
recover source source' sink sink' saved recovered ended replayed a a' gateway live end passed octets behind config
    before served has only stood stood_saved =
    let l = lived a a' gateway live end config before stood served in
    let w = went only ended replayed in
    let done = w.done config (before ++ events passed) stood_saved in
    let c = cut_reads a.tape a'.tape (events_through l.inputs) passed w.records octets behind w.ending l.recorded has
    w.reads in
    record {
      records = w.records;
      ending = w.ending;
      reads = w.reads;
      cut = c.cut;
      stands = rw (flat_map-append events_of passed w.records, ← append_assoc before (events passed) (events w.records))
          done.0;
      took = done.1;
      later = c.later;
      live_stands = rw (← c.first) l.stands;
      all = λ whole. c.all whole.0 whole.1;
    }
