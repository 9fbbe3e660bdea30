-- What the files of a log leave behind any calls on it.
use Rattle.std.proofs.Common.{◌≡◌, ◌∙◌, ◌++◌, ◌∷◌, [], ℕ, true, false, Bool, List, refl, sym, ap, subst}
use Rattle.std.proofs.Common.{inl, inr, ⊎_elim, ◌⊎◌, append-nil, append_assoc, flat_map, Some, ◌^◌}
use Rattle.std.proofs.lemmas.Grind.{flat_map-append}
use Rattle.std.proofs.lemmas.Bool.{cases_lt}
use Rattle.std.specs.List.{AllByRecursion}
use Rattle.gw_switch.specs.Reconfigured.{HasTaken}
use Rattle.gw_switch.specs.Saved.{GatewayFits}
use Rattle.gw_switch.specs.declared.GatewayConfig.{GatewayConfig}
use Rattle.gw_switch.specs.declared.gateway.Gateway.{Gateway}
use Rattle.gw_records.specs.Records.{IsGood, Record, spelled}
use Rattle.gw_records.proofs.Sessions.{All-join}
use Rattle.gw_session.specs.Answers.{events}
use Rattle.gw_session.specs.Running.{all_kinds}
use Rattle.gw_session.specs.Tape.{TapeState}
use Rattle.gw_log.specs.Calls.{AreLogged, AreBehind, Call, HasCutIn, IsBehind, LeavesBehind, LogsAreLeft}
use Rattle.gw_log.specs.Calls.{WasCalled, WereCalled, records_in, records_of}
use Rattle.gw_log.specs.Logs.{Appended, CanFollow, Checkpointed, EndsFor, IsUnused, LeavesOf, Keeps, Shown}
use Rattle.gw_log.specs.Logs.{Takes, TrunkLogState, Uncheckpointed, kept_as}
use Rattle.gw_log.specs.declared.checkpointing.LogFault.TheVariants as faults
use Rattle.gw_log.specs.declared.checkpointing.LogFault.{LogFault}
use Rattle.gw_log.proofs.Keeping.{left_still}

-- the records of one call more
more_records : (done : List Call) (call : Call) → records_in (done ++ call ∷ []) ≡ records_in done ++ records_of call
more_records done call =
    flat_map-append records_of done (call ∷ [])
    ∙ ap (λ (rs : List Record). records_in done ++ rs) (append-nil (records_of call))

-- a log goes on: no write failed, it took these records, and its files have a gateway behind the first of them,
-- and the others
record Goes (gateway : Gateway) (log : TrunkLogState) (records : List Record) : Type 0 where
  going : log.ended ≡ false
  took : log.taken ≡ flat_map spelled records
  first : List Record
  others : List Record
  records_are : records ≡ first ++ others
  good : AllByRecursion (IsGood all_kinds) others
  place : ℕ
  saved : Gateway
  fits : GatewayFits saved
  stands : HasTaken gateway saved (events first)
  keeps : Keeps log place saved (flat_map spelled others)

-- a log takes no more: it ended, or a write failed; its files leave the gateway behind these records
record Stops (gateway : Gateway) (log : TrunkLogState) (calls : List Call) (records : List Record) : Type 0 where
  stopped : (log.ended ≡ true) ⊎ (log.broken ≡ true)
  took : List Record
  took_are : log.taken ≡ flat_map spelled took
  rest : List Record
  all : records_in calls ≡ took ++ rest
  cut : (records ≡ took) ⊎ HasCutIn calls took records
  left : LeavesBehind gateway log records

-- one or the other, behind calls
abbrev Stands : Gateway → TrunkLogState → List Call → Type 0
Stands gateway log done =
    Goes gateway log (records_in done) ⊎ ((records : List Record) × Stops gateway log done records)

-- files that stay leave what they left
still_behind : {gateway : Gateway} {log log' : TrunkLogState} {records : List Record} → LeavesBehind gateway log records
    → log'.files ≡ log.files → log'.config ≡ log.config → LeavesBehind gateway log' records
still_behind l files config = record {
  first = l.first;
  others = l.others;
  records_are = l.records_are;
  good = l.good;
  place = l.place;
  saved = l.saved;
  fits = l.fits;
  stands = l.stands;
  left = record { turn = l.left.turn; left = rw (files, config) l.left.left };
}

-- what a log that goes on leaves
module _ {gateway : Gateway} {log : TrunkLogState} {records : List Record} (g : Goes gateway log records) where
  -- its files stay
  leaves : {log' : TrunkLogState} → log'.files ≡ log.files → log'.config ≡ log.config
      → LeavesBehind gateway log' records
  leaves files config = record {
    first = g.first;
    others = g.others;
    records_are = g.records_are;
    good = g.good;
    place = g.place;
    saved = g.saved;
    fits = g.fits;
    stands = g.stands;
    left = left_still g.keeps files config;
  }

  -- they leave what they had
  leaves_old : {log' : TrunkLogState} → LeavesOf log' g.place g.saved (flat_map spelled g.others)
      → LeavesBehind gateway log' records
  leaves_old left = record {
    first = g.first;
    others = g.others;
    records_are = g.records_are;
    good = g.good;
    place = g.place;
    saved = g.saved;
    fits = g.fits;
    stands = g.stands;
    left = left;
  }

  -- .. and more records
  leaves_more : {log' : TrunkLogState} (more : List Record) → AllByRecursion (IsGood all_kinds) more
      → LeavesOf log' g.place g.saved (flat_map spelled g.others ++ flat_map spelled more)
      → LeavesBehind gateway log' (records ++ more)
  leaves_more more good left = record {
    first = g.first;
    others = g.others ++ more;
    records_are = ap (λ (rs : List Record). rs ++ more) g.records_are ∙ append_assoc g.first g.others more;
    good = All-join (IsGood all_kinds) g.others more g.good good;
    place = g.place;
    saved = g.saved;
    fits = g.fits;
    stands = g.stands;
    left = rw flat_map-append left;
  }

-- a gateway behind all records was saved, and is left
leaves_shown : {gateway shown : Gateway} {log : TrunkLogState} {records : List Record} (place : ℕ) → GatewayFits shown
    → HasTaken gateway shown (events records) → LeavesOf log place shown [] → LeavesBehind gateway log records
leaves_shown {shown = shown} {records = records} place fits stands left = record {
  first = records;
  others = [];
  records_are = sym (append-nil records);
  good = tt;
  place = place;
  saved = shown;
  fits = fits;
  stands = stands;
  left = left;
}

-- a log that ends at an append
ended_at : {log next : TrunkLogState} (octets : List ℕ) → EndsFor log next octets
    → (next.ended ≡ true) × (next.taken ≡ log.taken) × (next.config ≡ log.config)
ended_at octets (inl why) = (rw why.1 refl, rw why.1 refl, rw why.1 refl)
ended_at octets (inr why) = (rw why.2 refl, rw why.2 refl, rw why.2 refl)

module _ {gateway : Gateway} {log next : TrunkLogState} (done : List Call) where
  -- a call of no effect on a log that goes on
  goes_still : (call : Call) → records_of call ≡ [] → Goes gateway log (records_in done) → next ≡ log
      → Stands gateway next (done ++ call ∷ [])
  goes_still call none g same = rw same (inl (rw (more_records done call, none, append-nil) g))

  -- .. on one that takes no more
  stops_still : (call : Call) (records : List Record) → Stops gateway log done records → next.taken ≡ log.taken
      → next.files ≡ log.files → next.config ≡ log.config → (next.ended ≡ true) ⊎ (next.broken ≡ true)
      → Stands gateway next (done ++ call ∷ [])
  stops_still call records s taken files config stopped = inr (
    records,
    record {
      stopped = stopped;
      took = s.took;
      took_are = taken ∙ s.took_are;
      rest = s.rest ++ records_of call;
      all = more_records done call ∙ ap (λ (rs : List Record). rs ++ records_of call) s.all
          ∙ append_assoc s.took s.rest (records_of call);
      cut = ⊎_elim (λ e. inl e) (λ (c : HasCutIn done s.took records). inr (record {
        before = c.before;
        last = c.last;
        after = c.after ++ call ∷ [];
        calls_are = ap (λ (cs : List Call). cs ++ call ∷ []) c.calls_are
            ∙ append_assoc c.before (Call.Append c.last ∷ c.after) (call ∷ []);
        took_are = c.took_are;
        records_are = c.records_are;
      })) s.cut;
      left = still_behind s.left files config;
    },
  )

  -- a log that goes on is stopped, and has all records before the call
  stops_before : (call : Call) → Goes gateway log (records_in done) → next.taken ≡ log.taken
      → (next.ended ≡ true) ⊎ (next.broken ≡ true) → LeavesBehind gateway next (records_in done)
      → Stands gateway next (done ++ call ∷ [])
  stops_before call g taken stopped left = inr (
    records_in done,
    record {
      stopped = stopped;
      took = records_in done;
      took_are = taken ∙ g.took;
      rest = records_of call;
      all = more_records done call;
      cut = inl refl;
      left = left;
    },
  )

  -- .. or those of the append, too
  stops_with : (last : List Record) → Goes gateway log (records_in done) → next.taken ≡ log.taken
      → next.ended ≡ true → LeavesBehind gateway next (records_in done ++ last)
      → Stands gateway next (done ++ Call.Append last ∷ [])
  stops_with last g taken ended left = inr (
    records_in done ++ last,
    record {
      stopped = inl ended;
      took = records_in done;
      took_are = taken ∙ g.took;
      rest = last;
      all = more_records done (Call.Append last);
      cut = inr (record {
        before = done;
        last = last;
        after = [];
        calls_are = refl;
        took_are = refl;
        records_are = refl;
      });
      left = left;
    },
  )

  -- records were taken
  goes_taken : (more : List Record) → Goes gateway log (records_in done) → AllByRecursion (IsGood all_kinds) more
      → Takes log next (flat_map spelled more) → Stands gateway next (done ++ Call.Append more ∷ [])
  goes_taken more g good t = inl (record {
    going = ap (λ (l : TrunkLogState). l.ended) t.same ∙ g.going;
    took = ap (λ (l : TrunkLogState). l.taken) t.same
        ∙ ap (λ (octets : List ℕ). octets ++ flat_map spelled more) g.took
        ∙ sym (flat_map-append spelled (records_in done) more)
        ∙ ap (λ (rs : List Record). flat_map spelled rs) (sym (more_records done (Call.Append more)));
    first = g.first;
    others = g.others ++ more;
    records_are = more_records done (Call.Append more)
        ∙ ap (λ (rs : List Record). rs ++ more) g.records_are ∙ append_assoc g.first g.others more;
    good = All-join (IsGood all_kinds) g.others more g.good good;
    place = g.place;
    saved = g.saved;
    fits = g.fits;
    stands = g.stands;
    keeps = rw flat_map-append (t.kept g.place g.saved (flat_map spelled g.others) g.keeps);
  })

  -- records were appended to a log that goes on
  goes_on_append : (more : List Record) → Goes gateway log (records_in done) → AllByRecursion (IsGood all_kinds) more
      → Appended log next (flat_map spelled more) → Stands gateway next (done ++ Call.Append more ∷ [])
  goes_on_append more g good (inl over) = absurd (cc (over.0, g.going))
  goes_on_append more g good (inr (inl takes)) = goes_taken more g good takes
  goes_on_append more g good (inr (inr ends)) =
      let e = ended_at (flat_map spelled more) ends.cause in
      ⊎_elim (λ l. stops_before (Call.Append more) g e.1 (inl e.0) (leaves_old g l))
      (λ l. stops_with more g e.1 e.0 (leaves_more g more good l))
      (ends.left g.place g.saved (flat_map spelled g.others) g.keeps)

  -- a checkpoint of a gateway that is shown was written
  goes_on_shown : (shown : Gateway) → Goes gateway log (records_in done)
      → HasTaken gateway shown (events (records_in done)) → Checkpointed log next shown
      → Stands gateway next (done ++ Call.Show shown ∷ [])
  goes_on_shown shown g stands c = inl (rw (more_records done (Call.Show shown), append-nil) (record {
    going = ap (λ (l : TrunkLogState). l.ended) c.same ∙ g.going;
    took = ap (λ (l : TrunkLogState). l.taken) c.same ∙ g.took;
    first = records_in done;
    others = [];
    records_are = sym (append-nil (records_in done));
    good = tt;
    place = log.place;
    saved = shown;
    fits = c.fits;
    stands = stands;
    keeps = c.kept (inl (_, g.keeps.stands));
  }))

  -- .. or not
  not_shown : (shown : Gateway) (fault : LogFault) → Goes gateway log (records_in done)
      → HasTaken gateway shown (events (records_in done)) → Uncheckpointed log next shown fault
      → Stands gateway next (done ++ Call.Show shown ∷ [])
  not_shown shown faults.OutOfMemory g stands why = goes_still (Call.Show shown) refl g why.1
  not_shown shown faults.NoRoom g stands why = goes_still (Call.Show shown) refl g why.1
  not_shown shown faults.Write g stands h =
      let config : next.config ≡ log.config = ap (λ (l : TrunkLogState). l.config) h.same in
      let left : LeavesBehind gateway next (records_in done) =
      ⊎_elim (λ l. leaves_old g (record { turn = log.files.turn; left = rw config l }))
      (λ l. leaves_shown log.place h.fits stands l)
      (h.left (kept_as log.files.turn log.config g.place g.saved (flat_map spelled g.others)) g.keeps.stands) in
      stops_before (Call.Show shown) g (ap (λ (l : TrunkLogState). l.taken) h.same)
      (inr (ap (λ (l : TrunkLogState). l.broken) h.same)) left

  -- a call on a log that goes on
  goes_call : (call : Call) → Goes gateway log (records_in done) → IsBehind gateway (records_in done) call
      → WasCalled log next call → Stands gateway next (done ++ call ∷ [])
  goes_call (Call.Append more) g behind called = goes_on_append more g called.0 called.1
  goes_call (Call.Show shown) g behind called = elim (cases_lt log.files.len (2 ^ 20)) [
    | inl few ↦ goes_still (Call.Show shown) refl g (called.early (inr (inr few)))
    | inr many ↦ elim (called.late g.going g.keeps.whole many) [
      | inl c ↦ goes_on_shown shown g behind c
      | inr why ↦ not_shown shown why.0 g behind why.1
    ]
  ]
  goes_call Call.End g behind called =
      stops_before Call.End g (rw called refl) (inl (rw called refl)) (leaves g (rw called refl) (rw called refl))

  -- a call on one that takes no more
  stops_call : (call : Call) (records : List Record) → Stops gateway log done records → WasCalled log next call
      → Stands gateway next (done ++ call ∷ [])
  stops_call (Call.Append more) records s (good, inl over) =
      stops_still (Call.Append more) records s (rw (over.1) refl) (rw (over.1) refl) (rw (over.1) refl)
      (rw (over.1) s.stopped)
  stops_call (Call.Append more) records s (good, inr (inl t)) =
      absurd (⊎_elim (λ e. cc (e, t.going)) (λ b. cc (b, t.can.whole)) s.stopped)
  stops_call (Call.Append more) records s (good, inr (inr e)) = elim e.cause [
    | inl why ↦
        stops_still (Call.Append more) records s (rw (why.1) refl) (rw (why.1) refl) (rw (why.1) refl)
        (inl (rw (why.1) refl))
    | inr why ↦ absurd (⊎_elim (λ t. cc (t, e.going)) (λ b. cc (b, (why.0).whole)) s.stopped)
  ]
  stops_call (Call.Show shown) records s called =
      let same = called.early (⊎_elim (λ t. inl t) (λ b. inr (inl b)) s.stopped) in
      stops_still (Call.Show shown) records s (rw same refl) (rw same refl) (rw same refl) (rw same s.stopped)
  stops_call Call.End records s called =
      stops_still Call.End records s (rw called refl) (rw called refl) (rw called refl) (inl (rw called refl))

  -- a call on either
  any_call : (call : Call) → Stands gateway log done → IsBehind gateway (records_in done) call → WasCalled log next call
      → Stands gateway next (done ++ call ∷ [])
  any_call call (inl g) behind called = goes_call call g behind called
  any_call call (inr (records, s)) behind called = stops_call call records s called

-- what calls leave
abbrev Leaves : Gateway → TrunkLogState → List Call → Type 0
Leaves gateway log calls =
    (records : List Record) × AreLogged log calls records × LeavesBehind gateway log records

-- what a log leaves as it stands
as_it_stands : (gateway : Gateway) (log : TrunkLogState) (done : List Call) → Stands gateway log done
    → Leaves gateway log done
as_it_stands gateway log done (inl g) = (
  records_in done,
  record {
    took = records_in done;
    took_are = g.took;
    rest = [];
    all = sym (append-nil (records_in done));
    whole = λ going whole. (refl, refl);
    cut = inl refl;
  },
  leaves g refl refl,
)
as_it_stands gateway log done (inr (records, s)) = (
  records,
  record {
    took = s.took;
    took_are = s.took_are;
    rest = s.rest;
    all = s.all;
    whole = λ going whole. absurd (⊎_elim (λ e. cc (e, going)) (λ b. cc (b, whole)) s.stopped);
    cut = s.cut;
  },
  s.left,
)

-- what it leaves behind more calls
behind_calls : (gateway : Gateway) (log log' : TrunkLogState) (done calls : List Call) → Stands gateway log done
    → AreBehind gateway (records_in done) calls → WereCalled log log' calls → Leaves gateway log' (done ++ calls)
behind_calls gateway log log' done [] s behind same =
    rw (same, append-nil done) (as_it_stands gateway log done s)
behind_calls gateway log log' done (call ∷ calls) s behind (next, called, more) =
    subst (λ (cs : List Call). Leaves gateway log' cs) (append_assoc done (call ∷ []) calls)
    (behind_calls gateway next log' (done ++ call ∷ []) calls (any_call done call s behind.0 called)
    (rw (more_records done call) behind.1) more)

-- a log that was begun goes on
begun_goes : (config : GatewayConfig) (gateway : Gateway) (opened begun : TrunkLogState) → IsUnused config opened
    → CanFollow opened.files → Checkpointed opened begun gateway → Goes gateway begun []
begun_goes config gateway opened begun unused follows c =
    let taken : Some opened.taken ≡ Some [] = ap (λ (t : TapeState). t.taken) unused.new in
    record {
      going = ap (λ (l : TrunkLogState). l.ended) c.same ∙ ap (λ (t : TapeState). t.ended) unused.new;
      took = ap (λ (l : TrunkLogState). l.taken) c.same ∙ cc taken;
      first = [];
      others = [];
      records_are = refl;
      good = tt;
      place = opened.place;
      saved = gateway;
      fits = c.fits;
      stands = λ config before stood. rw append-nil stood;
      keeps = c.kept follows;
    }

-- a checkpoint that was not written leaves the configuration
config_unwritten : (log next : TrunkLogState) (shown : Gateway) (fault : LogFault)
    → Uncheckpointed log next shown fault → next.config ≡ log.config
config_unwritten log next shown faults.OutOfMemory why = rw (why.1) refl
config_unwritten log next shown faults.NoRoom why = rw (why.1) refl
config_unwritten log next shown faults.Write h = ap (λ (l : TrunkLogState). l.config) h.same

-- so does a gateway that is shown
config_shown : (log next : TrunkLogState) (shown : Gateway) (ended broken : Bool) → log.ended ≡ ended
    → log.broken ≡ broken → Shown log next shown → next.config ≡ log.config
config_shown log next shown true broken e b called = rw (called.early (inl e)) refl
config_shown log next shown false true e b called = rw (called.early (inr (inl b))) refl
config_shown log next shown false false e b called = elim (cases_lt log.files.len (2 ^ 20)) [
  | inl few ↦ rw (called.early (inr (inr few))) refl
  | inr many ↦ elim (called.late e b many) [
    | inl c ↦ ap (λ (l : TrunkLogState). l.config) c.same
    | inr why ↦ config_unwritten log next shown why.0 why.1
  ]
]

-- .. and any call
config_one : (log next : TrunkLogState) (call : Call) → WasCalled log next call → next.config ≡ log.config
config_one log next (Call.Append more) (good, inl over) = rw (over.1) refl
config_one log next (Call.Append more) (good, inr (inl takes)) = rw (takes.same) refl
config_one log next (Call.Append more) (good, inr (inr ends)) = (ended_at (flat_map spelled more) ends.cause).2
config_one log next (Call.Show shown) called = config_shown log next shown log.ended log.broken refl refl called
config_one log next Call.End called = rw called refl

-- so do calls
config_all : (log log' : TrunkLogState) (calls : List Call) → WereCalled log log' calls → log'.config ≡ log.config
config_all log log' [] same = rw same refl
config_all log log' (call ∷ calls) (next, called, more) =
    config_all next log' calls more ∙ config_one log next call called

-- the files of a log leave the gateway that it was begun with, behind the records that are in it
pub logs_are_left : LogsAreLeft
logs_are_left config gateway opened log calls unused follows served = (
  config_all served.begun log calls served.called
      ∙ ap (λ (l : TrunkLogState). l.config) served.checkpointed.same ∙ unused.config_is,
  behind_calls gateway served.begun log [] calls
      (inl (begun_goes config gateway opened served.begun unused follows served.checkpointed)) served.behind
      served.called,
)

-- the first of good records are good
first_good : (first rest : List Record) → AllByRecursion (IsGood all_kinds) (first ++ rest)
    → AllByRecursion (IsGood all_kinds) first
first_good [] rest good = tt
first_good (r ∷ first) rest good = (good.0, first_good first rest good.1)

-- the records of calls are good
pub called_good : (log log' : TrunkLogState) (calls : List Call) → WereCalled log log' calls
    → AllByRecursion (IsGood all_kinds) (records_in calls)
called_good log log' [] called = tt
called_good log log' (Call.Append records ∷ calls) (next, called, more) =
    All-join (IsGood all_kinds) records (records_in calls) called.0 (called_good next log' calls more)
called_good log log' (call ∷ calls) (next, called, more) = called_good next log' calls more

-- so are those in a log
pub logged_good : (log : TrunkLogState) (calls : List Call) (records : List Record) → AreLogged log calls records
    → AllByRecursion (IsGood all_kinds) (records_in calls) → AllByRecursion (IsGood all_kinds) records
logged_good log calls records are good = elim are.cut [
  | inl same ↦ rw same (first_good are.took are.rest (rw (are.all) at good))
  | inr c ↦
      let split : records_in calls ≡ records ++ records_in c.after =
      ap records_in c.calls_are ∙ flat_map-append records_of c.before (Call.Append c.last ∷ c.after)
      ∙ sym (append_assoc (records_in c.before) c.last (records_in c.after))
      ∙ ap (λ (rs : List Record). (rs ++ c.last) ++ records_in c.after) (sym c.took_are)
      ∙ ap (λ (rs : List Record). rs ++ records_in c.after) (sym c.records_are) in
      first_good records (records_in c.after) (rw split at good)
]
