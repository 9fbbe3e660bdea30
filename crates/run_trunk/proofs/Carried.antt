-- What a trunk and its clients have from a gateway that serves them.
use Rattle.std.proofs.Common.{◌≡◌, ◌++◌, ◌∷◌, ◌∙◌, ℕ, Option, Some, List, [], map, flat_map}
use Rattle.std.proofs.Common.{refl, sym, ap, arith, append-nil, Ok, Err, Result, IfOk, IfErr}
use Rattle.std.specs.List.{AllByRecursion}
use Rattle.std.specs.Io.KnownBytes.{Appends}
use Rattle.std.proofs.lemmas.List.Concat.{flat_map-append}
use Rattle.gw_switch.specs.declared.GatewayConfig.{GatewayConfig}
use Rattle.gw_switch.specs.declared.gateway.Gateway.{Gateway}
use Rattle.gw_switch.specs.Events.{CircuitEvent, Event, octets}
use Rattle.gw_switch.specs.Standing.{HasHistory}
use Rattle.gw_records.specs.declared.outcome.Totals.{Totals}
use Rattle.gw_records.specs.declared.outcome.RunFault.{RunFault}
use Rattle.gw_records.specs.declared.outcome.RunFault.TheVariants as faults
use Rattle.gw_records.specs.declared.records.RecordsEnd.{RecordsEnd}
use Rattle.gw_records.specs.declared.records.RecordsEnd.TheVariants as endings
use Rattle.gw_records.specs.Records.{Record, Reads, IsGood, spelled, end_of}
use Rattle.gw_records.specs.Streams.{AppendsBut}
use Rattle.gw_records.specs.Outcome.{SessionTo, FailsToWrite}
use Rattle.gw_records.proofs.Readings.{one_reading, more_keeps}
use Rattle.gw_session.specs.Answers.{events, events_of}
use Rattle.gw_session.specs.ServeLaws.{without_datagrams}
use Rattle.gw_session.specs.Serve as session
use Rattle.gw_session.specs.Serve.{SessionStreams, SessionTrace, ServesAll, ServesUntil, Served, written}
use Rattle.gw_session.specs.Serve.{events_through}
use Rattle.gw_session.specs.Serve.{served_kinds}
use Rattle.gw_session.specs.Tape.{TapeState}
use Rattle.gw_session.specs.World.{SessionState}
use Rattle.gw_session.proofs.ServeLaws.{events_are_told}
use Rattle.gw_trunk.specs.Bodies.RecordPosition.{Kind}
use Rattle.gw_trunk.specs.Bodies.{bodies, others, passed, to_clients, place_behind}
use Rattle.gw_trunk.specs.Pieces.{Woven, GivesWoven, IsServiceRecord, trunk_part, client_part, from_clients}
use Rattle.run_trunk.specs.Serving.{Carries, CarriesUntilWrite, CarriesUntil, Carried, commands_in, traffic}
use Rattle.gw_trunk.proofs.Passing.{passed-append, answered-append}
use Rattle.run_trunk.proofs.Written.{inputs-pass}

-- A record that is given is read in service.
given-good : (r : Record) → IsServiceRecord r → IsGood served_kinds r
given-good (Record.Trunk octets) given = (refl, omega (arith, given))
given-good (Record.Datagram circuit octets) given = cc (given.0)
given-good (Record.Command circuit command) given = given
given-good (Record.Codec circuit codec payload_type) given = given

-- .. and all that are given are.
all-good : (records : List Record) → AllByRecursion IsServiceRecord records
    → AllByRecursion (IsGood served_kinds) records
all-good [] given = tt
all-good (r ∷ records) given = (given-good r given.0, all-good records given.1)

-- Good records are read, and nothing behind them.
records-read : (records : List Record) → AllByRecursion (IsGood served_kinds) records
    → Reads served_kinds (flat_map spelled records) records endings.End
unfolding end_of
records-read records good = record { rest = []; whole = sym (append-nil _); good = good; ends = refl }

-- The first of records that are given are given.
first-given : (records more : List Record) → AllByRecursion IsServiceRecord (records ++ more)
    → AllByRecursion IsServiceRecord records
first-given [] more all = tt
first-given (r ∷ records) more all = (all.0, first-given records more all.1)

-- The octets of the trunk among octets and events are the first, and then those of the events.
octets-first : (xs : List ℕ) (es : List Event) → octets (map Event.Octet xs ++ es) ≡ xs ++ octets es
octets-first [] es = refl
octets-first (x ∷ xs) es = ap (λ (ys : List ℕ). x ∷ ys) (octets-first xs es)

-- The octets of the trunk in the events of records are the bodies of the T records.
octets-given : (records : List Record) → octets (events records) ≡ flat_map trunk_part records
octets-given [] = refl
octets-given (Record.Trunk xs ∷ records) =
    octets-first xs (events records) ∙ ap (λ (ys : List ℕ). xs ++ ys) (octets-given records)
octets-given (Record.Datagram circuit bytes ∷ records) = octets-given records
octets-given (Record.Command circuit command ∷ records) = octets-given records
octets-given (Record.Codec circuit codec payload_type ∷ records) = octets-given records

-- The datagrams among events are no octets of the trunk.
octets-without : (es : List Event) → octets (without_datagrams es) ≡ octets es
octets-without [] = refl
octets-without (Event.Octet o ∷ es) = ap (λ (ys : List ℕ). o ∷ ys) (octets-without es)
octets-without (Event.Given circuit (CircuitEvent.Datagram bytes) ∷ es) = octets-without es
octets-without (_ ∷ es) = octets-without es

-- .. and no commands.
commands-without : (es : List Event) → commands_in (without_datagrams es) ≡ commands_in es
commands-without [] = refl
commands-without (Event.Octet o ∷ es) = commands-without es
commands-without (Event.Given circuit (CircuitEvent.Datagram bytes) ∷ es) = commands-without es
commands-without (event ∷ es) = ap (λ (xs : List Event). event ∷ xs) (commands-without es)

-- Octets of the trunk before events are no commands.
commands-behind : (xs : List ℕ) (es : List Event) → commands_in (map Event.Octet xs ++ es) ≡ commands_in es
commands-behind [] es = refl
commands-behind (x ∷ xs) es = commands-behind xs es

-- The commands in the events of records that are given are the events of those of clients.
commands-given : (records : List Record) → AllByRecursion IsServiceRecord records
    → commands_in (events records) ≡ events (from_clients records)
commands-given [] given = refl
commands-given (Record.Trunk xs ∷ records) given =
    commands-behind xs (events records) ∙ commands-given records given.1
commands-given (Record.Datagram circuit bytes ∷ records) given = cc (given.0.0)
commands-given (Record.Command circuit command ∷ records) given =
    ap (λ (es : List Event). events_of (Record.Command circuit command) ++ es) (commands-given records given.1)
commands-given (Record.Codec circuit codec payload_type ∷ records) given =
    ap (λ (es : List Event). events_of (Record.Codec circuit codec payload_type) ++ es) (commands-given records given.1)

-- What is known of octets that grew from none is all of them.
appends-first : (old new : Option (List ℕ)) (all more : List ℕ) → old ≡ Some [] → new ≡ Some all
    → Appends old new more → all ≡ more
appends-first old new all more e f p = rw (e, f) at p

-- Records that are given were served by a gateway to which this had happened.
carried-records : {s s' : SessionState} {tape tape' : TapeState} {Had : Option (List ℕ) → List ℕ → Type 0}
    {Took : List ℕ → List ℕ
    → Type 0} {records : List Record}
    (config : GatewayConfig) (before : List Event) (heard asked sent told : List ℕ)
    → (p : SessionTrace written Had s s' tape tape' Took records) → HasHistory config s.gateway before
    → Woven heard asked records → AllByRecursion (IsGood served_kinds) records
    → sent ≡ bodies (written config before p.inputs) → told ≡ others (written config before p.inputs)
    → Carries config before s'.gateway tape tape' (traffic heard asked sent told)
carried-records {records = records} config before heard asked sent told p new woven good is tells =
    let all : AllByRecursion (IsGood served_kinds) (map session.input_record p.inputs) = rw (p.told_are) good in
    let weave : without_datagrams (events_through p.inputs) ≡ events records
    = events_are_told p.inputs all ∙ ap events (p.told_are) in
    record {
      happened = events_through p.inputs;
      stands = (p.follows.goes.hears config before new).stands;
      records = records;
      woven = woven;
      weave_is = weave;
      heard_are = sym (octets-without (events_through p.inputs)) ∙ ap octets weave ∙ octets-given records
          ∙ sym (woven.came_are);
      asked_are = sym (commands-without (events_through p.inputs)) ∙ ap commands_in weave
          ∙ commands-given records woven.good;
      sent_are = is ∙ (inputs-pass config before p.inputs all).1;
      told_are = tells ∙ (inputs-pass config before p.inputs all).2;
      recorded = p.follows.recorded;
    }

-- Around a session of a trunk: nothing was given or taken before it, and these octets were in it.
pub record SessionStreams-trunk (a a' : SessionStreams) (given taken : List ℕ) : Type 0 where
  pub unread : a.source.given ≡ Some []
  pub read : a'.source.given ≡ Some given
  pub untaken : a.sink.taken ≡ Some []
  pub took : a'.sink.taken ≡ Some taken

-- What came and went around a session of a trunk: what the source gave, and what the sink took, is made of it.
pub record Trunked (came asked went told given taken : List ℕ) : Type 0 where
  pub gives : GivesWoven came asked given
  pub went_are : went ≡ bodies taken
  pub told_are : told ≡ others taken

-- A session in which no write failed: it came to the end of the records, and carried all.
pub whole-session : {a a' : SessionStreams} {gateway gateway' : Gateway} {ending : RecordsEnd} (config : GatewayConfig)
    (before : List Event) (came asked went told given taken : List ℕ) → SessionStreams-trunk a a' given taken
    → Trunked came asked went told given taken → HasHistory config gateway before
    → SessionTo served_kinds a.source a'.source a.sink a'.sink
    (Served a a' gateway gateway' (λ first. Appends a.sink.taken a'.sink.taken)) ending
    → (ending ≡ endings.End) × Carries config before gateway' a.tape a'.tape (traffic came asked went told)
whole-session {ending = ending} config before came asked went told given taken around t new s =
    let w = t.gives in
    let octets-are : s.octets ≡ flat_map spelled w.records
    = sym (appends-first _ _ given s.octets around.unread around.read s.gives.gave) ∙ w.given_are in
    let all = records-read w.records (all-good w.records w.woven.good) in
    let one = one_reading served_kinds (flat_map spelled w.records) s.records w.records ending
    endings.End (rw octets-are at s.reads) all in
    let taken-is : taken ≡ written config before s.done.inputs
    = appends-first _ _ taken _ around.untaken around.took (s.done.took config before new) in
    let woven : Woven came asked s.records = rw (one.0) (w.woven) in (
      one.1,
      carried-records config before came asked went told s.done new woven s.reads.good
          (t.went_are ∙ ap bodies taken-is) (t.told_are ∙ ap others taken-is),
    )

-- A session in which a write failed: it carried the first records, and some of the octets did not go.
pub cut-session : {a a' : SessionStreams} {gateway gateway' : Gateway} (config : GatewayConfig) (before : List Event)
    (came asked went told given taken : List ℕ) → SessionStreams-trunk a a' given taken
    → Trunked came asked went told given taken → HasHistory config gateway before
    → FailsToWrite served_kinds a.source a'.source a.sink a'.sink (λ records. (totals : Totals)
    × Served a a' gateway gateway' (AppendsBut 0 a.sink.taken a'.sink.taken) totals records)
    → CarriesUntilWrite config before gateway' a.tape a'.tape (traffic came asked went told)
cut-session config before came asked went told given taken around t new f =
    let w = t.gives in
    let octets-are : f.octets ≡ flat_map spelled w.records
    = sym (appends-first _ _ given f.octets around.unread around.read f.gives.gave) ∙ w.given_are in
    let all = records-read w.records (all-good w.records w.woven.good) in
    let more = more_keeps served_kinds (flat_map spelled f.records) f.begins.rest f.records
    w.records endings.End endings.End (records-read f.records f.begins.good) (rw (← f.begins.whole, octets-are) all) in
    let behind = more.0 in
    let parts : w.records ≡ f.records ++ behind = more.1 in
    let served = f.begun.1 in
    let took = served.took config before new in
    let taken-is : taken ≡ took.written = appends-first _ _ taken _ around.untaken around.took took.appended in
    let both : written config before served.inputs ≡ taken ++ took.rest
    = took.whole ∙ ap (λ (xs : List ℕ). xs ++ took.rest) (sym taken-is) in
    let lost = passed (place_behind Kind taken) took.rest in
    let untold = to_clients (place_behind Kind taken) took.rest in
    let sent : went ++ lost ≡ bodies (written config before served.inputs)
    = rw (t.went_are) (sym (ap bodies both ∙ passed-append Kind taken took.rest)) in
    let tells : told ++ untold ≡ others (written config before served.inputs)
    = rw (t.told_are) (sym (ap others both ∙ answered-append Kind taken took.rest)) in
    record {
      heard = flat_map trunk_part f.records;
      unheard = flat_map trunk_part behind;
      came_are = w.woven.came_are ∙ ap (flat_map trunk_part) parts ∙ flat_map-append trunk_part f.records behind;
      obeyed = flat_map client_part f.records;
      unobeyed = flat_map client_part behind;
      asked_are = w.woven.asked_are ∙ ap (flat_map client_part) parts ∙ flat_map-append client_part f.records behind;
      lost = lost;
      untold = untold;
      carries = carried-records config before (flat_map trunk_part f.records) (flat_map client_part f.records)
          (went ++ lost) (told ++ untold) served new
          (record { good = first-given f.records behind (rw parts at w.woven.good); came_are = refl; asked_are = refl })
          f.begins.good sent tells;
    }

-- Records that spell no octets are none.
none-given : (came asked given : List ℕ) → GivesWoven came asked given → given ≡ [] → (came ≡ []) × (asked ≡ [])
none-given came asked given w none =
    let e : w.records ≡ [] = no-records w.records (sym w.given_are ∙ none) in
    (w.woven.came_are ∙ ap (flat_map trunk_part) e, w.woven.asked_are ∙ ap (flat_map client_part) e)
  where
    no-records : (records : List Record) → flat_map spelled records ≡ [] → records ≡ []
    no-records [] none = refl
    no-records (Record.Trunk xs ∷ records) none = cc
    no-records (Record.Datagram circuit xs ∷ records) none = cc
    no-records (Record.Command circuit command ∷ records) none = cc
    no-records (Record.Codec circuit codec payload_type ∷ records) none = cc

-- A session of a trunk until a fault.
until : {a a' : SessionStreams} (gateway gateway' : Gateway) (config : GatewayConfig) (before : List Event)
    (fault : RunFault)
    (came asked went told given taken : List ℕ) → SessionStreams-trunk a a' given taken
    → Trunked came asked went told given taken → HasHistory config gateway before
    → ServesUntil a a' gateway gateway' fault
    → CarriesUntil config before gateway' a.tape a'.tape (traffic came asked went told) fault
unfolding passed to_clients place_behind
until gateway gateway' config before faults.BadKind came asked went told given taken around t new s =
    let e = (whole-session config before came asked went told given taken around t new s.0).0 in cc
until gateway gateway' config before faults.BadCircuit came asked went told given taken around t new s =
    let e = (whole-session config before came asked went told given taken around t new s.0).0 in cc
until gateway gateway' config before faults.BadCommand came asked went told given taken around t new s =
    let e = (whole-session config before came asked went told given taken around t new s.0).0 in cc
until gateway gateway' config before faults.Truncated came asked went told given taken around t new s =
    let e = (whole-session config before came asked went told given taken around t new s.0.0).0 in cc
until gateway gateway' config before faults.Read came asked went told given taken around t new s =
    (whole-session config before came asked went told given taken around t new s.1).1
until gateway gateway' config before faults.Write came asked went told given taken around t new s =
    cut-session config before came asked went told given taken around t new s
until {a = a} {a' = a'} gateway gateway' config before faults.OutOfMemory came asked went told given taken around t new
    s =
    let unread : a'.source.given ≡ Some [] = ap (λ (b : SessionStreams). b.source.given) s.0 ∙ around.unread in
    let untaken : a'.sink.taken ≡ Some [] = ap (λ (b : SessionStreams). b.sink.taken) s.0 ∙ around.untaken in
    let none : given ≡ [] = let e = around.read in cc in
    let nothing : taken ≡ [] = let e = around.took in cc in
    let n = none-given came asked given t.gives none in
    rw (n.0, n.1, t.went_are ∙ ap bodies nothing, t.told_are ∙ ap others nothing) refl

-- A session of a trunk, however it ended.
pub carried : {a a' : SessionStreams} (gateway gateway' : Gateway) (config : GatewayConfig) (before : List Event)
    (end : Result Totals RunFault) (came asked went told given taken : List ℕ) → SessionStreams-trunk a a' given taken
    → Trunked came asked went told given taken → HasHistory config gateway before
    → IfOk end (ServesAll a a' gateway gateway')
    → IfErr end (ServesUntil a a' gateway gateway')
    → Carried config before gateway' a.tape a'.tape (traffic came asked went told) end
carried gateway gateway' config before (Ok totals) came asked went told given taken around t new ok err =
    (whole-session config before came asked went told given taken around t new ok.ends.0).1
carried gateway gateway' config before (Err fault) came asked went told given taken around t new ok err =
    until gateway gateway' config before fault came asked went told given taken around t new err
