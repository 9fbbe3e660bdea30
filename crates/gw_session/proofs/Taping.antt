-- Events recorded one after another.
use Rattle.gw_session.proofs.Common.{◌≡◌, ◌^◌, ◌≤◌, ℕ, Bool, true, false, inl, inr, None, Result, List, rules}
use Rattle.gw_session.proofs.Common.{common_steps, Some, [], ◌∷◌, ◌++◌, length, drop, map, IfErr, refl, sym, ap, ◌∙◌}
use Rattle.gw_session.proofs.Common.{append_assoc, append-nil, arith, Appends, map-append, drop_all, flat_map-append}
use Rattle.gw_session.proofs.Common.{Event, Record, IsGood, spelled, RunFault, SinkState, FailsAfterPrefix}
use Rattle.gw_session.proofs.Common.{Appends-none, Appends-join, events, events_of, all_kinds, Turn, of_circuit}
use Rattle.gw_session.proofs.Common.{arrivals, coming, events_of_turns, RecordsBehind, TapeState, Recorded, RecordedBut}
use Rattle.gw_session.proofs.Common.{OnOk, is_err, AppendsPrefix-join, HasEnded, HasLong, WritesRecords, Taping, taping}
use Rattle.gw_session.proofs.Common.{Batches, RecordsAll, flat_map, Datagram, Act, Learns}
use Rattle.std.proofs.lemmas.List.Elements.{Contains-append_left, Contains-append_right, Contains-push}
use Rattle.gw_session.proofs.Receiving.{of_more}
use Rattle.gw_records.proofs.Sessions.{All-join}

-- the tape took nothing of these events
took_none : (a b : TapeState) (es : List Event) → b.taken ≡ a.taken
    → (b.ended ≡ false → (es ≡ []) × (b.failures ≡ a.failures))
    → (a.ended ≡ false → b.ended ≡ true → HasLong es) → (a.ended ≡ true → b ≡ record a { acts = b.acts })
    → Recorded a b es
took_none a b es same whole cause stays = grind (arith, Appends-none a.taken)

-- nothing happened
pub recorded_none : (a : TapeState) → Recorded a a []
recorded_none a = took_none a a [] refl (λ e. (refl, refl)) (λ e f. cc) (λ e. refl)

-- a tape that has ended stays so
pub recorded_over : (a : TapeState) (es : List Event) → a.ended ≡ true → Recorded a a es
recorded_over a es over = took_none a a es refl (λ f. cc) (λ e f. cc) (λ e. refl)

-- a tape ends at a datagram that is too long
pub recorded_long : (a b : TapeState) (circuit : ℕ) (bytes : List ℕ) → HasEnded a b → 2 ^ 16 ≤ length bytes
    → Recorded a b (Event.Given circuit (Datagram bytes) ∷ [])
recorded_long a b circuit bytes p long =
    took_none a b _ p.1 (λ f. cc)
    (λ e f. (circuit, bytes, Contains-push [] (Event.Given circuit (Datagram bytes)), long)) (λ e. rw (p.3 e) refl)

-- events, and then others
joined : (a b c : TapeState) (es fs : List Event) (ended : Bool) → b.ended ≡ ended → Recorded a b es → Recorded b c fs
    → Recorded a c (es ++ fs)
joined a b c es fs true e p q = search (rules, append_assoc, Contains-append_left)
joined a b c es fs false e p q =
    let w = p.whole e in
    let here : es ≡ events p.records = rw w.0 at p.events_are ∙ append-nil (events p.records) in
    let octets = flat_map-append spelled p.records q.records in
    record {
      records = p.records ++ q.records;
      good = All-join (IsGood all_kinds) p.records q.records p.good q.good;
      lost = q.lost;
      events_are = ap (λ (xs : List Event). xs ++ fs) here ∙ ap (λ (xs : List Event). events p.records ++ xs)
          q.events_are ∙ sym (append_assoc (events p.records) (events q.records) q.lost)
          ∙ ap (λ (xs : List Event). xs ++ q.lost) (sym (flat_map-append events_of p.records q.records));
      took = AppendsPrefix-join _ _ _ _ _ _ w.1 q.took octets;
      whole = λ f. ((q.whole f).0, rw octets (Appends-join _ _ _ _ _ w.1 (q.whole f).1), (q.whole f).2 ∙ w.2);
      cause = λ x y. elim (q.cause e y) [
        | inl failed ↦ inl (omega (arith, failed, w.2))
        | inr long ↦ inr (long.0, long.1, Contains-append_right es fs _ long.2, long.3)
      ];
      stays = grind (arith, common_steps);
    }

-- events that were recorded, and then others
pub recorded_join : (a b c : TapeState) (es fs : List Event) → Recorded a b es → Recorded b c fs
    → Recorded a c (es ++ fs)
recorded_join a b c es fs p q = joined a b c es fs b.ended refl p q

-- events were recorded, and then the tape was told of acts
pub recorded_told : (a b c : TapeState) (es : List Event) (acts : List Act) → Recorded a b es → Learns b c acts
    → Recorded a c es
recorded_told a b c es acts p q = grind (arith, append-nil es)

-- a tape was told of acts, and then events were recorded
pub told_recorded : (a b c : TapeState) (es : List Event) (acts : List Act) → Learns a b acts → Recorded b c es
    → Recorded a c es
told_recorded a b c es acts p q = grind (arith, common_steps)

-- the octets of records were written whole, or not, and the tape ended
pub records_written : (old new : Bool) (s s' : SinkState) (octets : List ℕ)
    (result : Result (Unit {0}) RunFault) (fault : RunFault) → old ≡ false → new ≡ is_err result
    → OnOk result (Appends s.taken s'.taken octets) → OnOk result (s'.failures ≡ s.failures)
    → IfErr result (λ e. (e ≡ fault) × FailsAfterPrefix s s' octets)
    → WritesRecords (record { ended = old; failures = s.failures; taken = s.taken; acts = None })
    (record { ended = new; failures = s'.failures; taken = s'.taken; acts = None }) octets
records_written old new s s' octets result fault going up took same broke = search rules

-- a tape that has ended writes no records
pub records_over : (a : TapeState) (octets : List ℕ) → a.ended ≡ true → WritesRecords a a octets
records_over a octets over = λ records spelled-are. recorded_over a (events records) over

-- the octets of one record were written
pub one_written : (a b : TapeState) (r : Record) (octets : List ℕ) → IsGood all_kinds r → octets ≡ spelled r
    → WritesRecords a b octets → Recorded a b (events_of r)
one_written a b r octets good e w = rw (append-nil (events_of r)) at (w (r ∷ []) (record {
  good = (good, tt);
  octets_are = e ∙ sym (append-nil (spelled r));
}))

-- no octets spell no record
spells_none : (records : List Record) → flat_map spelled records ≡ [] → records ≡ []
spells_none [] e = refl
spells_none (Record.Trunk octets ∷ records) e = cc
spells_none (Record.Datagram circuit octets ∷ records) e = cc
spells_none (Record.Command circuit command ∷ records) e = cc
spells_none (Record.Codec circuit codec payload_type ∷ records) e = cc

-- nothing happened to the batch
pub batches_none : (tape : TapeState) (batch batch' : List ℕ) → batch' ≡ batch
    → Batches (taping tape batch) (taping tape batch') []
batches_none tape batch batch' same = λ before s. record {
  first = [];
  recorded = recorded_none tape;
  acts = refl;
  after = before;
  batch_is = record { good = s.good; octets_are = same ∙ s.octets_are };
  all = append-nil (events before);
}

-- one record more is in the batch
pub batches_more : (tape : TapeState) (batch batch' : List ℕ) (r : Record) → IsGood all_kinds r
    → batch' ≡ batch ++ spelled r → Batches (taping tape batch) (taping tape batch') (events_of r)
batches_more tape batch batch' r good e = λ before s. record {
  first = [];
  recorded = recorded_none tape;
  acts = refl;
  after = before ++ r ∷ [];
  batch_is = grind (arith, All-join (IsGood all_kinds) before (r ∷ []) s.good (good, tt), flat_map-append, append-nil);
  all = rw (flat_map-append, append-nil) refl;
}

-- the batch was recorded, and nothing is in it
pub batches_written : (a b : TapeState) (batch batch' : List ℕ) → WritesRecords a b batch → b.acts ≡ a.acts
    → batch' ≡ [] → Batches (taping a batch) (taping b batch') []
batches_written a b batch batch' w acts none = grind (arith, common_steps)

-- events were recorded while nothing was in the batch
pub batches_recorded : (a b : TapeState) (batch batch' : List ℕ) (es : List Event) → batch ≡ [] → batch' ≡ []
    → Recorded a b es → b.acts ≡ a.acts → Batches (taping a batch) (taping b batch') es
batches_recorded a b batch batch' es none none' p acts = search (rules, spells_none, append-nil)

-- events, and then others
pub batches_join : (t u v : Taping) (es fs : List Event) → Batches t u es → Batches u v fs → Batches t v (es ++ fs)
batches_join t u v es fs p q = λ before s.
    let x = p before s in
    let y = q x.after x.batch_is in
    record {
      first = x.first ++ y.first;
      recorded = recorded_join t.tape u.tape v.tape x.first y.first x.recorded y.recorded;
      acts = y.acts ∙ x.acts;
      after = y.after;
      batch_is = y.batch_is;
      all = sym (append_assoc (events before) es fs) ∙ ap (λ (xs : List Event). xs ++ fs) x.all
          ∙ append_assoc x.first (events x.after) fs ∙ ap (λ (xs : List Event). x.first ++ xs) y.all
          ∙ sym (append_assoc x.first y.first (events y.after));
    }

-- events, and then all of the batch was recorded
pub records_all : (t u : Taping) (c : TapeState) (es : List Event) → Batches t u es → WritesRecords u.tape c u.batch
    → c.acts ≡ u.tape.acts → RecordsAll t c es
records_all t u c es p w acts = λ before s.
    let x = p before s in (
      rw (x.all) (recorded_join t.tape u.tape c x.first (events x.after) x.recorded (w x.after x.batch_is)),
      acts ∙ x.acts,
    )

-- no datagram came yet
pub behind_none : (a : Taping) (heard : List ℕ) (recorded : ℕ) → recorded ≤ length heard
    → RecordsBehind a a heard recorded recorded []
behind_none a heard recorded within =
    grind (arith, batches_none a.tape a.batch a.batch refl, append-nil (map Event.Octet (drop recorded heard)))

-- one datagram more came
pub behind_more : (a b c : Taping) (heard fresh : List ℕ) (r r' n : ℕ) (circuit : ℕ) (came : List (List ℕ))
    (d : List ℕ) → RecordsBehind a b heard r r' (coming (of_circuit (Some circuit) came)) → fresh ≡ drop r' heard
    → n ≡ length heard → Batches b c (map Event.Octet fresh ++ Event.Given circuit (Datagram d) ∷ [])
    → RecordsBehind a c heard r n (coming (of_circuit (Some circuit) (came ++ d ∷ [])))
behind_more a b c heard fresh r r' n circuit came d p e all q =
    let D = Event.Given circuit (Datagram d) ∷ [] in
    let O = map Event.Octet fresh in
    let more = sym (map-append (λ (x : ℕ × List ℕ). Event.Given x.0 (Datagram x.1)) (of_circuit (Some circuit) came)
    ((circuit, d) ∷ [])) ∙ ap coming (of_more circuit came d) in
    record {
      within = omega (arith, all);
      but = (
        p.but.0 ++ (O ++ D),
        batches_join a b c p.but.0 (O ++ D) p.but.1 q,
        rw (drop_all n heard (omega (arith, all)), append-nil, ← more, e)
            (rw (← append_assoc (map Event.Octet (drop r heard)) _ D, p.but.2, append_assoc)),
      );
    }

-- the octet of a turn is heard
pub turn_recorded : (a b : Taping) (heard : List ℕ) (r r' : ℕ) (t : Turn)
    → RecordsBehind a b heard r r' (coming (arrivals t))
    → RecordedBut a b (map Event.Octet (drop r heard) ++ events_of_turns (t ∷ [])) (drop r' heard ++ t.octet ∷ [])
turn_recorded a b heard r r' t p = grind (arith, common_steps)

-- events, and then others, with octets that were recorded later
pub but_more : (a b c : Taping) (es fs : List Event) (fresh left : List ℕ) → RecordedBut a b es fresh
    → RecordedBut b c (map Event.Octet fresh ++ fs) left → RecordedBut a c (es ++ fs) left
but_more a b c es fs fresh left p q = (
  p.0 ++ q.0,
  batches_join a b c p.0 q.0 p.1 q.1,
  ap (λ (xs : List Event). xs ++ fs) p.2 ∙ rw (append_assoc, q.2, append_assoc),
)

-- events with octets that were recorded later, and then these octets
pub but_none : (a : TapeState) (b : Taping) (c : TapeState) (es : List Event) (fresh : List ℕ)
    → RecordedBut (taping a []) b es fresh → RecordsAll b c (map Event.Octet fresh)
    → Recorded a c es × (c.acts ≡ a.acts)
but_none a b c es fresh p q =
    let x = p.1 [] (record { good = tt; octets_are = refl }) in
    let O = map Event.Octet fresh in
    let y = q x.after x.batch_is in (
      rw (p.2, x.all, append_assoc) (recorded_join a b.tape c x.first (events x.after ++ O) x.recorded y.0),
      y.1 ∙ x.acts,
    )
