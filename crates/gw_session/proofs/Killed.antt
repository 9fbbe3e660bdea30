-- However a session is cut off, what it gave out is the beginning of what answers its log.
use Rattle.gw_session.proofs.Common.{◌≡◌, ◌⊎◌, inl, inr, ℕ, List, [], ◌∷◌, ◌++◌, length, refl, sym, ap, arith}
use Rattle.gw_session.proofs.Common.{◌∙◌, append_assoc, append-nil, flat_map, Option, None, Some, false}
use Rattle.gw_session.proofs.Common.{Bool, length-append, nil_from_length, Appends, Extends}
use Rattle.gw_session.proofs.Common.{AllByRecursion, GatewayConfig, Event, HasHistory, Record, Reads, spelled}
use Rattle.gw_session.proofs.Common.{events, events_of, all_kinds, SessionInput, SessionState, events_in, turns}
use Rattle.gw_session.proofs.Common.{events_through, packets_for, written, answer_to, LeavesOut, TurnsTrace}
use Rattle.gw_session.proofs.Common.{given_by, counted}
use Rattle.gw_session.proofs.Common.{Recorded, TapeState, Act, Gone, keeps_at, answers_at, AreActs, Gateway}
use Rattle.gw_session.proofs.Common.{StandsBehind, flat_map-append, append_cancel_left}
use Rattle.gw_session.specs.Killed.{had_taken, had_gone, IsGoing, at_last, at_next, new_tape, nothing_gone}
use Rattle.gw_session.specs.Killed.{AreOfNext, HoldsPackets, IsBetween, AnswersNext, CutSessionsAnswerTheirLogs}
use Rattle.gw_records.specs.declared.records.RecordsEnd.{RecordsEnd}
use Rattle.gw_records.specs.declared.records.RecordsEnd.TheVariants as endings
use Rattle.gw_records.proofs.Readings.{more_keeps}
use Rattle.gw_session.proofs.ReadBack.{reads_all}
use Rattle.gw_session.proofs.Recovery.{cut_reads}
use Rattle.gw_session.proofs.Taping.{recorded_none, recorded_join}
use Rattle.gw_session.proofs.Turns.{through-append}

-- what is known of what had gone out behind inputs, and that it is all or the first of it
abbrev Known : Type 1
Known = List SessionInput → Gone → Type 0

-- no event is of the next input
none_of_next : (inputs : List SessionInput) → AreOfNext [] inputs
none_of_next [] = refl
none_of_next (input ∷ inputs) = (events_in input, refl)

-- the next input, all of which the tape had when it was told that it is answered
record Answering (More : Known) (answered others : List SessionInput) (fresh : List Event) (next : TapeState)
    (high : Gone)
    : Type 0 where
  input : SessionInput
  rest : List SessionInput
  others_are : others ≡ input ∷ rest
  fresh_are : fresh ≡ events_in input
  going : next.ended ≡ false
  most : More (answered ++ input ∷ []) high

-- Where the acts for inputs are cut: behind some of the inputs, where the tape is so, and within the next one. What
-- had gone out is between what answers the first, and no more, or what answers the next one too, if that is on the
-- tape.
record CutAt (All More : Known) (tape tape' : TapeState) (begun end : Gone) (inputs : List SessionInput)
    (acts later : List Act)
    : Type 0 where
  answered : List SessionInput
  others : List SessionInput
  inputs_are : inputs ≡ answered ++ others
  between : TapeState
  going : between.ended ≡ false
  recorded : Recorded tape between (events_through answered)
  next : TapeState
  fresh : List Event
  of_next : AreOfNext fresh others
  more : Recorded between next fresh
  low : Gone
  low_is : at_last had_gone begun acts ≡ low
  all : All answered low
  high : Gone
  high_is : at_next had_gone later end ≡ high
  taken_next : at_next had_taken later tape'.taken ≡ next.taken
  so : ((high.sent ≡ low.sent) × (high.written ≡ low.written)
      × (at_last had_taken tape.taken acts ≡ between.taken))
      ⊎ (Answering More answered others fresh next high × (at_last had_taken tape.taken acts ≡ next.taken))

-- one input before
cut_behind : {All More : Known} {tape b tape' : TapeState} {begun end gone gone' : Gone} (gateway : Gateway)
    (input : SessionInput) (inputs : List SessionInput) (act : Act) (acts later : List Act)
    → Recorded tape b (events_in input)
    → CutAt (λ first. All (input ∷ first)) (λ first. More (input ∷ first)) b tape' gone' end inputs (act ∷ acts) later
    → CutAt All More tape tape' begun end (input ∷ inputs)
    (keeps_at tape gateway gone ∷ answers_at b gone' ∷ act ∷ acts) later
cut_behind {All} {More} {tape} {b} gateway input inputs act acts later recorded c = record {
  answered = input ∷ c.answered;
  others = c.others;
  inputs_are = ap (λ (is : List SessionInput). input ∷ is) c.inputs_are;
  between = c.between;
  going = c.going;
  recorded = recorded_join tape b c.between (events_in input) (events_through c.answered) recorded c.recorded;
  next = c.next;
  fresh = c.fresh;
  of_next = c.of_next;
  more = c.more;
  low = c.low;
  low_is = c.low_is;
  all = c.all;
  high = c.high;
  high_is = c.high_is;
  taken_next = c.taken_next;
  so = elim c.so [
    | inl q ↦ inl q
    | inr q ↦ inr (
      record {
        input = q.0.input;
        rest = q.0.rest;
        others_are = q.0.others_are;
        fresh_are = q.0.fresh_are;
        going = q.0.going;
        most = q.0.most;
      },
      q.1,
    )
  ];
}

-- the acts are cut when the tape was shown a gateway, before the input is on it
cut_before : {All More : Known} {tape b tape' : TapeState} {begun end gone gone' : Gone} (gateway : Gateway)
    (input : SessionInput) (inputs : List SessionInput) (rest : List Act) → tape.ended ≡ false
    → Recorded tape b (events_in input) → All [] gone → gone' ≡ gone
    → CutAt All More tape tape' begun end (input ∷ inputs) (keeps_at tape gateway gone ∷ [])
    (answers_at b gone' ∷ rest)
cut_before {tape = tape} {b = b} {gone = gone} {gone' = gone'} gateway input inputs rest going recorded all same = record {
  answered = [];
  others = input ∷ inputs;
  inputs_are = refl;
  between = tape;
  going = going;
  recorded = recorded_none tape;
  next = b;
  fresh = events_in input;
  of_next = ([], sym (append-nil (events_in input)));
  more = recorded;
  low = gone;
  low_is = refl;
  all = all;
  high = gone';
  high_is = refl;
  taken_next = refl;
  so = inl (ap (λ (g : Gone). g.sent) same, ap (λ (g : Gone). g.written) same, refl);
}

-- .. or when it was told that the input is answered
cut_within : {All More : Known} {tape b tape' : TapeState} {begun end gone gone' high : Gone} (gateway : Gateway)
    (input : SessionInput) (inputs : List SessionInput) (later : List Act) → tape.ended ≡ false → b.ended ≡ false
    → Recorded tape b (events_in input) → All [] gone → gone' ≡ gone → More (input ∷ []) high
    → at_next had_gone later end ≡ high → at_next had_taken later tape'.taken ≡ b.taken
    → CutAt All More tape tape' begun end (input ∷ inputs) (keeps_at tape gateway gone ∷ answers_at b gone' ∷ []) later
cut_within {All = All} {tape = tape} {b = b} {gone' = gone'} {high = high} gateway input inputs later going on recorded
    all same most high_is taken =
    record {
      answered = [];
      others = input ∷ inputs;
      inputs_are = refl;
      between = tape;
      going = going;
      recorded = recorded_none tape;
      next = b;
      fresh = events_in input;
      of_next = ([], sym (append-nil (events_in input)));
      more = recorded;
      low = gone';
      low_is = refl;
      all = rw same all;
      high = high;
      high_is = high_is;
      taken_next = taken;
      so = inr (
        record { input = input; rest = inputs; others_are = refl; fresh_are = refl; going = on; most = most },
        refl,
      );
    }

-- acts for inputs of which there are some, wherever they are cut
cut_at : (holds : Bool) (Stood : List SessionInput → Gateway → Gone → Type 0) (All More : Known)
    (tape tape' : TapeState) (begun end : Gone) (inputs : List SessionInput) (x : Act)
    (acts later all : List Act) → tape.ended ≡ false → AllByRecursion (HoldsPackets holds) inputs
    → ((first : List SessionInput) (gateway : Gateway) (gone : Gone) → Stood first gateway gone → All first gone)
    → ((first : List SessionInput) (gone : Gone) → All first gone → More first gone) → More inputs end
    → AreActs holds Stood tape tape' inputs all → x ∷ (acts ++ later) ≡ all → AllByRecursion IsGoing (x ∷ acts)
    → CutAt All More tape tape' begun end inputs (x ∷ acts) later
cut_at holds Stood All More tape tape' begun end [] x acts later all going held f g last are e h = absurd (cc (e, are.1))
cut_at holds Stood All More tape tape' begun end (input ∷ inputs) x [] later all going held f g last are e h =
    let both : x ∷ later ≡ keeps_at tape are.0 are.2 ∷ answers_at are.1 are.3 ∷ are.4 = e ∙ are.8 in
    let head : x ≡ keeps_at tape are.0 are.2 = cc both in
    let tails : later ≡ answers_at are.1 are.3 ∷ are.4 = cc both in
    rw (head, tails) (cut_before are.0 input inputs are.4 going are.6 (f [] are.0 are.2 are.5) (are.7 held.0))
cut_at holds Stood All More tape tape' begun end (input ∷ []) x (y ∷ []) later all going held f g last are e h =
    let both : x ∷ y ∷ later ≡ keeps_at tape are.0 are.2 ∷ answers_at are.1 are.3 ∷ are.4 = e ∙ are.8 in
    let head : x ≡ keeps_at tape are.0 are.2 = cc both in
    let second : y ≡ answers_at are.1 are.3 = cc both in
    let none : later ≡ are.4 = cc both in
    rw (head, second, none, are.9.1) (cut_within are.0 input [] [] going (rw second at h.1.0) are.6
    (f [] are.0 are.2 are.5) (are.7 held.0) last refl (ap (λ (t : TapeState). t.taken) are.9.0))
cut_at holds Stood All More tape tape' begun end (input ∷ i ∷ inputs) x (y ∷ []) later all going held f g last are e h =
    let b = are.9 in
    let both : x ∷ y ∷ later ≡ keeps_at tape are.0 are.2 ∷ answers_at are.1 are.3 ∷ are.4 = e ∙ are.8 in
    let head : x ≡ keeps_at tape are.0 are.2 = cc both in
    let second : y ≡ answers_at are.1 are.3 = cc both in
    let others : later ≡ keeps_at are.1 b.0 b.2 ∷ answers_at b.1 b.3 ∷ b.4 = cc (both, b.8) in
    rw (head, second, others) (cut_within are.0 input (i ∷ inputs) _ going (rw second at h.1.0) are.6
    (f [] are.0 are.2 are.5) (are.7 held.0) (g (input ∷ []) b.2 (f (input ∷ []) b.0 b.2 b.5)) refl refl)
cut_at holds Stood All More tape tape' begun end (input ∷ inputs) x (y ∷ z ∷ acts) later all going held f g last are e h =
    let both : x ∷ y ∷ z ∷ (acts ++ later) ≡ keeps_at tape are.0 are.2 ∷ answers_at are.1 are.3 ∷ are.4 = e ∙ are.8 in
    let head : x ≡ keeps_at tape are.0 are.2 = cc both in
    let second : y ≡ answers_at are.1 are.3 = cc both in
    let others : z ∷ (acts ++ later) ≡ are.4 = cc both in
    rw (head, second) (cut_behind are.0 input inputs z acts later are.6
    (cut_at holds (λ first. Stood (input ∷ first)) (λ first. All (input ∷ first)) (λ first. More (input ∷ first))
    are.1 tape' are.3 end inputs z acts later are.4 (rw second at h.1.0) held.1 (λ first. f (input ∷ first))
    (λ first. g (input ∷ first)) last are.9 others h.1.1))

-- they are cut before the first of them
cut_first : {All More : Known} {tape tape' : TapeState} {end high : Gone} (inputs : List SessionInput)
    (later : List Act) → tape.ended ≡ false → All [] nothing_gone → at_next had_gone later end ≡ high
    → at_next had_taken later tape'.taken ≡ tape.taken → high.sent ≡ Some [] → high.written ≡ Some []
    → CutAt All More tape tape' nothing_gone end inputs [] later
cut_first {tape = tape} {high = high} inputs later going all high_is taken sent wrote = record {
  answered = [];
  others = inputs;
  inputs_are = refl;
  between = tape;
  going = going;
  recorded = recorded_none tape;
  next = tape;
  fresh = [];
  of_next = none_of_next inputs;
  more = recorded_none tape;
  low = nothing_gone;
  low_is = refl;
  all = all;
  high = high;
  high_is = high_is;
  taken_next = taken;
  so = inl (sent, wrote, refl);
}

-- acts for inputs, wherever they are cut
cut_any : (holds : Bool) (Stood : List SessionInput → Gateway → Gone → Type 0) (All More : Known)
    (tape tape' : TapeState) (end : Gone) (inputs : List SessionInput) (acts later all : List Act) → tape.ended ≡ false
    → AllByRecursion (HoldsPackets holds) inputs
    → ((first : List SessionInput) (gateway : Gateway) (gone : Gone) → Stood first gateway gone → All first gone)
    → ((first : List SessionInput) (gone : Gone) → All first gone → More first gone) → More inputs end
    → All [] nothing_gone
    → ((gone : Gone) → More [] gone → (gone.sent ≡ Some []) × (gone.written ≡ Some []))
    → AreActs holds Stood tape tape' inputs all → acts ++ later ≡ all → AllByRecursion IsGoing acts
    → CutAt All More tape tape' nothing_gone end inputs acts later
cut_any holds Stood All More tape tape' end [] [] later all going held f g last first none are e h =
    let nothing = none end last in
    rw (e ∙ are.1) (cut_first [] [] going first refl (ap (λ (t : TapeState). t.taken) are.0) nothing.0 nothing.1)
cut_any holds Stood All More tape tape' end (input ∷ inputs) [] later all going held f g last first none are e h =
    let nothing = none are.2 (g [] are.2 (f [] are.0 are.2 are.5)) in
    rw (e ∙ are.8) (cut_first (input ∷ inputs) _ going first refl refl nothing.0 nothing.1)
cut_any holds Stood All More tape tape' end inputs (x ∷ acts) later all going held f g last first none are e h =
    cut_at holds Stood All More tape tape' nothing_gone end inputs x acts later all going held f g last are e h

-- events of the next input are the first of those that are
of_next_first : (es first later : List Event) (others : List SessionInput) → AreOfNext es others → es ≡ first ++ later
    → AreOfNext first others
of_next_first es [] later others of e = none_of_next others
of_next_first es (x ∷ first) later [] of e = absurd (cc (of, e))
of_next_first es (x ∷ first) later (input ∷ others) of e = grind (arith, append_assoc (x ∷ first) later of.0)

-- where the octets of a log are cut between two places of a tape that had not ended at the first, the events of its
-- whole records are all of those at the first, and the first of those up to the second
logged_events : (between next : TapeState) (es more : List Event) (had fresh rest octets : List ℕ)
    (records : List Record) (ending : RecordsEnd) → Recorded new_tape between es → between.ended ≡ false
    → Recorded between next more → between.taken ≡ Some had → octets ≡ had ++ fresh
    → next.taken ≡ Some (octets ++ rest) → Reads all_kinds octets records ending
    → (last : List Event) × (later : List Event) × (events records ≡ es ++ last) × (more ≡ last ++ later)
logged_events between next es more had fresh rest octets records ending p going q known are known' reads =
    let w = p.whole going in
    let had_is : had ≡ flat_map spelled p.records = rw known at w.1 in
    let es_are : es ≡ events p.records = rw (w.0) at p.events_are ∙ append-nil (events p.records) in
    let first = more_keeps all_kinds had fresh p.records records endings.End ending
    (rw (← had_is) at (reads_all p.records p.good)) (rw are at reads) in
    let both = recorded_join new_tape between next es more p q in
    let all = cut_reads new_tape next (es ++ more) [] records octets rest ending both
    (record { empty = refl; good = tt; took = known' }) reads in
    let logged : events records ≡ es ++ events first.0 =
    ap events first.1 ∙ flat_map-append events_of p.records first.0
    ∙ ap (λ (xs : List Event). xs ++ events first.0) (sym es_are) in
    let whole : es ++ more ≡ es ++ (events first.0 ++ all.later) =
    all.first ∙ ap (λ (xs : List Event). xs ++ all.later) logged ∙ append_assoc es (events first.0) all.later in
    (events first.0, all.later, logged, append_cancel_left es more (events first.0 ++ all.later) whole)

-- the first of none are none
none_first : (last later : List Event) → [] ≡ last ++ later → last ≡ []
none_first [] later e = refl
none_first (x ∷ last) later e = absurd (cc e)

-- What had gone out behind inputs: these packets, but for as many as sends had failed, and the octets but for the last
-- ones.
record WentOut (config : GatewayConfig) (before : List Event) (inputs : List SessionInput) (gone : Gone)
    (rest : List ℕ)
    : Type 0 where
  took : List (ℕ × List ℕ)
  sent_is : gone.sent ≡ Some took
  left_out : ℕ
  counted_is : counted 0 left_out ≡ gone.failures
  leaves : LeavesOut left_out took (packets_for config before (events_through inputs))
  octets : List ℕ
  written_is : gone.written ≡ Some octets
  all : octets ++ rest ≡ written config before inputs

-- what grew from nothing is what it grew by
extends_none : {X : Type 0} (new : Option (List X)) (more : List X) → Extends (Some []) new more → new ≡ Some more
extends_none None more p = absurd p
extends_none {X} (Some xs) more p = ap (λ (ys : List X). Some ys) p

appends_none : (new : Option (List ℕ)) (more : List ℕ) → Appends (Some []) new more → new ≡ Some more
appends_none None more p = absurd p
appends_none (Some xs) more p = ap (λ (ys : List ℕ). Some ys) p

-- what had gone out of a session that had sent nothing, by the turns that it went through and what it wrote
went_out : {s s' : SessionState} {inputs : List SessionInput} {gone : Gone} (config : GatewayConfig)
    (before : List Event) (first rest : List ℕ) → HasHistory config s.gateway before → s.ports.taken ≡ Some []
    → s.ports.send_failures ≡ 0 → s.held ≡ [] → TurnsTrace s s' (turns inputs) (events_through inputs)
    → s'.ports.taken ≡ gone.sent → s'.ports.send_failures ≡ gone.failures → s'.held ≡ s.held
    → Appends (Some []) gone.written first → first ++ rest ≡ written config before inputs
    → WentOut config before inputs gone rest
went_out {s = s} {s' = s'} {gone = gone} config before first rest at none none_failed held goes sent failed still wrote all =
    let packets = (goes.hears config before at).packets in
    record {
      took = goes.trades.took;
      sent_is = sym sent ∙ extends_none s'.ports.taken goes.trades.took (rw none at goes.trades.takes);
      left_out = goes.trades.failed_sends;
      counted_is = sym (rw none_failed at goes.trades.sends) ∙ failed;
      leaves = rw (still, held, append-nil) at packets;
      octets = first;
      written_is = appends_none gone.written first wrote;
      all = all;
    }

-- a list that is between two that are equal is both
is_both : {X : Type 0} {low high : Option (List X)} {xs : List X} → (b : IsBetween low high xs) → high ≡ low
    → b.more ≡ []
is_both {X} {xs = xs} b same =
    let e : Some (xs ++ b.rest) ≡ Some b.first = sym b.high_is ∙ same ∙ b.low_is in
    let these : xs ++ b.rest ≡ b.first = cc e in
    nil_from_length b.more (omega (
      arith,
      ap length these,
      length-append xs b.rest,
      ap length b.xs_are,
      length-append b.first b.more,
    ))

-- nothing goes out of a session without inputs
none_went : (config : GatewayConfig) (before : List Event) (gone : Gone) (rest : List ℕ)
    → WentOut config before [] gone rest → (gone.sent ≡ Some []) × (gone.written ≡ Some [])
unfolding given_by
none_went config before gone rest w =
    let none : w.took ≡ [] = w.leaves.1 in
    let empty : w.octets ≡ [] = nil_from_length w.octets (omega (arith, ap length w.all, length-append w.octets rest)) in
    (w.sent_is ∙ ap (λ (ps : List (ℕ × List ℕ)). Some ps) none, w.written_is ∙ ap (λ (xs : List ℕ). Some xs) empty)

-- nothing has gone out before the first input
went_nothing : (config : GatewayConfig) (before : List Event) → WentOut config before [] nothing_gone []
unfolding given_by
went_nothing config before = record {
  took = [];
  sent_is = refl;
  left_out = 0;
  counted_is = refl;
  leaves = (refl, refl);
  octets = [];
  written_is = refl;
  all = refl;
}

-- the next input is answered, by the first of what answers it at least
answers_next : (config : GatewayConfig) (before : List Event) {answered others : List SessionInput}
    {fresh : List Event} {next : TapeState} {high : Gone} (sent : List (ℕ × List ℕ)) (out part : List ℕ)
    (later : List (ℕ × List ℕ)) (behind : List ℕ) (failed : ℕ)
    → (x : Answering (λ inputs gone. (rest : List ℕ) × WentOut config before inputs gone rest) answered others fresh
    next high)
    → high.sent ≡ Some (sent ++ later) → high.written ≡ Some (out ++ behind) → failed ≡ high.failures
    → out ≡ written config before answered ++ part → AnswersNext config before answered others fresh sent part failed
answers_next config before {answered = answered} sent out part later behind failed x sends writes counts out_is =
    let most = x.most.1 in
    let took : most.took ≡ sent ++ later = cc (sym most.sent_is ∙ sends) in
    let octets : most.octets ≡ out ++ behind = cc (sym most.written_is ∙ writes) in
    let events_are : events_through (answered ++ x.input ∷ []) ≡ events_through answered ++ events_in x.input =
    flat_map-append events_in answered (x.input ∷ [])
    ∙ ap (λ (es : List Event). events_through answered ++ es) (append-nil (events_in x.input)) in
    let before_it = written config before answered in
    let answer = answer_to config (before ++ events_through answered) x.input in
    let all : written config before (answered ++ x.input ∷ []) ≡ before_it ++ answer =
    through-append answer_to config before answered (x.input ∷ [])
    ∙ ap (λ (xs : List ℕ). before_it ++ xs) (append-nil answer) in
    let whole : before_it ++ (part ++ (behind ++ x.most.0)) ≡ before_it ++ answer =
    sym (append_assoc before_it part (behind ++ x.most.0))
    ∙ ap (λ (xs : List ℕ). xs ++ (behind ++ x.most.0)) (sym out_is)
    ∙ sym (append_assoc out behind x.most.0) ∙ ap (λ (xs : List ℕ). xs ++ x.most.0) (sym octets) ∙ most.all ∙ all in
    record {
      next = x.input;
      later = x.rest;
      others_are = x.others_are;
      last_is = x.fresh_are;
      unsent = later;
      left_out = most.left_out;
      counted_is = most.counted_is ∙ sym counts;
      packets_are = rw (took, events_are) at most.leaves;
      rest = behind ++ x.most.0;
      octets_are = append_cancel_left before_it (part ++ (behind ++ x.most.0)) answer whole;
    }

-- however a session is cut off, what it gave out is the beginning of what answers its log
pub cut_sessions : CutSessionsAnswerTheirLogs
cut_sessions config before gateway log gave records ending at_first cut reads =
    let p = cut.follows in
    let stood : HasHistory config cut.session.gateway before = rw (cut.gateway_is) at_first in
    let told : cut.acts ++ cut.later ≡ p.logs.0 = rw (cut.all) at (p.logs.1) in
    let wrote = cut.took config before at_first in
    let ports = cut.session'.ports in
    let end : Gone = record { sent = ports.taken; written = cut.out'; failures = ports.send_failures } in
    let last : WentOut config before cut.inputs end wrote.rest = went_out config before wrote.written wrote.rest stood
    cut.none_sent cut.none_failed cut.none_held p.goes refl refl p.still wrote.appended (sym wrote.whole) in
    let c = cut_any cut.session.holds (StandsBehind written (Appends (Some [])) cut.session)
    (λ inputs gone. WentOut config before inputs gone [])
    (λ inputs gone. (rest : List ℕ) × WentOut config before inputs gone rest) new_tape cut.tape' end cut.inputs cut.acts
    cut.later p.logs.0 refl cut.held
    (λ first now gone q. went_out config before (written config before first) [] stood cut.none_sent cut.none_failed
    cut.none_held q.goes q.sent_is q.failures_are q.still (q.had config before stood)
    (append-nil (written config before first)))
    (λ first gone w. ([], w)) (wrote.rest, last) (went_nothing config before)
    (λ gone w. none_went config before gone w.0 w.1) p.logs.2 told cut.going in
    let low = cut.low_is ∙ c.low_is in
    let high = cut.high_is ∙ c.high_is in
    let sent_low = ap (λ (g : Gone). g.sent) low in
    let sent_high = ap (λ (g : Gone). g.sent) high in
    let out_low = ap (λ (g : Gone). g.written) low in
    let out_high = ap (λ (g : Gone). g.written) high in
    let counted_is = c.all.counted_is ∙ sym (cut.failed_is ∙ ap (λ (g : Gone). g.failures) low) in
    let first : cut.sends.first ≡ c.all.took = cc (sym cut.sends.low_is ∙ sent_low ∙ c.all.sent_is) in
    let octets : cut.writes.first ≡ c.all.octets = cc (sym cut.writes.low_is ∙ out_low ∙ c.all.written_is) in
    let answers : c.all.octets ≡ written config before c.answered = sym (append-nil c.all.octets) ∙ c.all.all in
    let out_is : gave.out ≡ written config before c.answered ++ cut.writes.more =
    cut.writes.xs_are ∙ ap (λ (xs : List ℕ). xs ++ cut.writes.more) (octets ∙ answers) in
    let sent_are : gave.sent ≡ c.all.took ++ cut.sends.more =
    cut.sends.xs_are ∙ ap (λ (ps : List (ℕ × List ℕ)). ps ++ cut.sends.more) first in
    let es = events_through c.answered in
    let known' = sym c.taken_next ∙ cut.logged.high_is in
    elim c.so [
      | inl at ↦
          let l = logged_events c.between c.next es c.fresh cut.logged.first cut.logged.more cut.logged.rest log records
          ending c.recorded c.going c.more (sym at.2 ∙ cut.logged.low_is) cut.logged.xs_are known' reads in
          record {
            answered = c.answered;
            others = c.others;
            inputs_are = c.inputs_are;
            last = l.0;
            logged_are = l.2;
            of_next = of_next_first c.fresh l.0 l.1 c.others c.of_next l.3;
            first = c.all.took;
            more = cut.sends.more;
            sent_are = sent_are;
            left_out = c.all.left_out;
            counted_is = counted_is;
            first_are = c.all.leaves;
            part = cut.writes.more;
            out_is = out_is;
            rest_is = inl (
              is_both cut.sends (sent_high ∙ at.0 ∙ sym sent_low),
              is_both cut.writes (out_high ∙ at.1 ∙ sym out_low),
            );
          }
      | inr at ↦
          let x = at.0 in
          let both = recorded_join new_tape c.between c.next es c.fresh c.recorded c.more in
          let l = logged_events c.next c.next (es ++ c.fresh) [] cut.logged.first cut.logged.more cut.logged.rest log
          records ending both x.going (recorded_none c.next) (sym at.1 ∙ cut.logged.low_is) cut.logged.xs_are known'
          reads in
          record {
            answered = c.answered;
            others = c.others;
            inputs_are = c.inputs_are;
            last = c.fresh;
            logged_are = l.2 ∙ rw (none_first l.0 l.1 l.3) (append-nil (es ++ c.fresh));
            of_next = c.of_next;
            first = c.all.took;
            more = cut.sends.more;
            sent_are = sent_are;
            left_out = c.all.left_out;
            counted_is = counted_is;
            first_are = c.all.leaves;
            part = cut.writes.more;
            out_is = out_is;
            rest_is = inr (answers_next config before gave.sent gave.out cut.writes.more cut.sends.rest cut.writes.rest
                gave.failed_by_next x (sym sent_high ∙ cut.sends.high_is) (sym out_high ∙ cut.writes.high_is)
                (cut.failed_next_is ∙ ap (λ (g : Gone). g.failures) high) out_is);
          }
    ]
