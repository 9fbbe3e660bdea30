-- Inputs one after another.
use Rattle.gw_session.proofs.Common.{◌≡◌, ◌⊎◌, inl, inr, ◌<◌, ◌≤◌, ℕ, zero, suc, Option, List, [], ◌∷◌, ◌++◌}
use Rattle.gw_session.proofs.Common.{rules, common_steps, length, refl, ap, ◌∙◌, append_assoc, append-nil}
use Rattle.gw_session.proofs.Common.{length-append, arith, Appends, map_push, flat_map_more, GatewayConfig, Event}
use Rattle.gw_session.proofs.Common.{octets, HasHistory, AcceptedKinds, Record, IsGood, SinkState}
use Rattle.gw_session.proofs.Common.{TakesAllButWaiting, FailsAfterPrefix, AppendsBut, AppendsPrefix}
use Rattle.gw_session.proofs.Common.{TakesAllButWaiting-appended, TakesAllButWaiting-empty, TakesAllButWaiting-join}
use Rattle.gw_session.proofs.Common.{Appends-join, AppendsBut-behind, all_kinds, PacketOutput, SessionInput}
use Rattle.gw_session.proofs.Common.{input_record, turns_of, turns, events_in, events_through, Follows, but_last}
use Rattle.gw_session.proofs.Common.{WatchedTrace, OfFirstInputs, written_for, written_by, ActsOn, StopsAt, CutTrace}
use Rattle.gw_session.proofs.Common.{TapeState, SessionState, Output, TakesAllButWaiting-start}
use Rattle.gw_session.proofs.Common.{InputTrace, Bool, PortCall, AreCalls, AreCallsFor, are_held, Act, AreActs}
use Rattle.gw_session.proofs.Common.{Recorded, Gateway, StandsBehind, Learns, keeps_at, answers_at, events_of_turns}
use Rattle.gw_session.proofs.Common.{Gone, gone_to, TookBut, true}
use Rattle.gw_session.proofs.Turns.{TurnsTrace-none, TurnsTrace-join, Extends-none, Extends-join, counted-more}
use Rattle.gw_session.proofs.Turns.{octets-append, turns_have_octets, through-append}
use Rattle.gw_session.proofs.Taping.{recorded_none, recorded_join, told_recorded}

-- a record of some kinds is one of all
pub good_in_all : (kinds : AcceptedKinds) (r : Record) → IsGood kinds r → IsGood all_kinds r
good_in_all kinds r good = search rules

-- the octets of inputs are those of their turns
input_octets : (input : SessionInput) → length (octets (events_in input)) ≡ length (turns_of input)
input_octets (SessionInput.Trunk ts) = turns_have_octets ts
input_octets _ = refl

-- the octets of inputs are as many as their turns
pub inputs_octets : (inputs : List SessionInput) → length (octets (events_through inputs)) ≡ length (turns inputs)
inputs_octets [] = refl
inputs_octets (input ∷ inputs) =
    ap length (octets-append (events_in input) (events_through inputs))
    ∙ length-append (octets (events_in input)) (octets (events_through inputs))
    ∙ omega (arith, input_octets input, inputs_octets inputs, length-append (turns_of input) (turns inputs))

-- the calls for inputs, and then those for one more
calls_more : (holds : Bool) (inputs : List SessionInput) (input : SessionInput) (xs ys : List PortCall)
    → AreCallsFor holds inputs xs → AreCalls (are_held holds (turns_of input)) (turns_of input) ys
    → AreCallsFor holds (inputs ++ input ∷ []) (xs ++ ys)
calls_more holds [] input xs ys p q = (ys, [], rw (p, append-nil) refl, q, refl)
calls_more holds (i ∷ inputs) input xs ys p q =
    (p.0, p.1 ++ ys, rw (p.2, append_assoc) refl, p.3, calls_more holds inputs input p.1 ys p.4 q)

-- the acts for inputs, and then those for one more
acts_more : (holds : Bool) (Known : List SessionInput → Gateway → Gone → Type 0) (a b c : TapeState)
    (inputs : List SessionInput) (input : SessionInput) (acts : List Act) (gateway : Gateway) (gone gone' : Gone)
    → AreActs holds Known a b inputs acts → Known inputs gateway gone → Recorded b c (events_in input)
    → (are_held holds (turns_of input) ≡ true → gone' ≡ gone)
    → AreActs holds Known a c (inputs ++ input ∷ []) (acts ++ keeps_at b gateway gone ∷ answers_at c gone' ∷ [])
acts_more holds Known a b c [] input acts gateway gone gone' p at q nothing =
    (gateway, c, gone, gone', [], at, rw (p.0) at q, nothing, rw (p.1, p.0) refl, (refl, refl))
acts_more holds Known a b c (i ∷ inputs) input acts gateway gone gone' p at q nothing = (
  p.0,
  p.1,
  p.2,
  p.3,
  p.4 ++ keeps_at b gateway gone ∷ answers_at c gone' ∷ [],
  p.5,
  p.6,
  p.7,
  rw (p.8) refl,
  acts_more holds (λ first. Known (i ∷ first)) p.1 b c inputs input p.4 gateway gone gone' p.9 at q nothing,
)

-- what follows from what is known of them
pub acts_as : (holds : Bool) (Known More : List SessionInput → Gateway → Gone → Type 0) (a b : TapeState)
    (inputs : List SessionInput) (acts : List Act)
    → ((first : List SessionInput) (gateway : Gateway) (gone : Gone) → Known first gateway gone → More first gateway gone)
    → AreActs holds Known a b inputs acts → AreActs holds More a b inputs acts
acts_as holds Known More a b [] acts f p = p
acts_as holds Known More a b (i ∷ inputs) acts f p = (
  p.0,
  p.1,
  p.2,
  p.3,
  p.4,
  f [] p.0 p.2 p.5,
  p.6,
  p.7,
  p.8,
  acts_as holds (λ first. Known (i ∷ first)) (λ first. More (i ∷ first)) p.1 b inputs p.4 (λ first. f (i ∷ first)) p.9,
)

-- inputs that were done, and then the input of one record more
follows_more : {put : GatewayConfig → List Event → List SessionInput → List ℕ} {Had : Option (List ℕ) → List ℕ → Type 0}
    {s s' s'' : SessionState} {x y shown z : TapeState} {inputs : List SessionInput} {r : Record} {gone : Gone}
    → Follows put Had s s' x y inputs → Learns y shown (keeps_at y s'.gateway gone ∷ []) → s'.ports.taken ≡ gone.sent
    → s'.ports.send_failures ≡ gone.failures
    → ((config : GatewayConfig) (before : List Event) → HasHistory config s.gateway before
    → Had gone.written (put config before inputs))
    → (q : ActsOn gone s' s'' shown z r) → Follows put Had s s'' x z (inputs ++ q.input ∷ [])
follows_more {put} {Had} {s = s} {s' = s'} {s'' = s''} {x = x} {y = y} {shown = shown} {z = z} {inputs = inputs} {gone = gone}
    p told sent failed had q = record {
      goes = rw (← flat_map_more turns_of [] inputs q.input, ← flat_map_more events_in [] inputs q.input)
          (TurnsTrace-join _ _ _ _ _ _ _ (inputs_octets inputs) p.goes q.goes);
      records = rw (length-append inputs (q.input ∷ []))
          (counted-more s.totals.records _ _ (length inputs) 1 p.records q.records);
      trunk_octets = rw (← flat_map_more turns_of [] inputs q.input, length-append (turns inputs) (turns_of q.input))
          (counted-more s.totals.octets _ _ (length (turns inputs)) (length (turns_of q.input)) p.trunk_octets q.octets);
      recorded = rw (← flat_map_more events_in [] inputs q.input)
          (recorded_join _ _ _ _ _ p.recorded (told_recorded _ _ _ _ _ told q.recorded));
      logs = (
        p.logs.0 ++ keeps_at y s'.gateway gone ∷ answers_at z q.told.gone ∷ [],
        Extends-join x.acts y.acts z.acts p.logs.0 _ p.logs.1
            (Extends-join y.acts shown.acts z.acts _ _ told.told q.told.told),
        acts_more s.holds (StandsBehind put Had s) x y z inputs q.input p.logs.0 s'.gateway gone q.told.gone p.logs.2
            (record {
              behind = s';
              gateway_is = refl;
              sent_is = sent;
              failures_are = failed;
              still = p.still;
              goes = p.goes;
              had = had;
            })
            (told_recorded _ _ _ _ _ told q.recorded) (rw (p.same) at q.told.nothing),
      );
      calls = (
        p.calls.0 ++ q.calls.0,
        Extends-join s.ports.calls s'.ports.calls s''.ports.calls p.calls.0 q.calls.0 p.calls.1 q.calls.1,
        calls_more s.holds inputs q.input p.calls.0 q.calls.0 p.calls.2 (rw (p.same) at q.calls.2),
      );
      same = q.same ∙ p.same;
      still = q.still ∙ p.still;
    }

-- the last of inputs is the one that came last
pub but_last_more : (inputs : List SessionInput) (input : SessionInput) → but_last (inputs ++ input ∷ []) ≡ inputs
unfolding but_last
but_last_more [] input = refl
but_last_more (a ∷ []) input = refl
but_last_more (a ∷ b ∷ inputs) input = ap (λ (xs : List SessionInput). a ∷ xs) (but_last_more (b ∷ inputs) input)

-- what is put for all inputs but the last is no more than what is put for all
less_written : (spells : PacketOutput) (config : GatewayConfig) (before : List Event) (inputs : List SessionInput)
    → length (written_by spells config before (but_last inputs)) ≤ length (written_by spells config before inputs)
unfolding but_last
less_written spells config before [] = omega arith
less_written spells config before (a ∷ []) = omega arith
less_written spells config before (a ∷ b ∷ inputs) = omega (
  arith,
  less_written spells config (before ++ events_in a) (b ∷ inputs),
  length-append (written_for spells config before a)
      (written_by spells config (before ++ events_in a) (but_last (b ∷ inputs))),
  length-append (written_for spells config before a) (written_by spells config (before ++ events_in a) (b ∷ inputs)),
)

-- octets of which few wait, and a write of these failed
waiting_cut : (late : ℕ) (o : Option (List ℕ)) (s s' : SinkState) (w first xs : List ℕ) → length w ≤ late
    → length first ≤ length xs → TakesAllButWaiting o s.taken w xs → FailsAfterPrefix s s' w
    → AppendsBut late o s'.taken first xs
waiting_cut late o s s' w first xs few less took breaks = search (rules, append_assoc, Appends-join, length-append)

-- before the first record
pub through_none : (spells : PacketOutput) (late : ℕ) (Seen : List SessionInput → Type 0)
    {s : SessionState} {tape : TapeState} {o : Option (List ℕ)}
    {w : List ℕ} → Seen [] → w ≡ []
    → WatchedTrace (written_by spells) (TookBut late o) s s tape tape (λ first xs. TakesAllButWaiting o o w xs) Seen []
through_none spells late Seen seen none = (
  record {
    inputs = [];
    told_are = refl;
    follows = record {
      goes = TurnsTrace-none _;
      records = refl;
      trunk_octets = refl;
      recorded = recorded_none _;
      logs = ([], Extends-none _, (refl, refl));
      calls = ([], Extends-none _, refl);
      same = refl;
      still = refl;
    };
    took = λ config before at. TakesAllButWaiting-start _ _ none;
  },
  seen,
)

-- records that were gone through, by a session whose sink was so at first
module _ (spells : PacketOutput) (late : ℕ) (sink : SinkState) (Seen : List SessionInput → List Event → Type 0)
    {s s' : SessionState} {x y : TapeState} {records : List Record}
  where
    -- what is known of what was put, and of the inputs
    through_as : {Took More : List ℕ → List ℕ → Type 0} (Known : List SessionInput → Type 0)
        → ((first xs : List ℕ) → length first ≤ length xs → Took first xs → More first xs)
        → ((inputs : List SessionInput) → Seen inputs [] → Known inputs)
        → WatchedTrace (written_by spells) (TookBut late sink.taken) s s' x y Took (λ inputs. Seen inputs []) records
        → WatchedTrace (written_by spells) (TookBut late sink.taken) s s' x y More Known records
    through_as Known f g p = (
      record {
        inputs = p.0.inputs;
        told_are = p.0.told_are;
        follows = p.0.follows;
        took = λ config before at. f (written_by spells config before (but_last p.0.inputs))
            (written_by spells config before p.0.inputs) (less_written spells config before p.0.inputs)
            (p.0.took config before at);
      },
      g p.0.inputs p.1,
    )

    -- all of it was taken
    pub through_all : {p : Option (List ℕ)} {w : List ℕ} (q : Option (List ℕ))
        → WatchedTrace (written_by spells) (TookBut late sink.taken) s s' x y
        (λ first xs. TakesAllButWaiting sink.taken p w xs) (λ inputs. Seen inputs []) records → Appends p q w
        → WatchedTrace (written_by spells) (TookBut late sink.taken) s s' x y (λ first. Appends sink.taken q)
        (λ inputs. Seen inputs []) records
    through_all q h wrote = through_as (λ inputs. Seen inputs [])
        (λ first xs less took. TakesAllButWaiting-appended _ _ _ _ _ took wrote) (λ inputs seen. seen) h

    -- when what waits is written nothing waits, and the rest is as it was
    pub through_on : {p q : Option (List ℕ)} {w w' : List ℕ}
        → WatchedTrace (written_by spells) (TookBut late sink.taken) s s' x y
        (λ first xs. TakesAllButWaiting sink.taken p w xs) (λ inputs. Seen inputs []) records → Appends p q w → w' ≡ []
        → WatchedTrace (written_by spells) (TookBut late sink.taken) s s' x y
        (λ first xs. TakesAllButWaiting sink.taken q w' xs) (λ inputs. Seen inputs []) records
    through_on h wrote none = search (rules, through_as, TakesAllButWaiting-empty, TakesAllButWaiting-appended)

    -- .. or a write of what waits failed
    pub waiting_failed : {b c : SinkState} {w : List ℕ} → length w ≤ late
        → WatchedTrace (written_by spells) (TookBut late sink.taken) s s' x y
        (λ first xs. TakesAllButWaiting sink.taken b.taken w xs) (λ inputs. Seen inputs []) records
        → 0 < length records → FailsAfterPrefix b c w → (0 < length records)
        × WatchedTrace (written_by spells) (TookBut late sink.taken) s s' x y (AppendsBut late sink.taken c.taken)
        (OfFirstInputs Seen) records
    waiting_failed {b} {c} {w} few p some breaks = (
      some,
      through_as (OfFirstInputs Seen)
          (λ first xs less took. waiting_cut late sink.taken b c w first xs few less took breaks)
          (λ inputs seen. inl seen) p,
    )

    -- .. and then one more, before which few octets wait
    module _ {s'' : SessionState} {shown z : TapeState} {r : Record} (a : Output)
        (told : Learns y shown (keeps_at y s'.gateway (gone_to s'.ports a.sink) ∷ [])) (few : length a.waiting ≤ late)
        (p : WatchedTrace (written_by spells) (TookBut late sink.taken) s s' x y
        (λ first xs. TakesAllButWaiting sink.taken a.sink.taken a.waiting xs) (λ inputs. Seen inputs []) records)
      where
        -- one record more, for which this is put
        through_more : {More : List ℕ → List ℕ → Type 0} (Known : List SessionInput → Type 0)
            → (q : ActsOn (gone_to s'.ports a.sink) s' s'' shown z r)
            → ((config : GatewayConfig) (now : List Event) → HasHistory config s'.gateway now → (first xs : List ℕ)
            → TakesAllButWaiting sink.taken a.sink.taken a.waiting xs
            → More xs (xs ++ written_for spells config now q.input))
            → ((inputs : List SessionInput) → Follows (written_by spells) (TookBut late sink.taken) s s' x y inputs
            → Seen inputs [] → Known (inputs ++ q.input ∷ []))
            → WatchedTrace (written_by spells) (TookBut late sink.taken) s s'' x z More Known (records ++ r ∷ [])
        through_more Known q more known = (
          record {
            inputs = p.0.inputs ++ q.input ∷ [];
            told_are = rw (map_push input_record p.0.inputs q.input, p.0.told_are, q.told_is);
            follows = follows_more p.0.follows told refl refl
                (λ config before at. (a.waiting, few, p.0.took config before at)) q;
            took = λ config before at. rw (
              but_last_more p.0.inputs q.input,
              through-append (written_for spells) config before p.0.inputs (q.input ∷ []),
              append-nil,
            )
                (grind (arith, common_steps));
          },
          known p.0.inputs p.0.follows p.1,
        )

        -- records that were gone through, and then one more whose answer passes
        pub through_done : {Shown : List Event → Type 0} {b : Output} (Known : List SessionInput → Type 0)
            → (q : InputTrace spells Shown (record { state = s'; tape = shown; output = a })
            (record { state = s''; tape = z; output = b }) r (TakesAllButWaiting a.sink.taken b.sink.taken b.waiting))
            → ((inputs : List SessionInput) → Follows (written_by spells) (TookBut late sink.taken) s s' x y inputs
            → Seen inputs [] → Known (inputs ++ q.inputs.input ∷ []))
            → WatchedTrace (written_by spells) (TookBut late sink.taken) s s'' x z
            (λ first xs. TakesAllButWaiting sink.taken b.sink.taken b.waiting xs) Known
            (records ++ r ∷ [])
        through_done Known q known = through_more Known q.inputs
            (λ config now at first xs took. TakesAllButWaiting-join _ _ _ _ _ _ _ took (q.took config now at)) known

        -- a write failed in it, when it was done or when its first octets were heard
        pub input_failed : {Shown : List Event → Type 0} {b : Output} (Known : List SessionInput → List Event → Type 0)
            → ((inputs : List SessionInput) (es : List Event) → Shown es
            → Follows (written_by spells) (TookBut late sink.taken) s s' x y inputs → Seen inputs [] → Known inputs es)
            → InputTrace spells Shown (record { state = s'; tape = shown; output = a })
            (record { state = s''; tape = z; output = b }) r (AppendsPrefix a.sink.taken b.sink.taken)
            ⊎ ((octets : List ℕ) × (r ≡ Record.Trunk octets) × (t : StopsAt spells s' s'' a b.sink octets)
            × Shown (events_of_turns t.turns))
            → {w w' : List ℕ} → ((0 < length (records ++ r ∷ []))
            × WatchedTrace (written_by spells) (TookBut late sink.taken) s s'' x z
            (AppendsBut late sink.taken b.sink.taken) (OfFirstInputs Known) (records ++ r ∷ []))
            ⊎ ((c : CutTrace late spells (record { state = s; tape = x; output = record { sink = sink; waiting = w } })
            (record { state = s''; tape = z; output = record { sink = b.sink; waiting = w' } }) (records ++ r ∷ []))
            × Known c.trace.inputs (events_of_turns c.stops.turns))
        input_failed Known known (inl q) = inl (
          omega (arith, length-append records (r ∷ [])),
          through_more (OfFirstInputs Known) q.inputs
              (λ config now at first xs took. AppendsBut-behind late _ _ _ _ _ _ few took (q.took config now at))
              (λ inputs follows seen. inr
              (inputs, q.inputs.input, refl, known inputs (events_in q.inputs.input) q.shown follows seen)),
        )
        input_failed Known known (inr q) = inr (
          record {
            records = records;
            octets = q.0;
            all = rw (q.1);
            between = record { state = s'; tape = y; output = a };
            trace = p.0;
            few = few;
            stops = q.2;
          },
          known p.0.inputs (events_of_turns q.2.turns) q.3 p.0.follows p.1,
        )

-- where some octets wait there are some records
pub some_records : (records waiting : ℕ) → (records ≡ 0 → waiting ≡ 0) → 0 < waiting → 0 < records
some_records zero waiting none some = absurd (let e = none refl in omega (arith, e, some))
some_records (suc n) waiting none some = omega arith
