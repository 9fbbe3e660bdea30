-- What a watch of a session is shown.
use Rattle.gw_session.proofs.Common.{◌≡◌, ◌+◌, ◌++◌, ◌∷◌, ℕ, List, [], length, map, refl, append_assoc, rules, suc}
use Rattle.gw_session.proofs.Common.{append-nil, arith, add-zero, map_push, flat_map-append, GatewayConfig, Gateway}
use Rattle.gw_session.proofs.Common.{Event, octets, HasHistory, Record, SessionState, TapeState, SessionInput}
use Rattle.gw_session.proofs.Common.{input_record, Datagram, code_of, reply_to, events_in, events_through, ActsOn}
use Rattle.gw_session.proofs.Common.{Follows, Shows, Look, IsCalled, IsCodeAfter, AreTrue, AreShown, InputsShown}
use Rattle.gw_session.proofs.Common.{Watched, looks_at, Gone, Option}

-- a watch was called, and then more
called_join : {W : Type 0} (shows : Shows W) (looks more : List Look) (w v v' : W) → IsCalled shows w v looks
    → IsCalled shows v v' more → IsCalled shows w v' (looks ++ more)
called_join shows [] more w v v' none calls = rw none at calls
called_join shows (l ∷ looks) more w v v' some calls =
    (some.0, some.1, called_join shows looks more some.0 v v' some.2 calls)

-- the looks at the datagrams among events and among more
looks_join : (config : GatewayConfig) (before : List Event) (heard : ℕ) (xs ys : List Event)
    → looks_at config before heard (xs ++ ys)
    ≡ looks_at config before heard xs ++ looks_at config (before ++ xs) (heard + length (octets xs)) ys
unfolding looks_at
looks_join config before heard [] ys = rw (append-nil before, add-zero) refl
looks_join config before heard (Event.Octet octet ∷ xs) ys =
    let e : heard + suc (length (octets xs)) ≡ suc heard + length (octets xs) = omega arith in
    rw (e, looks_join config (before ++ Event.Octet octet ∷ []) (suc heard) xs ys, append_assoc) refl
looks_join config before heard (Event.Given circuit (Datagram bytes) ∷ xs) ys =
    rw (looks_join config (before ++ Event.Given circuit (Datagram bytes) ∷ []) heard xs ys, append_assoc) refl
looks_join config before heard (x ∷ xs) ys =
    rw (looks_join config (before ++ x ∷ []) heard xs ys, append_assoc) refl

-- octets have no datagram among them
pub none_among : (config : GatewayConfig) (before : List Event) (heard : ℕ) (xs : List ℕ)
    → looks_at config before heard (map Event.Octet xs) ≡ []
unfolding looks_at
none_among config before heard [] = refl
none_among config before heard (x ∷ xs) = none_among config (before ++ Event.Octet x ∷ []) (suc heard) xs

-- no event was shown
pub shown_none : {W : Type 0} (shows : Shows W) (gateway : Gateway) (w : W) (heard : ℕ)
    → AreShown shows gateway w w heard []
unfolding looks_at
shown_none shows gateway w heard =
    record { looks = []; calls = refl; no_record = refl; looks_are = λ config before h. refl }

-- one datagram was shown
pub shown_one : {W : Type 0} {shows : Shows W} {gateway : Gateway} {w w' : W} {heard circuit code : ℕ}
    {bytes : List ℕ} → shows w w' (Look.Came heard circuit bytes code)
    → ((config : GatewayConfig) (before : List Event) → HasHistory config gateway before
    → code ≡ code_of (reply_to config before (Event.Given circuit (Datagram bytes))))
    → AreShown shows gateway w w' heard (Event.Given circuit (Datagram bytes) ∷ [])
unfolding looks_at
shown_one {w' = w'} {heard = heard} {circuit = circuit} {code = code} {bytes = bytes} call is = record {
  looks = Look.Came heard circuit bytes code ∷ [];
  calls = (w', call, refl);
  no_record = refl;
  looks_are = λ config before h. rw (is config before h) refl;
}

-- of an event that is no datagram nothing is shown
pub shown_other : {W : Type 0} {shows : Shows W} {gateway : Gateway} {w : W} {heard : ℕ} {event : Event}
    → ((config : GatewayConfig) (before : List Event) → looks_at config before heard (event ∷ []) ≡ [])
    → AreShown shows gateway w w heard (event ∷ [])
shown_other none =
    record { looks = []; calls = refl; no_record = refl; looks_are = λ config before h. rw (none config before) refl }

-- events were shown, and then more
pub shown_join : {W : Type 0} {shows : Shows W} {g g' : Gateway} {w v w' : W} {heard n : ℕ} {xs ys : List Event}
    → ((config : GatewayConfig) (before : List Event) → HasHistory config g before
    → HasHistory config g' (before ++ xs)) → n ≡ heard + length (octets xs)
    → AreShown shows g w v heard xs → AreShown shows g' v w' n ys → AreShown shows g w w' heard (xs ++ ys)
shown_join {shows = shows} {w = w} {v = v} {w' = w'} {heard = heard} {xs = xs} {ys = ys} stands count p q =
    search (rules, called_join, flat_map-append, looks_join)

-- .. and then an octet, of which nothing is shown
pub shown_heard : {W : Type 0} {shows : Shows W} {g : Gateway} {w w' : W} {heard : ℕ} (octet : ℕ) (es : List Event)
    → AreShown shows g w w' heard es → AreShown shows g w w' heard (es ++ Event.Octet octet ∷ [])
unfolding looks_at
shown_heard {heard = heard} octet es p = search (rules, looks_join, append-nil)

-- before the first record
pub none_shown : {W : Type 0} {shows : Shows W} {gateway : Gateway} {w : W} → InputsShown shows gateway w w [] []
unfolding looks_at
none_shown = record { looks = []; calls = refl; shown_are = refl; are_true = λ config before new. refl }

-- what was shown of inputs is true, and so is what is shown behind them
true_more : (config : GatewayConfig) (before : List Event) (inputs : List SessionInput) (others : List (List Event))
    (last : List Event) (looks more : List Look) → AreTrue config before (map events_in inputs) [] looks
    → AreTrue config (before ++ events_through inputs) others last more
    → AreTrue config before (map events_in inputs ++ others) last (looks ++ more)
unfolding looks_at
true_more config before [] others last looks more none behind = rw none (rw (append-nil before) at behind)
true_more config before (a ∷ inputs) others last looks more all behind = (
  all.0 ++ more,
  record {
    shown = all.1.shown;
    code = all.1.code;
    gateway = all.1.gateway;
    looks_are = rw (all.1.looks_are) (append_assoc (looks_at config before 0 (events_in a)) _ more);
    code_is = all.1.code_is;
    stands = all.1.stands;
  },
  true_more config (before ++ events_in a) inputs others last all.0 more all.2
      (rw (append_assoc before (events_in a) (events_through inputs)) behind),
)

-- inputs were shown, and then the input of one record more: its datagrams, and then the record with the code of its
-- answer
pub shown_more : {W : Type 0} {shows : Shows W} {w u v v' : W} {s s' s'' : SessionState} {x y shown z : TapeState}
    {put : GatewayConfig → List Event → List SessionInput → List ℕ} {Had : Option (List ℕ) → List ℕ → Type 0}
    {gone : Gone} {inputs : List SessionInput}
    {r : Record} {code : ℕ} → (q : ActsOn gone s' s'' shown z r) → IsCodeAfter s'.gateway r code
    → AreShown shows s'.gateway u v 0 (events_in q.input) → shows v v' (Look.Behind r code s''.gateway)
    → Follows put Had s s' x y inputs → InputsShown shows s.gateway w u inputs []
    → InputsShown shows s.gateway w v' (inputs ++ q.input ∷ []) []
unfolding looks_at
shown_more {shows = shows} {w = w} {u = u} {v = v} {v' = v'} {s'' = s''} {inputs = inputs} {r = r} {code = code} q is
    came call follows seen =
    let l : Look = Look.Behind r code s''.gateway in
    record {
      looks = seen.looks ++ (came.looks ++ l ∷ []);
      calls = called_join shows seen.looks (came.looks ++ l ∷ []) w u v' seen.calls
          (called_join shows came.looks (l ∷ []) u v v' came.calls (v', call, refl));
      shown_are = grind (arith, flat_map-append, map_push input_record inputs q.input);
      are_true = λ config before new.
          let now = before ++ events_through inputs in
          let stands = (follows.goes.hears config before new).stands in
          rw (map_push events_in inputs q.input) (true_more config before inputs (events_in q.input ∷ []) [] seen.looks
          (came.looks ++ l ∷ []) (seen.are_true config before new) (
            [],
            record {
              shown = r;
              code = code;
              gateway = s''.gateway;
              looks_are = rw (came.looks_are config now stands) refl;
              code_is = is config now stands;
              stands = (q.goes.hears config now stands).stands;
            },
            refl,
          ));
    }

-- .. and then the datagrams among the events of a record that is not shown
pub shown_last : {W : Type 0} {shows : Shows W} {w u v : W} {s s' : SessionState} {x y : TapeState}
    {put : GatewayConfig → List Event → List SessionInput → List ℕ} {Had : Option (List ℕ) → List ℕ → Type 0}
    {inputs : List SessionInput} {es : List Event} → AreShown shows s'.gateway u v 0 es → Follows put Had s s' x y inputs
    → InputsShown shows s.gateway w u inputs [] → InputsShown shows s.gateway w v inputs es
shown_last {shows = shows} {w = w} {u = u} {v = v} {inputs = inputs} {es = es} came follows seen = record {
  looks = seen.looks ++ came.looks;
  calls = called_join shows seen.looks came.looks w u v seen.calls came.calls;
  shown_are = rw (flat_map-append, came.no_record, append-nil) seen.shown_are;
  are_true = λ config before new.
      let stands = (follows.goes.hears config before new).stands in
      rw (append-nil) at (true_more config before inputs [] es seen.looks came.looks (seen.are_true config before new)
      (came.looks_are config (before ++ events_through inputs) stands));
}

-- what was shown is as true of other events at the end with the same datagrams among them
true_alike : (config : GatewayConfig) (before : List Event) (happened : List (List Event)) (last last' : List Event)
    (looks : List Look)
    → ((now : List Event) → looks_at config now 0 last ≡ looks_at config now 0 last')
    → AreTrue config before happened last looks → AreTrue config before happened last' looks
true_alike config before [] last last' looks same all = rw (← same before) all
true_alike config before (es ∷ happened) last last' looks same all =
    (all.0, all.1, true_alike config (before ++ es) happened last last' all.0 same all.2)

-- .. of all of it
pub shown_alike : {W : Type 0} {shows : Shows W} {gateway : Gateway} {w w' : W} {records : List Record}
    {happened : List (List Event)} (last last' : List Event)
    → ((config : GatewayConfig) (now : List Event) → looks_at config now 0 last ≡ looks_at config now 0 last')
    → Watched shows gateway w w' records happened last → Watched shows gateway w w' records happened last'
shown_alike {happened = happened} last last' same seen = search (rules, true_alike)
