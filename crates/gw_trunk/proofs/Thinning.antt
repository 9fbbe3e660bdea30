-- Octets for a device that may be slow, as they pass one after another.
use Rattle.std.proofs.Common.{◌≡◌, ◌≢◌, inl, inr, ◌+◌, ◌<◌, ◌≤◌, ◌++◌, ◌∷◌, ◌∙◌, ℕ, Bool, true, false, cond, List, []}
use Rattle.std.proofs.Common.{length, flat_map, refl, sym, ap, arith, append-nil, append_assoc, length-append, take}
use Rattle.std.proofs.Common.{◌⊎◌, Result, Ok, Err, IfOk, OnErr}
use Rattle.std.specs.List.{AllByRecursion}
use Rattle.gw_trunk.specs.declared.device.DeviceFault.{DeviceFault}
use Rattle.std.proofs.lemmas.Bool.{cases_eq}
use Rattle.std.proofs.lemmas.Bool.Decides.{nat_tests}
use Rattle.std.proofs.lemmas.List.{nil_from_length, length-take-le, take-take}
use Rattle.std.proofs.Math.Seq.{take-length}
use Rattle.std.proofs.lemmas.List.Concat.{flat_map-append}
use Rattle.gw_records.specs.Streams.{at_most}
use Rattle.gw_trunk.specs.declared.multiframe_dropper.MultiframePosition.{MultiframePosition}
use Rattle.gw_trunk.specs.Multiframes.{Multiframe, IsWhole, multiframe_octets, left_of, number_discarded, IsThinned}
use Rattle.gw_trunk.specs.Multiframes.{HasWaited, HaveWaited}
use Rattle.gw_trunk.specs.Multiframes.{position_after, position_discarding, PassesOn, Steps, IsPrompt, GoesInTime}

-- What is left of octets that are discarded or not, and of more of the same.
left-goes : (discarded : Bool) (first octets more : List ℕ)
    → (first ++ cond discarded [] octets) ++ cond discarded [] more ≡ first ++ cond discarded [] (octets ++ more)
left-goes true first octets more = append-nil (first ++ [])
left-goes false first octets more = append_assoc first octets more

-- Whole multiframes, and one more.
whole-more : (ms : List Multiframe) (m : Multiframe) → AllByRecursion IsWhole ms → IsWhole m
    → AllByRecursion IsWhole (ms ++ m ∷ [])
whole-more [] m all one = (one, tt)
whole-more (n ∷ ms) m all one = (all.0, whole-more ms m all.1 one)

-- The number of those that are discarded among multiframes and one more.
number-more : (ms : List Multiframe) (m : Multiframe)
    → number_discarded (ms ++ m ∷ []) ≡ number_discarded ms + cond m.is_discarded 1 0
number-more [] m = omega arith
number-more (n ∷ ms) m = let e = number-more ms m in omega (arith, e)

-- The position if octets do not complete the multiframe.
position-goes : (position : MultiframePosition) (n : ℕ) → position.place + n ≢ 512
    → position_after position n ≡ record position { place = position.place + n }
position-goes position n more = grind (arith, nat_tests)

-- The position if octets complete the multiframe.
position-ends : (position : MultiframePosition) (n : ℕ) → position.place + n ≡ 512
    → position_after position n ≡ record position { place = 0; discards = false }
position-ends position n all = grind (arith, nat_tests)

-- Multiframes that have waited, and one more.
waited-more : (waits waits' : ℕ) (ms : List Multiframe) (m : Multiframe) → HaveWaited waits ms waits'
    → HasWaited waits' m → HaveWaited waits (ms ++ m ∷ []) m.slow_after
waited-more waits waits' [] m e one = ((one.0 ∙ sym e, one.1, one.2), refl)
waited-more waits waits' (n ∷ ms) m all one = (all.0, waited-more n.slow_after waits' ms m all.1 one)

-- More waits ended without room.
pub waited : (position : MultiframePosition) (sent left : List ℕ) (waits waits' : ℕ)
    → IsThinned position sent left waits → waits ≤ waits' → IsThinned position sent left waits'
waited position sent left waits waits' t more =
    let last = t.thinned.last in
    let has = t.thinned.last_has in
    let grows : last.slow_before ≤ waits' = omega (arith, has.0.1, has.1, more) in
    record {
      thinned = record {
        multiframes = t.thinned.multiframes;
        last = record last { slow_after = waits' };
        whole = t.thinned.whole;
        short = t.thinned.short;
        sent_are = t.thinned.sent_are;
        left_are = t.thinned.left_are;
        discarded_is = t.thinned.discarded_is;
        begun = t.thinned.begun;
        have_waited = t.thinned.have_waited;
        last_has = ((refl, grows, λ d. let one = has.0.2 d in omega (arith, one, has.1, more)), refl);
      };
      place_is = t.place_is;
      discards_is = t.discards_is;
    }

-- More octets of the last multiframe, which they do not end.
more-of : (position : MultiframePosition) (sent left left' xs : List ℕ) (waits : ℕ)
    (t : IsThinned position sent left waits)
    → position.place + length xs < 512 → left' ≡ left ++ cond position.discards [] xs
    → IsThinned (record position { place = position.place + length xs }) (sent ++ xs) left' waits
more-of position sent left left' xs waits t short e =
    let last = t.thinned.last in
    let long : length (last.octets ++ xs) ≡ position.place + length xs
    = length-append last.octets xs ∙ ap (λ (n : ℕ). n + length xs) (sym t.place_is) in
    record {
      thinned = record {
        multiframes = t.thinned.multiframes;
        last = record last { octets = last.octets ++ xs };
        whole = t.thinned.whole;
        short = omega (arith, long, short);
        sent_are = rw (t.thinned.sent_are) (append_assoc
            (flat_map multiframe_octets t.thinned.multiframes) last.octets xs);
        left_are = e ∙ rw (t.thinned.left_are, t.discards_is)
            (left-goes last.is_discarded (flat_map left_of t.thinned.multiframes) last.octets xs);
        discarded_is = t.thinned.discarded_is;
        begun = t.thinned.begun;
        have_waited = t.thinned.have_waited;
        last_has = t.thinned.last_has;
      };
      place_is = sym long;
      discards_is = t.discards_is;
    }

-- More octets of the last multiframe, which is whole with them.
rest-of : (position : MultiframePosition) (sent left left' xs : List ℕ) (waits : ℕ)
    (t : IsThinned position sent left waits)
    → position.place + length xs ≡ 512 → left' ≡ left ++ cond position.discards [] xs
    → IsThinned (record position { place = 0; discards = false }) (sent ++ xs) left' waits
rest-of position sent left left' xs waits t all e =
    let last = t.thinned.last in
    let ms = t.thinned.multiframes in
    let one : Multiframe = record last { octets = last.octets ++ xs } in
    let long : length (last.octets ++ xs) ≡ 512
    = length-append last.octets xs ∙ ap (λ (n : ℕ). n + length xs) (sym t.place_is) ∙ all in
    let number = number-more ms one in
    record {
      thinned = record {
        multiframes = ms ++ one ∷ [];
        last = record {
          octets = [];
          is_discarded = false;
          slow_before = last.slow_after;
          slow_after = last.slow_after;
        };
        whole = whole-more ms one t.thinned.whole long;
        short = omega arith;
        sent_are = rw (t.thinned.sent_are, flat_map-append, append-nil, append-nil)
            (append_assoc (flat_map multiframe_octets ms) last.octets xs);
        left_are = e ∙ rw (t.thinned.left_are, t.discards_is, flat_map-append, append-nil, append-nil)
            (left-goes last.is_discarded (flat_map left_of ms) last.octets xs);
        discarded_is = t.thinned.discarded_is ∙ ap at_most (omega (arith, number));
        begun = t.thinned.begun;
        have_waited = waited-more t.thinned.begun last.slow_before ms one t.thinned.have_waited
            (t.thinned.last_has.0);
        last_has = ((refl, omega arith, λ d. absurd (cc)), t.thinned.last_has.1);
      };
      place_is = refl;
      discards_is = refl;
    }

-- Octets pass of a multiframe that goes on, or is discarded.
passes : (position position' : MultiframePosition) (sent left left' xs : List ℕ) (waits : ℕ)
    → IsThinned position sent left waits
    → PassesOn position position' left left' xs → IsThinned position' (sent ++ xs) left' waits
passes position position' sent left left' xs waits t p = elim (cases_eq (position.place + length xs) 512) [
  | inl all ↦ rw (p.position_is, position-ends position (length xs) all)
      (rest-of position sent left left' xs waits t all p.left_is)
  | inr more ↦ rw (p.position_is, position-goes position (length xs) more)
      (more-of position sent left left' xs waits t (omega (arith, p.fits, more)) p.left_is)
]

-- One more of this many that are counted up to the greatest u64.
one-more-of : (discarded n : ℕ) → discarded ≡ at_most (n + 0) → at_most (discarded + 1) ≡ at_most (n + 1)
one-more-of discarded n e = omega (arith, e)

-- A multiframe of which nothing has come is discarded, when a wait has ended without room.
discards : (position : MultiframePosition) (sent left : List ℕ) (waits waits' : ℕ)
    → IsThinned position sent left waits → waits < waits' → position.place ≡ 0
    → position.discards ≡ false → IsThinned (position_discarding position) sent left waits'
discards position sent left waits waits' t wait none goes =
    let last = t.thinned.last in
    let has = t.thinned.last_has in
    let empty : last.octets ≡ [] = nil_from_length last.octets (sym t.place_is ∙ none) in
    let kept : last.is_discarded ≡ false = sym t.discards_is ∙ goes in
    let number : position.discarded ≡ at_most (number_discarded t.thinned.multiframes + 0)
    = rw kept at (t.thinned.discarded_is) in
    let one : last.slow_before < waits' = omega (arith, has.0.1, has.1, wait) in
    record {
      thinned = record {
        multiframes = t.thinned.multiframes;
        last = record {
          octets = [];
          is_discarded = true;
          slow_before = last.slow_before;
          slow_after = waits';
        };
        whole = t.thinned.whole;
        short = omega arith;
        sent_are = t.thinned.sent_are ∙ rw empty refl;
        left_are = t.thinned.left_are ∙ rw (kept, empty) refl;
        discarded_is = one-more-of position.discarded (number_discarded t.thinned.multiframes) number;
        begun = t.thinned.begun;
        have_waited = t.thinned.have_waited;
        last_has = ((refl, omega (arith, one), λ d. one), refl);
      };
      place_is = none;
      discards_is = refl;
    }

-- Octets of a multiframe were taken.
pub steps-on : (position position' : MultiframePosition) (sent left left' xs : List ℕ) (waits waits' : ℕ)
    → IsThinned position sent left waits
    → Steps position position' left left' xs waits waits' → IsThinned position' (sent ++ xs) left' waits'
steps-on position position' sent left left' xs waits waits' t (inl (more, p)) =
    passes position position' sent left left' xs waits' (waited position sent left waits waits' t more) p
steps-on position position' sent left left' xs waits waits' t (inr (wait, none, goes, p)) =
    passes (position_discarding position) position' sent left left' xs waits'
    (discards position sent left waits waits' t wait none goes) p

-- Before the first octet.
pub none-sent : (position : MultiframePosition) (sent left : List ℕ) (waits : ℕ) → sent ≡ [] → left ≡ []
    → position.place ≡ 0 → position.discards ≡ false → position.discarded ≡ 0 → IsThinned position sent left waits
none-sent position sent left waits a b c d e = record {
  thinned = record {
    multiframes = [];
    last = record { octets = []; is_discarded = false; slow_before = waits; slow_after = waits };
    whole = tt;
    short = omega arith;
    sent_are = a;
    left_are = b;
    discarded_is = e;
    begun = waits;
    have_waited = refl;
    last_has = ((refl, omega arith, λ d. absurd (cc)), refl);
  };
  place_is = c;
  discards_is = d;
}

-- Of none that are discarded the first is not, and none of the others.
none-of : (discarded : Bool) (n : ℕ) → cond discarded 1 0 + n ≡ 0 → (discarded ≡ false) × (n ≡ 0)
none-of true n e = absurd (omega (arith, e))
none-of false n e = (refl, omega (arith, e))

-- Where no multiframe is discarded all is left.
all-left : (ms : List Multiframe) → number_discarded ms ≡ 0 → flat_map left_of ms ≡ flat_map multiframe_octets ms
all-left [] none = refl
all-left (m ∷ ms) none =
    let none-is = none-of m.is_discarded (number_discarded ms) none in
    rw (none-is.0) (ap (λ (xs : List ℕ). m.octets ++ xs) (all-left ms none-is.1))

-- The first octets of these were taken, which are of the multiframe in hand.
pub stepped : (position position' : MultiframePosition) (sent left left' octets : List ℕ) (most n waits waits' : ℕ)
    → IsThinned position sent left waits
    → Steps position position' left left' (take n (take most octets)) waits waits' → most ≤ length octets
    → n ≤ length (take most octets) → IsThinned position' (sent ++ take n octets) left' waits'
stepped position position' sent left left' octets most n waits waits' t steps fits bound =
    let long : length (take most octets) ≡ most = length-take-le most octets fits in
    let front : take n (take most octets) ≡ take n octets = take-take n most octets (omega (arith, bound, long)) in
    steps-on position position' sent left left' (take n octets) waits waits' t (rw front at steps)

-- Octets that were sent went in time.
pub in-time : (position : MultiframePosition) (sent went held : List ℕ) (waits : ℕ)
    → IsThinned position sent (went ++ held) waits
    → (waits ≡ 0 → IsPrompt held position) → GoesInTime sent went position.discarded waits
in-time position sent went held waits t prompt = record {
  untaken = held;
  thinned = t.thinned;
  prompt = λ e. let p = prompt e in (
    sym (append-nil went) ∙ rw (p.none_held) at (t.thinned.left_are)
        ∙ rw (
          all-left t.thinned.multiframes (omega (arith, t.thinned.discarded_is, p.none_discarded)),
          sym t.discards_is ∙ p.goes,
        )
        (sym t.thinned.sent_are),
    p.none_discarded,
  );
}

-- A device that was given what was held for it: nothing is held now if no wait ended without room.
pub finished : (position : MultiframePosition) (held held' : List ℕ) (before after : ℕ) → before ≤ after
    → length held' ≤ length held → (before ≡ 0 → IsPrompt held position) → after ≡ 0 → IsPrompt held' position
finished position held held' before after grows shorter prompt e =
    let p = prompt (omega (arith, grows, e)) in record {
      none_held = nil_from_length held' (omega (arith, shorter, ap length p.none_held));
      goes = p.goes;
      none_discarded = p.none_discarded;
    }

-- What is held after it was given to a device: none, or a wait ended without room, or for another reason.
pub given-by : {A B C : Type 0} (r : Result Bool DeviceFault) → IfOk r (λ all. all ≡ true → A)
    → IfOk r (λ all. all ≡ false → B) → OnErr r C → A ⊎ (B ⊎ C)
given-by (Ok true) all slow err = inl (all refl)
given-by (Ok false) all slow err = inr (inl (slow refl))
given-by (Err fault) all slow err = inr (inr err)

-- Octets of a multiframe pass behind what went.
passes-behind : (position position' : MultiframePosition) (left went held held' octets : List ℕ)
    → went ++ held ≡ left ++ [] → PassesOn position position' held held' octets
    → PassesOn position position' left (went ++ held') octets
passes-behind position position' left went held held' octets e p = record {
  fits = p.fits;
  position_is = p.position_is;
  left_is = rw (p.left_is) (sym (append_assoc went held (cond position.discards [] octets))
      ∙ ap (λ (l : List ℕ). l ++ cond position.discards [] octets) (e ∙ append-nil left));
}

-- Octets are taken behind what went.
pub behind-steps : (position position' : MultiframePosition) (left went held held' octets : List ℕ) (waits waits' : ℕ)
    → went ++ held ≡ left ++ [] → Steps position position' held held' octets waits waits'
    → Steps position position' left (went ++ held') (take (length octets) octets) waits waits'
behind-steps position position' left went held held' octets waits waits' e (inl (more, p)) =
    rw (take-length octets) (inl (more, passes-behind position position' left went held held' octets e p))
behind-steps position position' left went held held' octets waits waits' e (inr (wait, none, goes, p)) =
    rw (take-length octets) (inr (
      wait,
      none,
      goes,
      passes-behind (position_discarding position) position' left went held held' octets e p,
    ))
