-- An alignment, one octet more.
use Rattle.std.proofs.Common.{rules, ◌≡◌, ℕ, suc, ◌+◌, ◌-◌, ◌*◌, ◌<◌, ◌≤◌, ◌%◌, ◌/◌, List, [], ◌∷◌, ◌++◌, length, Bool}
use Rattle.std.proofs.Common.{true, false, not, refl, sym, ap, ◌∙◌, arith}
use Rattle.std.proofs.lemmas.Grind.{common_steps}
use Rattle.std.specs.Prelude.{◌≢◌, ◌&&◌, ◌||◌, slice_index}
use Rattle.std.proofs.lemmas.List.{length_push, get_or_push}
use Rattle.std.proofs.lemmas.Bool.{cases_eq, cases_lt, ne_eqb, not-true, lt-ltb}
use Rattle.g704_framing.proofs.Ends.{kept-more}
use Rattle.g704_cas.specs.Search.{is_mfas}
use Rattle.g704_slots.specs.Search.{is_right, is_found}
use Rattle.g704_slots.specs.Loss.{slot_16, is_only_signal, is_wrong, is_second_in_error}
use Rattle.g704_slots.specs.Mover.{IsAlignedRun, IsFollowed}
use Rattle.g704_slots.proofs.Wholes.{one-some, whole-parts, found-parts, found-within, found-append}
use Rattle.g704_slots.proofs.Losses.{is_only_signal-none, is_only_signal-more, is_only_signal-append, is_wrong-other}
use Rattle.g704_slots.proofs.Losses.{is_wrong-at, is_wrong-append, second-early, second-other}
use Rattle.g704_slots.proofs.Framing.{slot_16_is_framed}

-- what is right in a frame that has the signal
right-signal : (frame octet : ℕ) → frame % 16 ≡ 0 → is_right frame octet ≡ true → is_mfas octet ≡ true
right-signal f o e r = rw e at r

-- and in another one
right-other : (frame octet : ℕ) → frame % 16 ≢ 0 → is_right frame octet ≡ true → is_mfas octet ≡ false
right-other f o ne r = not-true _ (rw (ne_eqb (f % 16) 0 ne) at r)

-- one octet of slot 16 that is not the signal is enough
not-zero : (octets : List ℕ) (signal count later : ℕ) → later < count
    → is_mfas (slice_index octets (signal + 31 * suc later)) ≡ false → is_only_signal octets signal count ≡ false
unfolding is_only_signal
not-zero c s n j lt e = one-some _ n j lt (ap not e)

-- four multiframes and the signal behind them
module _ (c : List ℕ) (len : length c ≡ 1985) (found : is_found c 0 ≡ true) where
  -- the last three are whole
  right : (f : ℕ) → f < 49 → is_right f (slice_index c (496 + 31 * f)) ≡ true
  right f lt = let h = whole-parts c 496 (found-parts c 0 found).0 in h.1 f lt

  -- so no signal is in error behind the second
  not-wrong : (k : ℕ) → 496 < k → k < 1985 → k % 496 ≡ 0 → is_wrong c k ≡ false
  not-wrong k gt lt e =
      let f = (k - 496) / 31 in
      let g = (k - 992) / 31 + 1 in
      let at_f : 496 + 31 * f ≡ k = omega arith in
      let at_g : 496 + 31 * g ≡ k - 496 + 31 * 1 = omega arith in
      let signal : is_mfas (slice_index c k) ≡ true
      = ap (λ n. is_mfas (slice_index c n)) (sym at_f)
      ∙ right-signal f (slice_index c (496 + 31 * f)) (omega arith) (right f (omega arith)) in
      let other : is_mfas (slice_index c (k - 496 + 31 * 1)) ≡ false
      = ap (λ n. is_mfas (slice_index c n)) (sym at_g)
      ∙ right-other g (slice_index c (496 + 31 * g)) (omega arith) (right g (omega arith)) in
      is_wrong-at c k e ∙ rw (signal, not-zero c (k - 496) 15 0 (omega arith) other) refl

  -- nor is it lost
  found-kept : (k : ℕ) → k < 1985 → is_second_in_error c k ≡ false
  found-kept k lt = search (rules, cases_eq, second-other, is_wrong-other, cases_lt, second-early, not-wrong)

  -- they are an alignment
  pub alignment-found : IsFollowed 0 30 false true c
  alignment-found = search (rules, found-kept, not-wrong, is_only_signal-none)

-- an alignment after one octet more
module _ (c : List ℕ) (x age : ℕ) (wrong zero : Bool) (h : IsAlignedRun age wrong zero c) where
  long : 1984 < length c
  long = let n = found-within c 0 h.found in omega arith

  -- its fields, if it is not lost by the octet
  more : (wrong' zero' : Bool) → is_second_in_error (c ++ x ∷ []) (length c) ≡ false
      → ((s : ℕ) → s < length c + 1 → length c + 1 ≤ s + 496 → s % 496 ≡ 0
      → (wrong' ≡ is_wrong (c ++ x ∷ []) s) × (zero' ≡ is_only_signal (c ++ x ∷ []) s ((length c - s) / 31)))
      → IsAlignedRun ((age + 1) % 496) wrong' zero' (c ++ x ∷ [])
  more wrong' zero' now l = let p = length_push c x in let a = h.counted in let n = long in record {
    found = found-append c (x ∷ []) 0 n ∙ h.found;
    counted = omega arith;
    kept = kept-more slot_16 slot_16_is_framed c x h.kept now;
    last = grind (arith, common_steps);
  }

  -- the last signal is the one before, with the octets of slot 16 since
  before : (s : ℕ) → s < length c → length c + 1 ≤ s + 496 → s % 496 ≡ 0
      → (wrong ≡ is_wrong (c ++ x ∷ []) s) × (zero ≡ is_only_signal (c ++ x ∷ []) s ((length c - s - 1) / 31))
  before s lt le e = search (rules, long, is_wrong-append, is_only_signal-append)

  -- the octet is not in slot 16
  other-more : age % 31 ≢ 0 → IsAlignedRun ((age + 1) % 496) wrong zero (c ++ x ∷ [])
  other-more ne =
      let apart : length c % 31 ≢ 0 = λ e. ne (omega (arith, e)) in
      let between : length c % 496 ≢ 0 = λ e. apart (omega (arith, e)) in
      more wrong zero (second-other (c ++ x ∷ []) (length c) (is_wrong-other (c ++ x ∷ []) (length c) between))
      (λ s lt le e.
      let not_here : s ≢ length c = λ q. between (omega (arith, q)) in
      let r = before s (omega arith) le e in
      let same : (length c - s) / 31 ≡ (length c - s - 1) / 31 = omega arith in
      (r.0, rw same r.1))

  -- it is there, and between two signals
  slot-more : age ≢ 0 → age % 31 ≡ 0 → IsAlignedRun ((age + 1) % 496) wrong (zero && is_mfas x) (c ++ x ∷ [])
  slot-more ne z =
      let between : length c % 496 ≢ 0 = λ e. ne (omega (arith, e)) in
      more wrong (zero && is_mfas x)
      (second-other (c ++ x ∷ []) (length c) (is_wrong-other (c ++ x ∷ []) (length c) between))
      (λ s lt le e.
      let not_here : s ≢ length c = λ q. between (omega (arith, q)) in
      let r = before s (omega arith) le e in
      let n = (length c - s - 1) / 31 in
      let one : (length c - s) / 31 ≡ suc n = omega arith in
      let at : length c ≡ s + 31 * suc n = omega arith in
      let last : is_mfas (slice_index (c ++ x ∷ []) (s + 31 * suc n)) ≡ is_mfas x
      = ap is_mfas (get_or_push c x 0 (s + 31 * suc n) at) in
      (r.0, rw (one, is_only_signal-more (c ++ x ∷ []) s n, last, ← r.1) refl))

  -- whether a signal is in error
  pub errored-is : age ≡ 0 → is_wrong (c ++ x ∷ []) (length c) ≡ (not (is_mfas x) || zero)
  errored-is z =
      let n = long in
      let e : length c % 496 ≡ 0 = omega arith in
      let l = h.last (length c - 496) (omega arith) (omega arith) (omega arith) in
      let all : (length c - (length c - 496) - 1) / 31 ≡ 15 = omega arith in
      let nothing : zero ≡ is_only_signal c (length c - 496) 15 = l.1 ∙ ap (is_only_signal c (length c - 496)) all in
      is_wrong-at (c ++ x ∷ []) (length c) e
      ∙ rw (
        get_or_push c x 0 (length c) refl,
        is_only_signal-append c (x ∷ []) (length c - 496) 15 (omega arith),
        ← nothing,
      ) refl

  -- and is the second
  second-now : age ≡ 0 → is_second_in_error (c ++ x ∷ []) (length c) ≡ ((not (is_mfas x) || zero) && wrong)
  second-now z = search (rules, long, lt-ltb, errored-is, is_wrong-append)

  -- the octet is a signal, by which it is not lost
  signal-more : (errored : Bool) → age ≡ 0 → errored ≡ (not (is_mfas x) || zero) → (errored && wrong) ≡ false
      → IsAlignedRun ((age + 1) % 496) errored true (c ++ x ∷ [])
  signal-more errored z is passed =
      more errored true (second-now z ∙ ap (λ b. b && wrong) (sym is) ∙ passed)
      (λ s lt le e.
      let here : s ≡ length c = omega arith in
      let none : (length c - s) / 31 ≡ 0 = omega arith in (
        is ∙ sym (errored-is z) ∙ ap (is_wrong (c ++ x ∷ [])) (sym here),
        rw none (sym (is_only_signal-none (c ++ x ∷ []) s)),
      ))

  -- or it is
  signal-lost : (errored : Bool) → age ≡ 0 → errored ≡ (not (is_mfas x) || zero) → errored ≡ true → wrong ≡ true
      → is_second_in_error (c ++ x ∷ []) (length c) ≡ true
  signal-lost errored z is e w = second-now z ∙ rw (← is, e, w) refl

-- an alignment that is followed, after one octet more
module _ (c : List ℕ) (x frame pass : ℕ) (wrong zero : Bool) (h : IsFollowed frame pass wrong zero c) where
  -- one that passes
  pub followed-passed : 0 < pass → IsFollowed frame (pass - 1) wrong zero (c ++ x ∷ [])
  followed-passed some =
      let f = h.in_multiframe in
      let age = (31 * frame + (31 - pass)) % 496 in
      let apart : age % 31 ≢ 0 = λ e. (omega (arith, e)) in
      let next : (31 * frame + (31 - (pass - 1))) % 496 ≡ (age + 1) % 496 = omega arith in
      record {
        in_multiframe = f;
        in_frame = omega arith;
        run = rw next (other-more c x age wrong zero h.run apart);
      }

  -- one of slot 16 between two signals
  pub followed-slot : pass ≡ 0 → frame < 15 → IsFollowed (frame + 1) 30 wrong (zero && is_mfas x) (c ++ x ∷ [])
  followed-slot none few =
      let age = (31 * frame + (31 - pass)) % 496 in
      let whole : age % 31 ≡ 0 = omega arith in
      let between : age ≢ 0 = λ e. (omega (arith, e)) in
      let next : (31 * (frame + 1) + (31 - 30)) % 496 ≡ (age + 1) % 496 = omega arith in
      record {
        in_multiframe = omega arith;
        in_frame = omega arith;
        run = rw next (slot-more c x age wrong zero h.run between whole);
      }

  -- a signal by which slot 16 is not lost
  pub followed-signal : (errored : Bool) → pass ≡ 0 → 15 ≤ frame → errored ≡ (not (is_mfas x) || zero)
      → (errored && wrong) ≡ false → IsFollowed 0 30 errored true (c ++ x ∷ [])
  followed-signal errored none last is passed =
      let age = (31 * frame + (31 - pass)) % 496 in
      let start : age ≡ 0 = omega arith in
      let next : (31 * 0 + (31 - 30)) % 496 ≡ (age + 1) % 496 = omega arith in
      record {
        in_multiframe = omega arith;
        in_frame = omega arith;
        run = rw next (signal-more c x age wrong zero h.run errored start is passed);
      }

  -- or it is
  pub followed-lost : (errored : Bool) → pass ≡ 0 → 15 ≤ frame → errored ≡ (not (is_mfas x) || zero)
      → errored ≡ true → wrong ≡ true → is_second_in_error (c ++ x ∷ []) (length c) ≡ true
  followed-lost errored none last is e w = search (rules, signal-lost)
