-- A dropper of slots 0, one octet more.
use Rattle.std.proofs.lemmas.Grind.{common_steps}
use Rattle.std.proofs.Common.{◌≡◌, ◌+◌, ◌-◌, ◌%◌, ◌<◌, ◌≤◌, ◌++◌, ◌∷◌, ◌∙◌, ℕ, Bool, true, false, List, [], length}
use Rattle.std.proofs.Common.{refl, sym, ap, arith, append_assoc, append-nil, length-append}
use Rattle.std.specs.Prelude.{if◌then◌else◌}
use Rattle.std.proofs.lemmas.Bool.{ne_eqb}
use Rattle.std.proofs.lemmas.List.{drop-append-le}
use Rattle.trunk_filters.specs.Frames.{without_slot_0, from_frame}
use Rattle.trunk_filters.specs.Dropping.{HasFramed}
use Rattle.trunk_filters.specs.declared.begun.BegunFrame.{BegunFrame}
use Rattle.trunk_filters.proofs.Frames.{without-append, without-same, frames-are}

-- The same octets.
pub framed-same : (frame : BegunFrame) (place : ℕ) (taken taken' returned returned' : List ℕ) → taken ≡ taken'
    → returned ≡ returned' → HasFramed frame place taken returned → HasFramed frame place taken' returned'
framed-same frame place taken taken' returned returned' e f h = rw (← e, ← f) h

-- Octets of slots 1 to 31 of one frame.
without-few : (place : ℕ) (octets : List ℕ) → 0 < place → place + length octets ≤ 32
    → without_slot_0 place octets ≡ octets
unfolding without_slot_0
without-few place [] some few = refl
without-few place (x ∷ octets) some few =
    ap (λ (b : Bool). if b then without_slot_0 (place + 1) octets else x ∷ without_slot_0 (place + 1) octets)
    (ne_eqb (place % 32) 0 (λ e. absurd (omega (arith, e, some, few))))
    ∙ ap (λ xs. x ∷ xs) (without-few (place + 1) octets (omega arith) (omega (arith, few)))

-- A whole frame is behind whole frames.
one-frame : (frames octets : List ℕ) (first : ℕ) → length frames % 32 ≡ 0 → length octets ≡ 31
    → without_slot_0 0 (frames ++ first ∷ octets) ≡ without_slot_0 0 frames ++ octets
unfolding without_slot_0
one-frame frames octets first whole long =
    without-append 0 frames (first ∷ octets)
    ∙ ap (λ xs. without_slot_0 0 frames ++ xs)
    (without-same (0 + length frames) 0 (first ∷ octets) (omega (arith, whole))
    ∙ without-few 1 octets (omega arith) (omega (arith, long)))

-- One octet more, behind the begin of the first frame.
from-next : (place : ℕ) (taken : List ℕ) (octet : ℕ) → (32 - place % 32) % 32 ≤ length taken
    → from_frame place (taken ++ octet ∷ []) ≡ from_frame place taken ++ octet ∷ []
from-next place taken octet le = drop-append-le ((32 - place % 32) % 32) taken (octet ∷ []) le

-- Before the first octet.
pub nothing-framed : (frame : BegunFrame) (place : ℕ) → frame.before ≡ (32 - place % 32) % 32
    → frame.octets.items ≡ [] → frame.zero ≡ false → HasFramed frame place [] []
unfolding without_slot_0
nothing-framed frame place before items zero = grind (arith, common_steps)

-- Slot 0 of a frame.
pub frame-begun : (a b : BegunFrame) (place : ℕ) (taken returned : List ℕ) (octet : ℕ)
    → HasFramed a place taken returned → a.before ≡ 0 → a.zero ≡ false → b.before ≡ a.before → b.octets.items ≡ []
    → b.zero ≡ true → HasFramed b place (taken ++ octet ∷ []) returned
frame-begun a b place taken returned octet h begun nil before items zero = record {
  returned_are = h.returned_are ∙ frames-are place taken h.frames h.rest h.from h.whole h.short
      ∙ sym (frames-are place (taken ++ octet ∷ []) h.frames (octet ∷ []) from h.whole (omega arith));
  before = omega (arith, before, begun, h.before, length-append taken (octet ∷ []));
  frames = h.frames;
  rest = octet ∷ [];
  from = from;
  whole = h.whole;
  short = omega arith;
  none = λ e. absurd (cc (zero, e));
  some = λ e. (octet, ap (λ xs. octet ∷ xs) (sym items));
}
  where
    from : from_frame place (taken ++ octet ∷ []) ≡ h.frames ++ octet ∷ []
    from = from-next place taken octet (omega (arith, begun, h.before))
        ∙ ap (λ xs. xs ++ octet ∷ []) (h.from ∙ ap (λ xs. h.frames ++ xs) (h.none nil) ∙ append-nil h.frames)

-- Slots 1 to 30.
pub frame-more : (a b : BegunFrame) (place : ℕ) (taken returned : List ℕ) (octet : ℕ)
    → HasFramed a place taken returned → a.before ≡ 0 → a.zero ≡ true → length a.octets.items < 30
    → b.before ≡ a.before → b.octets.items ≡ a.octets.items ++ octet ∷ [] → b.zero ≡ true
    → HasFramed b place (taken ++ octet ∷ []) returned
frame-more a b place taken returned octet h begun one few before items zero = record {
  returned_are = h.returned_are ∙ frames-are place taken h.frames h.rest h.from h.whole h.short
      ∙ sym (frames-are place (taken ++ octet ∷ []) h.frames rest from h.whole short);
  before = omega (arith, before, begun, h.before, length-append taken (octet ∷ []));
  frames = h.frames;
  rest = rest;
  from = from;
  whole = h.whole;
  short = short;
  none = λ e. absurd (cc (zero, e));
  some = λ e. (first.0, ap (λ xs. first.0 ∷ xs) (sym items));
}
  where
    first : (octet : ℕ) × (h.rest ≡ octet ∷ a.octets.items)
    first = h.some one

    rest : List ℕ
    rest = first.0 ∷ (a.octets.items ++ octet ∷ [])

    short : length rest < 32
    short = omega (arith, few, length-append a.octets.items (octet ∷ []))

    from : from_frame place (taken ++ octet ∷ []) ≡ h.frames ++ rest
    from = from-next place taken octet (omega (arith, begun, h.before))
        ∙ ap (λ xs. xs ++ octet ∷ []) (h.from ∙ ap (λ xs. h.frames ++ xs) first.1)
        ∙ append_assoc h.frames (first.0 ∷ a.octets.items) (octet ∷ [])

-- The last octet of a frame.
pub frame-whole : (a b : BegunFrame) (place : ℕ) (taken returned returned' : List ℕ) (octet : ℕ)
    → HasFramed a place taken returned → a.before ≡ 0 → a.zero ≡ true → length a.octets.items ≡ 30
    → b.before ≡ a.before → b.zero ≡ false → returned' ≡ returned ++ (a.octets.items ++ octet ∷ [])
    → HasFramed b place (taken ++ octet ∷ []) returned'
frame-whole a b place taken returned returned' octet h begun one full before zero more = record {
  returned_are = more ∙ ap (λ xs. xs ++ last) (h.returned_are
      ∙ frames-are place taken h.frames h.rest h.from h.whole h.short)
      ∙ sym (one-frame h.frames last first.0 h.whole long)
      ∙ sym (frames-are place (taken ++ octet ∷ []) frames [] (from ∙ sym (append-nil frames)) whole (omega arith));
  before = omega (arith, before, begun, h.before, length-append taken (octet ∷ []));
  frames = frames;
  rest = [];
  from = from ∙ sym (append-nil frames);
  whole = whole;
  short = omega arith;
  none = λ e. refl;
  some = λ e. absurd (cc (zero, e));
}
  where
    first : (octet : ℕ) × (h.rest ≡ octet ∷ a.octets.items)
    first = h.some one

    last : List ℕ
    last = a.octets.items ++ octet ∷ []

    long : length last ≡ 31
    long = omega (arith, full, length-append a.octets.items (octet ∷ []))

    frames : List ℕ
    frames = h.frames ++ first.0 ∷ last

    whole : length frames % 32 ≡ 0
    whole = omega (arith, long, h.whole, length-append h.frames (first.0 ∷ last))

    from : from_frame place (taken ++ octet ∷ []) ≡ frames
    from = from-next place taken octet (omega (arith, begun, h.before))
        ∙ ap (λ xs. xs ++ octet ∷ []) (h.from ∙ ap (λ xs. h.frames ++ xs) first.1)
        ∙ append_assoc h.frames (first.0 ∷ a.octets.items) (octet ∷ [])
