-- What a filter returns that is used or not, and what is held of it.
use Rattle.std.proofs.Common.{◌≡◌, ◌++◌, ◌∙◌, ◌≤◌, ℕ, Bool, List, Option, Some, None, [], length, take, drop, sym, ap}
use Rattle.std.proofs.Common.{append-nil, arith, false, true, inl, inr, refl, ◌∷◌, ◌<◌}
use Rattle.std.proofs.lemmas.List.{length-take-le, take-append-drop}
use lib.Seq.{take-append_seam}
use Rattle.std.specs.Prelude.{MatchOption, is_some}
use Rattle.trunk_filters.specs.Filters.{ReturnsIf}
use Rattle.trunk_filters.specs.Outgoing.{WasOffered, WasOfferedOrNone}

-- By whether it is used, in words that follow from its own.
pub returned-if : {F : Type 0} (Has : F → List ℕ → List ℕ → Type 0) (Returns : List ℕ → List ℕ → Type 0)
    (filter : Option F) (is_on : Bool) (octets returned : List ℕ) → is_some filter ≡ is_on
    → ((f : F) → Has f octets returned → Returns octets returned)
    → MatchOption filter (returned ≡ octets) (λ f. Has f octets returned) → ReturnsIf is_on Returns octets returned
returned-if Has Returns None is_on octets returned e said r = rw (← e) r
returned-if Has Returns (Some f) is_on octets returned e said r = rw (← e) (said f r)

-- What stands in front of the rest of a room, as long as the front of the room before it.
pub front-is : (n : ℕ) (xs rest room : List ℕ) → length xs ≡ length (take n room) → n ≤ length room
    → take n (xs ++ rest) ≡ xs
front-is n xs rest room long most =
    ap (λ (k : ℕ). take k (xs ++ rest)) (sym (length-take-le n room most) ∙ sym long) ∙ take-append_seam xs rest

-- A device was given octets, and took the first of them.
pub took-first : (WasGiven : List ℕ → Type 0) (n : ℕ) (octets held left : List ℕ) → left ≡ drop n held
    → WasGiven octets → octets ≡ held → WasOffered WasGiven left
took-first WasGiven n octets held left rest given same = (take n held, rw (rest, take-append-drop, ← same) given)

-- More octets were passed when nothing was held any more: what went and is held now is what is returned for all.
pub passed-more : (Had Has : List ℕ → List ℕ → Type 0) (log log' returned went held octets given all : List ℕ)
    → ((taken before : List ℕ) → Had taken before → Has (taken ++ octets) (before ++ given))
    → went ++ held ≡ returned → held ≡ [] → log' ≡ log ++ octets → all ≡ went ++ given
    → Had log returned → Has log' all
passed-more Had Has log log' returned went held octets given all stands kept none same more had =
    let front : went ≡ returned = sym (append-nil went) ∙ ap (λ (xs : List ℕ). went ++ xs) (sym none) ∙ kept in
    rw (more, same) (stands log went (rw front had))

-- What was returned was offered, if it is something.
pub offered-if : (may_return_none : Bool) (WasGiven : List ℕ → Type 0) (held left : List ℕ)
    → (may_return_none ≡ false → 0 < length held) → (held ≡ [] → left ≡ [])
    → (0 < length held → WasOffered WasGiven left) → WasOfferedOrNone may_return_none WasGiven left
offered-if true WasGiven [] left some none given = inl (refl, none refl)
offered-if true WasGiven (x ∷ held) left some none given = inr (given (omega arith))
offered-if false WasGiven held left some none given = inr (given (some refl))

-- A filter that is off has returned more octets as they came, where nothing is held.
pub passed-on : (Has : List ℕ → List ℕ → Type 0) (log log' went went' held octets : List ℕ)
    → ((taken returned octets : List ℕ) → Has taken returned → Has (taken ++ octets) (returned ++ octets))
    → held ≡ [] → log' ≡ log ++ octets → went' ≡ went ++ octets → Has log (went ++ held) → Has log' (went' ++ held)
passed-on Has log log' went went' held octets off none log-is went-is h =
    rw (none, log-is, went-is, append-nil (went ++ octets)) (off log went octets (rw (none, append-nil went) at h))
