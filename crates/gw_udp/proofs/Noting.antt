-- Events are noted one by one.
use Rattle.std.proofs.Common.{◌≡◌, ◌≢◌, ◌⊎◌, ◌<◌, ◌++◌, ◌∷◌, ◌∙◌, ◌||◌, ◌==◌, ℕ, Bool, true, false, List, []}
use Rattle.std.proofs.Common.{inl, inr, refl, sym, ap, length}
use Rattle.std.proofs.Math.Bool.{or-false}
use Rattle.std.proofs.Math.Dec.{eqb}
use Rattle.std.proofs.lemmas.Bool.Decides.{eqb_tells}
use Rattle.std.proofs.lemmas.List.{get_or-set_other, get_or-set_same}
use Rattle.std.proofs.lemmas.List.Folds.{list_any-append}
use Rattle.std.specs.Prelude.{set, if◌then◌else◌}
use Rattle.mio.specs.declared.event.event.Event.{Event}
use Rattle.mio.specs.Event.{event_token}
use Rattle.gw_udp.specs.Resting.{AreNoted, comes, rests_of}

-- what came by one event more, or by those before it
either : (one before : Bool) (rests : ℕ)
    → (if one then 0 else (if before then 0 else rests)) ≡ (if before || one then 0 else rests)
either true true rests = refl
either true false rests = refl
either false true rests = refl
either false false rests = refl

-- What came for events is noted, and then for one more.
pub noted-more : (events : List Event) (e : Event) (first rests rests' : List ℕ) → AreNoted events first rests
    → ((k : ℕ) → k < 30 → rests_of rests' k ≡ (if (event_token e).0 == k then 0 else rests_of rests k))
    → AreNoted (events ++ e ∷ []) first rests'
noted-more events e first rests rests' before one k below =
    let last : Bool = (event_token e).0 == k in
    rw (list_any-append (λ x. (event_token x).0 == k) events (e ∷ []), or-false last)
    (one k below ∙ ap (λ x. if last then 0 else x) (before k below)
    ∙ either last (comes k events) (rests_of first k))

-- A socket is noted, and no other.
pub one_noted : (rests : List ℕ) (i k : ℕ) → i < length rests
    → rests_of (set rests i 0) k ≡ (if i == k then 0 else rests_of rests k)
one_noted rests i k below = go (eqb_tells i k)
  where
    go : ((eqb i k ≡ true) × (i ≡ k)) ⊎ ((eqb i k ≡ false) × (i ≢ k))
        → rests_of (set rests i 0) k ≡ (if i == k then 0 else rests_of rests k)
    go (inl (is, same)) = rw is (rw (← same) (get_or-set_same rests i 0 0 below))
    go (inr (is, other)) = rw is (get_or-set_other rests i k 0 0 (λ e. other (sym e)))
