-- Events are noted one by one.
use Rattle.std.proofs.Common.{◌≡◌, ◌+◌, ◌<◌, ◌++◌, ◌∷◌, ◌∙◌, ◌||◌, ◌&&◌, ◌==◌, ℕ, Bool, true, false, List, []}
use Rattle.std.proofs.Common.{Option, Some, None, map, refl, ap}
use Rattle.std.specs.List.{list_any}
use Rattle.std.proofs.lemmas.List.{map-append}
use Rattle.mio.specs.declared.event.event.Event.{Event}
use Rattle.mio.specs.Event.{event_token, is_read_closed}
use Rattle.gw_trunk.specs.declared.client.Client.{Client}
use Rattle.gw_trunk.specs.Clients.{AreWoken, IsWokenAt, at, comes}

-- one of three is
or-turned : (a b c : Bool) → (a || (b || c)) ≡ (b || (a || c))
or-turned true true c = refl
or-turned true false c = refl
or-turned false b c = refl

-- .. however they are joined
or-joined : (a b c : Bool) → (a || (b || c)) ≡ ((a || b) || c)
or-joined true b c = refl
or-joined false b c = refl

-- Whether one of some passes a test, or one more.
any-more : {X : Type 0} (test : X → Bool) (xs : List X) (x : X)
    → list_any test (xs ++ x ∷ []) ≡ (test x || list_any test xs)
any-more test [] x = refl
any-more test (y ∷ xs) x = ap (λ b. test y || b) (any-more test xs x) ∙ or-turned (test y) (test x) (list_any test xs)

-- A client that was woken, and is woken again, is woken by both.
woken-then : (a b left left' : Bool) (p q r : Option Client) → IsWokenAt a left p q
    → IsWokenAt b left' q r → IsWokenAt (b || a) (left' || left) p r
woken-then a b left left' None None None x y = tt
woken-then a b left left' None None (Some r) x y = absurd y
woken-then a b left left' None (Some q) r x y = absurd x
woken-then a b left left' (Some p) None r x y = absurd x
woken-then a b left left' (Some p) (Some q) None x y = absurd y
woken-then a b left left' (Some p) (Some q) (Some r) x y = record {
  stream_is = y.stream_is ∙ x.stream_is;
  held_is = y.held_is ∙ x.held_is;
  ended_is = y.ended_is ∙ x.ended_is;
  start_is = y.start_is ∙ x.start_is;
  gave_is = y.gave_is ∙ x.gave_is;
  got_is = y.got_is ∙ x.got_is;
  known_is = y.known_is ∙ x.known_is;
  number_is = y.number_is ∙ x.number_is;
  ready_is = y.ready_is ∙ ap (λ r. b || r) x.ready_is ∙ or-joined b a p.ready;
  left_is = y.left_is ∙ ap (λ l. left' || l) x.left_is ∙ or-joined left' left p.left;
}

-- the values of references, and of one more
pub values-more : {A B : Type 0} (f : A → B) (events : List A) (e : A)
    → map f (events ++ e ∷ []) ≡ map f events ++ f e ∷ []
values-more f events e = map-append f events (e ∷ [])

-- An event more is of a token, or one before it.
pub comes-more : (token : ℕ) (events : List Event) (e : Event) (old new first : Bool)
    → new ≡ ((event_token e).0 == token || old) → old ≡ (comes token events || first)
    → new ≡ (comes token (events ++ e ∷ []) || first)
comes-more token events e old new first a b =
    rw (any-more (λ x. (event_token x).0 == token) events e)
    (a ∙ ap (λ x. (event_token e).0 == token || x) b
    ∙ or-joined ((event_token e).0 == token) (comes token events) first)

-- Clients that were woken by events are woken by one more.
pub woken-more : (events : List Event) (e : Event)
    (first places places' : List (Option Client)) → AreWoken events first places
    → ((k : ℕ) → k < 8 → IsWokenAt ((event_token e).0 == k + 2) ((event_token e).0 == k + 2 && is_read_closed e)
    (at places k) (at places' k)) → AreWoken (events ++ e ∷ []) first places'
woken-more events e first places places' before one k b =
    rw (
      any-more (λ x. (event_token x).0 == k + 2) events e,
      any-more (λ x. (event_token x).0 == k + 2 && is_read_closed x) events e,
    )
    (woken-then _ _ _ _ _ _ _ (before k b) (one k b))
