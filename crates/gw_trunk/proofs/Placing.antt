-- The clients of a trunk at their places.
use Rattle.std.proofs.Common.{◌≡◌, ◌+◌, ◌-◌, ◌%◌, ◌<◌, ◌∷◌, ◌∙◌, ◌||◌, ℕ, suc, Bool, true, false}
use Rattle.std.proofs.Common.{List, [], ◌⊎◌, Option, Some, None, length, refl, arith, inl, inr}
use Rattle.std.specs.List.{list_all}
use Rattle.gw_records.specs.declared.records.RecordHead.{RecordHead}
use Rattle.gw_trunk.specs.declared.client.Client.{Client}
use Rattle.gw_trunk.specs.declared.client.ClientPoll.{ClientPoll}
use Rattle.gw_trunk.specs.declared.client.ClientPoll.TheVariants.{Command, Nothing, Gone}
use Rattle.gw_trunk.specs.Clients.{Stays, GaveOne, Replies, GaveNone, GaveNothing, at, is_quiet}

-- An end that was read is read.
left-once : (ended q r ended' : Bool) → q ≡ (false || ended) → ended' ≡ ended → r ≡ (q || ended')
    → r ≡ (false || ended')
left-once true q r ended' a same b = cc
left-once false q r ended' a same b = cc

-- It has left where an end was read before, or is read then.
left-then : (p q r ended ended' : Bool) → q ≡ (p || ended) → ended' ≡ ended ⊎ ended ≡ false → r ≡ (q || ended')
    → r ≡ (p || ended')
left-then true q r ended ended' a same b = cc
left-then false q r ended ended' a (inl same) b = left-once ended q r ended' a same b
left-then false q r ended ended' a (inr goes) b = cc

-- A client that stays, and then stays, does so in all. Its end was not read before, or nothing is read then.
pub stays-then : (p q r : Client) → Stays p q → (r.ended ≡ q.ended) ⊎ (q.ended ≡ false)
    → Stays q r → Stays p r
stays-then p q r a read b = record {
  start_is = b.start_is ∙ a.start_is;
  gave_is = b.gave_is ∙ a.gave_is;
  got_is = b.got_is ∙ a.got_is;
  known_is = b.known_is ∙ a.known_is;
  number_is = b.number_is ∙ a.number_is;
  left_is = left-then p.left q.left r.left q.ended r.ended a.left_is read b.left_is;
}

-- A client that stays, and then gives a record, gave it in all.
gave-then : (p q r : Client) (head : RecordHead) → Stays p q → r.ended ≡ q.ended
    → GaveOne q r head → GaveOne p r head
gave-then p q r head a read b = record {
  start_is = b.start_is ∙ a.start_is;
  gave_is = record { good = b.gave_is.good; asked_is = rw (← a.gave_is) b.gave_is.asked_is };
  got_is = b.got_is ∙ a.got_is;
  known_is = b.known_is;
  number_is = b.number_is ∙ a.number_is;
  left_is = left-then p.left q.left r.left q.ended r.ended a.left_is (inl read) b.left_is;
}

-- What a client did after it was read it did in all.
pub replies-then : (reply : ClientPoll) (p q r : Client) → Stays p q → r.ended ≡ q.ended
    → Replies reply q r → Replies reply p r
replies-then (Command head) p q r a read b = gave-then p q r head a read b
replies-then Nothing p q r a read b = (stays-then p q r a (inl read) b.0, b.1)
replies-then Gone p q r a read b = (stays-then p q r a (inl read) b.0, b.1)

-- Eight turns reach each place.
reached : (m k : ℕ) → m < 8 → k < 8 → (m + (k + 8 - m) % 8) % 8 ≡ k
reached m k a b = omega arith

-- Clients who have nothing, each at its place, are all that have.
quiet-all : (places : List (Option Client))
    → ((k : ℕ) → k < length places → is_quiet (at places k) ≡ true)
    → list_all is_quiet places ≡ true
quiet-all [] h = refl
quiet-all (p ∷ places) h =
    let first : is_quiet p ≡ true = h 0 (omega arith) in
    rw first (quiet-all places (λ k b. h (suc k) (omega arith)))

-- A place where nothing was given has nothing whole.
quiet-none : (p p' : Option Client) → GaveNone p p' → is_quiet p' ≡ true
quiet-none p None a = refl
quiet-none None (Some client) a = absurd a
quiet-none (Some client) (Some client') a = rw (a.1.none) refl

-- After eight turns none has anything.
pub quiet-round : (first turns : ℕ) (places places' : List (Option Client))
    → turns ≡ 8 → length places' ≡ 8 → GaveNothing first turns places places' → list_all is_quiet places' ≡ true
quiet-round first turns places places' all eight none = quiet-all places' (λ k b.
    let e = reached (first % 8) k (omega arith) (omega arith) in
    rw e at (quiet-none _ _ (none.asked ((k + 8 - first % 8) % 8) (omega arith))))
