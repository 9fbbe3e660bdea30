-- What writes to the stores of a pair make of its areas.
use Rattle.std.proofs.Common.{◌≡◌, ◌∙◌, ◌+◌, ◌<◌, ◌≤◌, ◌^◌, ◌++◌, [], ℕ, List, length, take, drop, refl, sym, ap, arith}
use Rattle.std.proofs.Common.{append_assoc, inl, inr, ⊎_elim, ◌⊎◌, replicate, Option, Result, Ok, Err, OnOk, OnErr}
use Rattle.std.proofs.lemmas.List.{drop_at, take_at, length-append}
use Rattle.std.proofs.lemmas.List.Elements.{All-replicate}
use Rattle.log_files.specs.Area.{IsArea, IsBlank, head, head_of}
use Rattle.log_files.specs.Pairs.{Counts, Has, HasMore, Kept, MayHaveMore, MayLeave, begun, both}
use Rattle.log_files.specs.Stores.{IsWrittenAt, WhereKnown, WritesHead}
use Rattle.log_files.specs.declared.store.StoreFault.{StoreFault}
use Rattle.log_files.proofs.Known.{where_both, where_same, where_so, where_then}

-- how long a head is
pub length-head : (turn : ℕ) (octets : List ℕ) → length (head turn octets) ≡ 24
unfolding head_of
length-head turn octets = refl

-- what a head that was written is before
front : (turn : ℕ) (octets : List ℕ) {old new : List ℕ} → IsWrittenAt 0 (head turn octets) old new
    → new ≡ head turn octets ++ drop 24 old
front turn octets {old = old} w =
    let n : 0 + length (head turn octets) ≡ 24 = omega (arith, length-head turn octets) in
    w.is ∙ ap (λ (n : ℕ). head turn octets ++ drop n old) n

-- no octet of a head is there, but these are behind where it would be
pub record IsHidden (content octets : List ℕ) : Type 0 where
  pub behind : List ℕ
  pub content_is : content ≡ replicate 24 0 ++ (octets ++ behind)

-- a head is taken away
pub hidden : {old new : List ℕ} → IsWrittenAt 0 (replicate 24 0) old new → IsHidden new []
hidden {old = old} w = record { behind = drop 24 old; content_is = w.is }

-- .. in a store
pub hides_head : {a b : Option (List ℕ)} → WhereKnown a b (IsWrittenAt 0 (replicate 24 0))
    → WhereKnown a b (λ _ new. IsHidden new [])
hides_head w = where_so (λ _ new. IsHidden new []) w (λ x y is. hidden is)

-- octets are written behind where it was
pub hidden_more : {old new octets before : List ℕ} → IsHidden old before → IsWrittenAt 24 octets old new
    → IsHidden new octets
hidden_more {old = old} {octets = octets} h w = record {
  behind = drop (24 + length octets) old;
  content_is = w.is ∙ ap (λ (xs : List ℕ). take 24 xs ++ (octets ++ drop (24 + length octets) old)) h.content_is;
}

-- where it was all is zero
pub hidden_blank : {content octets : List ℕ} → IsHidden content octets → IsBlank content
hidden_blank h = rw h.content_is (All-replicate (λ (x : ℕ). x ≡ 0) 24 0 refl)

module _ {turn : ℕ} (turn_fits : turn < 2 ^ 64) where
  -- the head of octets that are there is written
  pub shown : {old new octets : List ℕ} → length octets < 2 ^ 32 → IsHidden old octets
      → IsWrittenAt 0 (head turn octets) old new → IsArea new turn octets
  shown {octets = octets} few h w = record {
    behind = h.behind;
    content_is = front turn octets w ∙ ap (λ (xs : List ℕ). head turn octets ++ drop 24 xs) h.content_is;
    turn_fits = turn_fits;
    len_fits = few;
  }

  -- the head of no octet is written
  pub emptied : {old new : List ℕ} → IsWrittenAt 0 (head turn []) old new → IsArea new turn []
  emptied {old = old} w = record {
    behind = drop 24 old;
    content_is = front turn [] w;
    turn_fits = turn_fits;
    len_fits = omega arith;
  }

  -- octets are written behind those of an area, which stay
  pub behind_them : {old new octets : List ℕ} (more : List ℕ) → IsArea old turn octets
      → IsWrittenAt (24 + length octets) more old new
      → (behind : List ℕ) × (new ≡ head turn octets ++ (octets ++ (more ++ behind)))
  behind_them {old = old} {octets = octets} more a w =
      let before = head turn octets ++ octets in
      let rest = drop (24 + length octets + length more) old in
      let count : length before ≡ 24 + length octets =
      length-append (head turn octets) octets ∙ ap (λ (n : ℕ). n + length octets) (length-head turn octets) in
      let whole : old ≡ before ++ a.behind =
      a.content_is ∙ sym (append_assoc (head turn octets) octets a.behind) in
      let first : take (24 + length octets) old ≡ before =
      ap (take (24 + length octets)) whole ∙ take_at before a.behind (24 + length octets) count in (
        rest,
        w.is ∙ ap (λ (xs : List ℕ). xs ++ (more ++ rest)) first
            ∙ append_assoc (head turn octets) octets (more ++ rest),
      )

-- what the state's store held first, and that its head was taken away and octets are behind it
abbrev Hides : Option (List ℕ) → Option (List ℕ) → List ℕ → Type 0
Hides a b octets = WhereKnown a b (λ _ new. IsHidden new octets)

module _ {turn : ℕ} (turn_fits : turn < 2 ^ 64) (state : List ℕ) (few : length state < 2 ^ 32) where
  -- a state's head was taken away, or was not
  pub leaves_first : {a b : Option (List ℕ)} (r : Option (List ℕ))
      → WhereKnown a b (λ old new. (new ≡ old) ⊎ (IsWrittenAt 0 (replicate 24 0) old new))
      → WhereKnown (both a r) (both b r) (MayLeave (begun turn state))
  leaves_first r w = where_both (MayLeave (begun turn state)) w (where_same r (λ x y. y ≡ x) (λ x. refl))
      (λ a b x y p q. ⊎_elim (λ (same : b ≡ a). inl (cc))
      (λ (is : IsWrittenAt 0 (replicate 24 0) a b). inr (inl (hidden_blank (hidden is)))) p)

  -- it was, and octets are behind it
  pub leaves_none : {a b r r' : Option (List ℕ)} (octets head : List ℕ) → Hides a b octets
      → WhereKnown r r' (λ old new. (new ≡ old) ⊎ IsWrittenAt 0 head old new)
      → WhereKnown (both a r) (both b r') (MayLeave (begun turn state))
  leaves_none octets head h w = where_both (MayLeave (begun turn state)) h w (λ a b x y p q. inr (inl (hidden_blank p)))

  -- octets are written behind it
  pub hides : {a b c : Option (List ℕ)} {before : List ℕ} (octets : List ℕ) → Hides a b before
      → WhereKnown b c (λ old new. IsWrittenAt 24 octets old new) → Hides a c octets
  hides octets h w = where_then (λ _ new. IsHidden new octets) h w (λ x y z p q. hidden_more p q)

  -- .. or some of them
  pub hides_some : {a b c : Option (List ℕ)} {before octets : List ℕ} (r : Option (List ℕ)) → Hides a b before
      → WhereKnown b c (λ old new. (n : ℕ) × (n ≤ length octets) × (IsWrittenAt 24 (take n octets) old new))
      → WhereKnown (both a r) (both c r) (MayLeave (begun turn state))
  hides_some {octets = octets} r h w = where_both (MayLeave (begun turn state))
      (where_then (λ _ new. (n : ℕ) × IsHidden new (take n octets)) h w (λ x y z p q. (q.0, hidden_more p q.2)))
      (where_same r (λ x y. y ≡ x) (λ x. refl)) (λ a b x y p q. inr (inl (hidden_blank p.1)))

  -- a state is behind, no record was written, and then the state's head
  pub has_begun : {a c d r r' : Option (List ℕ)} → Hides a c state
      → WhereKnown r r' (λ old new. IsWrittenAt 0 (head turn []) old new)
      → WhereKnown c d (λ old new. IsWrittenAt 0 (head turn state) old new)
      → WhereKnown (both a r) (both d r') (λ _ pair. Has pair (begun turn state))
  has_begun h w v = where_both (λ _ pair. Has pair (begun turn state))
      (where_then (λ _ new. IsArea new turn state) h v (λ x y z p q. shown turn_fits few p q)) w
      (λ a b x y p q. record { state = p; records = emptied turn_fits q })

  -- .. or that failed
  pub may_have_begun : {a c d r r' : Option (List ℕ)} → Hides a c state
      → WhereKnown r r' (λ old new. IsWrittenAt 0 (head turn []) old new)
      → WhereKnown c d (λ old new. (new ≡ old) ⊎ (IsWrittenAt 0 (head turn state) old new))
      → WhereKnown (both a r) (both d r') (MayLeave (begun turn state))
  may_have_begun h w v = where_both (MayLeave (begun turn state))
      (where_then (λ _ new. IsHidden new state ⊎ IsArea new turn state) h v (λ x y z p q.
      ⊎_elim (λ (same : z ≡ y). inl (rw same p))
      (λ (is : IsWrittenAt 0 (head turn state) y z). inr (shown turn_fits few p is)) q)) w
      (λ a b x y p q. ⊎_elim (λ (hid : IsHidden b state). inr (inl (hidden_blank hid)))
      (λ (is : IsArea b turn state). inr (inr (record { state = is; records = emptied turn_fits q }))) p)

  -- .. as the result of that call says
  pub begins : {a c d r r' : Option (List ℕ)} (result : Result (Unit {0}) StoreFault) → Hides a c state
      → WhereKnown r r' (λ old new. IsWrittenAt 0 (head turn []) old new)
      → WhereKnown c d (WritesHead (head turn state) result)
      → OnOk result (WhereKnown (both a r) (both d r') (λ _ pair. Has pair (begun turn state)))
  begins (Ok x) h w v = has_begun h w v
  begins (Err e) h w v = tt

  pub may_begin : {a c d r r' : Option (List ℕ)} (result : Result (Unit {0}) StoreFault) → Hides a c state
      → WhereKnown r r' (λ old new. IsWrittenAt 0 (head turn []) old new)
      → WhereKnown c d (WritesHead (head turn state) result)
      → OnErr result (WhereKnown (both a r) (both d r') (MayLeave (begun turn state)))
  may_begin (Ok x) h w v = tt
  may_begin (Err e) h w v = may_have_begun h w v

-- octets were written behind those of an area, which it has still
pub record IsLonger (content : List ℕ) (turn : ℕ) (octets more : List ℕ) : Type 0 where
  pub behind : List ℕ
  pub content_is : content ≡ head turn octets ++ (octets ++ (more ++ behind))
  pub turn_fits : turn < 2 ^ 64
  pub len_fits : length octets < 2 ^ 32

-- .. so it has
pub longer_has : {content octets more : List ℕ} {turn : ℕ} → IsLonger content turn octets more
    → IsArea content turn octets
longer_has {more = more} l = record {
  behind = more ++ l.behind;
  content_is = l.content_is;
  turn_fits = l.turn_fits;
  len_fits = l.len_fits;
}

-- octets are written behind those of an area
pub longer : {old new octets more : List ℕ} {turn : ℕ} → IsArea old turn octets
    → IsWrittenAt (24 + length octets) more old new → IsLonger new turn octets more
longer {more = more} a w =
    let b = behind_them a.turn_fits more a w in
    record { behind = b.0; content_is = b.1; turn_fits = a.turn_fits; len_fits = a.len_fits }

-- .. and then the head of all
pub has_longer : {old new octets more : List ℕ} {turn : ℕ} → length (octets ++ more) < 2 ^ 32
    → IsLonger old turn octets more → IsWrittenAt 0 (head turn (octets ++ more)) old new
    → IsArea new turn (octets ++ more)
has_longer {old = old} {octets = octets} {more = more} {turn = turn} few l w = record {
  behind = l.behind;
  content_is = front turn (octets ++ more) w ∙ ap (λ (xs : List ℕ). head turn (octets ++ more) ++ xs)
      (ap (drop 24) l.content_is
      ∙ drop_at (head turn octets) (octets ++ (more ++ l.behind)) 24 (length-head turn octets)
      ∙ sym (append_assoc octets more l.behind));
  turn_fits = l.turn_fits;
  len_fits = few;
}

module _ (turn len sum : ℕ) (octets : List ℕ) (few : len + length octets < 2 ^ 32) where
  -- the octets of records that were kept, and these behind, can be counted
  few_of : (kept : Kept) → Counts turn len octets sum kept → length (kept.records ++ octets) < 2 ^ 32
  few_of kept k = let e = length-append kept.records octets in let n = k.counted in omega arith

  -- the head that counts them
  head_is : (kept : Kept) → Counts turn len octets sum kept
      → head_of turn (len + length octets) sum ≡ head kept.turn (kept.records ++ octets)
  head_is kept k =
      let n : length (kept.records ++ octets) ≡ len + length octets =
      length-append kept.records octets ∙ ap (λ (n : ℕ). n + length octets) k.counted in
      cc (k.turns, k.summed)

  -- octets were written behind the others, all or some
  pub has_still : {r r' : Option (List ℕ)} (s : Option (List ℕ))
      → WhereKnown r r' (λ old new. (n : ℕ) × (n ≤ length octets) × IsWrittenAt (24 + len) (take n octets) old new)
      → WhereKnown (both s r) (both s r') (MayHaveMore turn len octets sum)
  has_still s w = where_both (MayHaveMore turn len octets sum) (where_same s (λ x y. y ≡ x) (λ x. refl)) w
      (λ a b x y same v kept k h. inl (record {
        state = rw same h.state;
        records = longer_has (longer h.records (rw (← k.counted) at v.2));
      }))

  module _ {r r' r'' : Option (List ℕ)} (w : WhereKnown r r' (IsWrittenAt (24 + len) octets)) (s : Option (List ℕ))
    where
      -- all, and then the head
      pub has_more : WhereKnown r' r'' (IsWrittenAt 0 (head_of turn (len + length octets) sum))
          → WhereKnown (both s r) (both s r'') (HasMore turn len octets sum)
      has_more v = where_both (HasMore turn len octets sum) (where_same s (λ x y. y ≡ x) (λ x. refl))
          (where_then (λ old new. (content : List ℕ) × IsWrittenAt (24 + len) octets old content
          × IsWrittenAt 0 (head_of turn (len + length octets) sum) content new) w v (λ x y z p q. (y, p, q)))
          (λ a b x z same m kept k h. record {
            state = rw same h.state;
            records = has_longer (few_of kept k) (longer h.records (rw (← k.counted) at m.1))
                (rw (head_is kept k) at m.2);
          })

      pub may_have_more : WhereKnown r' r'' (λ old new. (new ≡ old)
          ⊎ IsWrittenAt 0 (head_of turn (len + length octets) sum) old new)
          → WhereKnown (both s r) (both s r'') (MayHaveMore turn len octets sum)
      may_have_more v = where_both (MayHaveMore turn len octets sum) (where_same s (λ x y. y ≡ x) (λ x. refl))
          (where_then (λ old new. (content : List ℕ) × IsWrittenAt (24 + len) octets old content
          × ((new ≡ content) ⊎ IsWrittenAt 0 (head_of turn (len + length octets) sum) content new)) w v
          (λ x y z p q. (y, p, q)))
          (λ a b x z same m kept k h.
          let long = longer h.records (rw (← k.counted) at m.1) in
          ⊎_elim (λ (e : z ≡ m.0). inl (record { state = rw same h.state; records = rw e (longer_has long) }))
          (λ (w : IsWrittenAt 0 (head_of turn (len + length octets) sum) m.0 z). inr (record {
            state = rw same h.state;
            records = has_longer (few_of kept k) long (rw (head_is kept k) at w);
          })) m.2)

      -- as the result of that call says
      pub gets_more : (result : Result (Unit {0}) StoreFault)
          → WhereKnown r' r'' (WritesHead (head_of turn (len + length octets) sum) result)
          → OnOk result (WhereKnown (both s r) (both s r'') (HasMore turn len octets sum))
      gets_more (Ok x) v = has_more v
      gets_more (Err e) v = tt

      pub may_get_more : (result : Result (Unit {0}) StoreFault)
          → WhereKnown r' r'' (WritesHead (head_of turn (len + length octets) sum) result)
          → OnErr result (WhereKnown (both s r) (both s r'') (MayHaveMore turn len octets sum))
      may_get_more (Ok x) v = tt
      may_get_more (Err e) v = may_have_more v
