-- Octets of records, as they are passed one after another.
use Rattle.std.proofs.Common.{◌≡◌, ◌+◌, ◌*◌, ◌/◌, ◌%◌, ◌^◌, ◌<◌, ◌≤◌, ◌++◌, ◌∙◌, ℕ, zero, suc, Bool, true, false, cond}
use Rattle.std.proofs.Common.{List, [], ◌∷◌, length, take, drop, refl, sym, ap, arith, append_assoc}
use Rattle.std.proofs.Common.{length-take, take_all}
use Rattle.std.proofs.Math.Seq.{take-add}
use Rattle.gw_records.specs.Records.{record_of}
use Rattle.gw_trunk.specs.Device.{WasGivenAll}
use Rattle.gw_trunk.specs.Bodies.{HasPassed, RecordPosition, body_place, is_answer, is_between, part_passed, passed}
use Rattle.gw_trunk.specs.Bodies.{place_behind, place_next, to_clients}

-- The place after octets and more is that after the others, from the place after the first.
pub place_append : (p : RecordPosition) (xs ys : List ℕ)
    → place_behind p (xs ++ ys) ≡ place_behind (place_behind p xs) ys
unfolding place_behind
place_append p [] ys = refl
place_append p (x ∷ xs) ys = place_append (place_next p x) xs ys

-- What of octets and more goes to the trunk is that of the first, and then that of the others.
pub passed-append : (p : RecordPosition) (xs ys : List ℕ)
    → passed p (xs ++ ys) ≡ passed p xs ++ passed (place_behind p xs) ys
unfolding place_behind passed
passed-append p [] ys = refl
passed-append p (x ∷ xs) ys =
    ap (λ (zs : List ℕ). part_passed p x ++ zs) (passed-append (place_next p x) xs ys)
    ∙ sym (append_assoc (part_passed p x) (passed (place_next p x) xs) (passed (place_behind (place_next p x) xs) ys))

-- What of octets and more goes to clients is that of the first, and then that of the others.
pub answered-append : (p : RecordPosition) (xs ys : List ℕ)
    → to_clients p (xs ++ ys) ≡ to_clients p xs ++ to_clients (place_behind p xs) ys
unfolding place_behind to_clients
answered-append p [] ys = refl
answered-append p (x ∷ xs) ys =
    let first : List ℕ = cond (is_answer p x) (x ∷ []) [] in
    ap (λ (zs : List ℕ). first ++ zs) (answered-append (place_next p x) xs ys)
    ∙ sym (append_assoc first (to_clients (place_next p x) xs) (to_clients (place_behind (place_next p x) xs) ys))

-- Octets of a body, as many as it has or fewer: what of them goes to the trunk.
pub passed-body : (to_trunk : Bool) (more : ℕ) (xs : List ℕ) → length xs ≤ suc more
    → passed (RecordPosition.Body to_trunk more) xs ≡ cond to_trunk xs []
unfolding passed
passed-body true more [] h = refl
passed-body false more [] h = refl
passed-body true zero (x ∷ []) h = refl
passed-body false zero (x ∷ []) h = refl
passed-body to_trunk zero (x ∷ y ∷ xs) h = absurd (omega (arith, h))
passed-body true (suc more) (x ∷ xs) h = ap (λ (ys : List ℕ). x ∷ ys) (passed-body true more xs (omega (arith, h)))
passed-body false (suc more) (x ∷ xs) h = passed-body false more xs (omega (arith, h))

-- .. and what of them goes to clients.
pub answered-body : (to_trunk : Bool) (more : ℕ) (xs : List ℕ) → length xs ≤ suc more
    → to_clients (RecordPosition.Body to_trunk more) xs ≡ cond to_trunk [] xs
unfolding to_clients
answered-body true more [] h = refl
answered-body false more [] h = refl
answered-body true zero (x ∷ []) h = refl
answered-body false zero (x ∷ []) h = refl
answered-body to_trunk zero (x ∷ y ∷ xs) h = absurd (omega (arith, h))
answered-body true (suc more) (x ∷ xs) h = answered-body true more xs (omega (arith, h))
answered-body false (suc more) (x ∷ xs) h =
    ap (λ (ys : List ℕ). x ∷ ys) (answered-body false more xs (omega (arith, h)))

-- .. and where all of them are there the next record begins behind them.
pub place-body : (to_trunk : Bool) (more : ℕ) (xs : List ℕ) → length xs ≡ suc more
    → place_behind (RecordPosition.Body to_trunk more) xs ≡ RecordPosition.Kind
unfolding place_behind
place-body to_trunk more [] h = absurd (omega (arith, h))
place-body to_trunk zero (x ∷ []) h = refl
place-body to_trunk zero (x ∷ y ∷ xs) h = absurd (omega (arith, h))
place-body to_trunk (suc more) (x ∷ xs) h = place-body to_trunk more xs (omega (arith, h))

-- The two octets of a length say it.
length-said : (n : ℕ) → n < 2 ^ 16 → (n / 256) % 256 * 256 + n % 256 ≡ n
length-said n h = omega arith

-- The first octets of the body of a T record: they go to the trunk, none goes to clients, and if they are all the next
-- record begins behind them.
part-of-body : (body : List ℕ) (n : ℕ) → n ≤ length body
    → (passed (body_place true (length body)) (take n body) ≡ take n body)
    × (to_clients (body_place true (length body)) (take n body) ≡ [])
    × (n ≡ length body → place_behind (body_place true (length body)) (take n body) ≡ RecordPosition.Kind)
unfolding place_behind passed to_clients
part-of-body [] zero h = (refl, refl, λ all. refl)
part-of-body [] (suc n) h = absurd (omega (arith, h))
part-of-body (x ∷ xs) n h =
    let counted = length-take n (x ∷ xs) in
    let few : length (take n (x ∷ xs)) ≤ suc (length xs) = omega (arith, counted, h) in (
      passed-body true (length xs) (take n (x ∷ xs)) few,
      answered-body true (length xs) (take n (x ∷ xs)) few,
      λ all. place-body true (length xs) (take n (x ∷ xs)) (omega (arith, counted, all)),
    )

-- The octets of a T record, up to the first ones of its body.
pub part-of-record : (body : List ℕ) (n : ℕ) → n ≤ length body → length body < 2 ^ 16
    → (passed RecordPosition.Kind (take (4 + n) (record_of 0x54 0 body)) ≡ take n body)
    × (to_clients RecordPosition.Kind (take (4 + n) (record_of 0x54 0 body)) ≡ [])
    × (n ≡ length body → place_behind RecordPosition.Kind (take (4 + n) (record_of 0x54 0 body)) ≡ RecordPosition.Kind)
unfolding place_behind passed to_clients
part-of-record body n h short =
    let said = length-said (length body) short in
    let four : 4 + n ≡ suc (suc (suc (suc n))) = omega arith in
    let part = part-of-body body n h in
    rw four (rw said part.0, rw said part.1, λ all. rw said (part.2 all))

-- The octets of a T record, all of them.
pub record-passes : (body : List ℕ) → length body < 2 ^ 16
    → (place_behind RecordPosition.Kind (record_of 0x54 0 body) ≡ RecordPosition.Kind)
    × (passed RecordPosition.Kind (record_of 0x54 0 body) ≡ body)
    × (to_clients RecordPosition.Kind (record_of 0x54 0 body) ≡ [])
record-passes body short =
    let part = part-of-record body (length body) (omega arith) short in
    let all : take (4 + length body) (record_of 0x54 0 body) ≡ record_of 0x54 0 body = take_all _ _ (omega arith) in
    let whole : take (length body) body ≡ body = take_all _ _ (omega arith) in
    (rw all at (part.2 refl), rw (all, whole) at part.0, rw all at part.1)

-- The first octets of an R record.
pub part-of-answer : (circuit kind code n : ℕ) → n ≤ 6
    → (passed RecordPosition.Kind (take n (record_of 0x52 circuit (kind ∷ code ∷ []))) ≡ [])
    × (to_clients RecordPosition.Kind (take n (record_of 0x52 circuit (kind ∷ code ∷ [])))
    ≡ take n (record_of 0x52 circuit (kind ∷ code ∷ [])))
    × (n ≡ 6 → place_behind RecordPosition.Kind (take n (record_of 0x52 circuit (kind ∷ code ∷ [])))
    ≡ RecordPosition.Kind)
unfolding place_behind passed to_clients
part-of-answer circuit kind code zero h = (refl, refl, λ all. absurd (omega (arith, all)))
part-of-answer circuit kind code (suc zero) h = (refl, refl, λ all. absurd (omega (arith, all)))
part-of-answer circuit kind code (suc (suc zero)) h = (refl, refl, λ all. absurd (omega (arith, all)))
part-of-answer circuit kind code (suc (suc (suc zero))) h = (refl, refl, λ all. absurd (omega (arith, all)))
part-of-answer circuit kind code (suc (suc (suc (suc zero)))) h = (refl, refl, λ all. absurd (omega (arith, all)))
part-of-answer circuit kind code (suc (suc (suc (suc (suc zero))))) h = (refl, refl, λ all. absurd (omega (arith, all)))
part-of-answer circuit kind code (suc (suc (suc (suc (suc (suc zero)))))) h = (refl, refl, λ all. refl)
part-of-answer circuit kind code (suc (suc (suc (suc (suc (suc (suc n))))))) h = absurd (omega (arith, h))

-- A place between records.
between-is : (p : RecordPosition) → is_between p ≡ true → p ≡ RecordPosition.Kind
between-is RecordPosition.Kind e = refl
between-is (RecordPosition.Circuit t) e = cc
between-is (RecordPosition.High t) e = cc
between-is (RecordPosition.Low t high) e = cc
between-is (RecordPosition.Body t more) e = cc

-- Whole answers that were taken, and octets that are taken behind them.
pub passes-on : (cut cut' : Bool) (taken xs went went' : List ℕ) → HasPassed cut taken went
    → cut ≡ false → (cut' ≡ false → place_behind RecordPosition.Kind xs ≡ RecordPosition.Kind)
    → went' ≡ went ++ passed RecordPosition.Kind xs → HasPassed cut' (taken ++ xs) went'
passes-on cut cut' taken xs went went' has whole then more =
    let at : place_behind RecordPosition.Kind taken ≡ RecordPosition.Kind = between-is _ (has.whole whole) in
    record {
      whole = λ e. rw (place_append, at, then e) refl;
      went_are = more ∙ rw (has.went_are, passed-append, at) refl;
    }

-- .. and what of them goes to clients.
pub tells-on : (cut : Bool) (taken xs went told : List ℕ) → HasPassed cut taken went → cut ≡ false
    → told ≡ to_clients RecordPosition.Kind taken
    → told ++ to_clients RecordPosition.Kind xs ≡ to_clients RecordPosition.Kind (taken ++ xs)
tells-on cut taken xs went told has whole so =
    let at : place_behind RecordPosition.Kind taken ≡ RecordPosition.Kind = between-is _ (has.whole whole) in
    rw (so, answered-append, at) refl

-- Before any record.
pub none-passed : (taken went : List ℕ) → taken ≡ [] → went ≡ [] → HasPassed false taken went
unfolding place_behind passed
none-passed taken went t w = rw (t, w) (record { whole = λ e. refl; went_are = refl })

-- Octets that went, and more of those behind them.
pub went-more : (went before now octets : List ℕ) (done n : ℕ) → before ≡ went ++ take done octets
    → now ≡ before ++ take n (drop done octets) → now ≡ went ++ take (done + n) octets
went-more went before now octets done n a b = b ∙ rw (a, take-add done n octets, append_assoc) refl

-- A write was given what is left of octets: one was given all of them, the first if some had gone.
pub given-more : {O : Type 0} (was_given : O → List ℕ → Type 0) (octets : List ℕ) (done : ℕ) (now : O)
    → (0 < done → WasGivenAll was_given octets) → was_given now (drop done octets) → WasGivenAll was_given octets
given-more was_given octets zero now before given = (now, given)
given-more was_given octets (suc done) now before given = before (omega arith)
