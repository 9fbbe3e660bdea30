-- Facts about what is known of a store, or of the two of a pair.
use Rattle.std.proofs.Common.{List, ℕ, Option, Some, None, Result, Ok, Err, OnErr}
use Rattle.log_files.specs.Pairs.{Contents, both}
use Rattle.log_files.specs.Stores.{AreKnown, WhereKnown}

-- a fact about both stores of a pair, by cases
both_known : (s s' r r' : Option (List ℕ)) (P Q : List ℕ → List ℕ → Type 0) (R : Contents → Contents → Type 0)
    → AreKnown s s' P → AreKnown r r' Q
    → ((a b x y : List ℕ) → P a b → Q x y
    → R (record { state = a; records = x }) (record { state = b; records = y }))
    → AreKnown (both s r) (both s' r') R
both_known None None r r' P Q R p q so = tt
both_known None (Some b) r r' P Q R p q so = absurd p
both_known (Some a) None r r' P Q R p q so = absurd p
both_known (Some a) (Some b) None None P Q R p q so = tt
both_known (Some a) (Some b) None (Some y) P Q R p q so = absurd q
both_known (Some a) (Some b) (Some x) None P Q R p q so = absurd q
both_known (Some a) (Some b) (Some x) (Some y) P Q R p q so = so a b x y p q

-- a fact about both stores of a pair
pub where_both : {s s' r r' : Option (List ℕ)} {P Q : List ℕ → List ℕ → Type 0}
    (R : Contents → Contents → Type 0) → WhereKnown s s' P → WhereKnown r r' Q
    → ((a b x y : List ℕ) → P a b → Q x y
    → R (record { state = a; records = x }) (record { state = b; records = y }))
    → WhereKnown (both s r) (both s' r') R
where_both {s = s} {s' = s'} {r = r} {r' = r'} {P = P} {Q = Q} R p q so =
    record { fact = both_known s s' r r' P Q R p.fact q.fact so }

-- a fact about what there was first and what there is last, by cases
then_known : {X : Type 0} (a b c : Option X) (P Q R : X → X → Type 0) → AreKnown a b P → AreKnown b c Q
    → ((x y z : X) → P x y → Q y z → R x z) → AreKnown a c R
then_known None None None P Q R p q so = tt
then_known None None (Some z) P Q R p q so = absurd q
then_known None (Some y) c P Q R p q so = absurd p
then_known (Some x) None c P Q R p q so = absurd p
then_known (Some x) (Some y) None P Q R p q so = absurd q
then_known (Some x) (Some y) (Some z) P Q R p q so = so x y z p q

-- a fact about what there was first and what there is last
pub where_then : {X : Type 0} {a b c : Option X} {P Q : X → X → Type 0} (R : X → X → Type 0) → WhereKnown a b P
    → WhereKnown b c Q → ((x y z : X) → P x y → Q y z → R x z) → WhereKnown a c R
where_then {a = a} {b = b} {c = c} {P = P} {Q = Q} R p q so =
    record { fact = then_known a b c P Q R p.fact q.fact so }

-- a fact about what stays, by cases
same_known : {X : Type 0} (a : Option X) (P : X → X → Type 0) → ((x : X) → P x x) → AreKnown a a P
same_known None P so = tt
same_known (Some x) P so = so x

-- .. about what stays
pub where_same : {X : Type 0} (a : Option X) (P : X → X → Type 0) → ((x : X) → P x x) → WhereKnown a a P
where_same a P so = record { fact = same_known a P so }

-- a weaker fact, by cases
so_known : {X : Type 0} (a b : Option X) (P Q : X → X → Type 0) → AreKnown a b P → ((x y : X) → P x y → Q x y)
    → AreKnown a b Q
so_known None None P Q p so = tt
so_known None (Some y) P Q p so = absurd p
so_known (Some x) None P Q p so = absurd p
so_known (Some x) (Some y) P Q p so = so x y p

-- .. a weaker one
pub where_so : {X : Type 0} {a b : Option X} {P : X → X → Type 0} (Q : X → X → Type 0) → WhereKnown a b P
    → ((x y : X) → P x y → Q x y) → WhereKnown a b Q
where_so {a = a} {b = b} {P = P} Q p so = record { fact = so_known a b P Q p.fact so }

-- what holds in any case holds if a call failed
pub on_err : {T E P : Type 0} (r : Result T E) → P → OnErr r P
on_err (Ok x) p = tt
on_err (Err e) p = p
