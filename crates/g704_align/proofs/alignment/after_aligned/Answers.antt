use Rattle.std.proofs.Common.{rules, ◌≡◌, ℕ, ◌+◌, ◌%◌, ◌<◌, List, ◌∷◌, [], ◌++◌, Option, Bool, sym, ap, ◌∙◌, subst}
use Rattle.g704_align.specs.Aligner.{IsAlignedRun, count_after}
use Rattle.g704_align.proofs.Steps.{age-below, fas-more, fas-lost, nfas-more, nfas-lost, other-more}
use Rattle.g704_align.proofs.alignment.after_aligned.Goals as goal

-- the age of the next octet, as `next_age` gives it
with_age : (c : List ℕ) (x age ws wd ws' wd' next : ℕ) → IsAlignedRun age ws wd c → (age < 64 → next ≡ (age + 1) % 64)
    → IsAlignedRun ((age + 1) % 64) ws' wd' (c ++ x ∷ []) → IsAlignedRun next ws' wd' (c ++ x ∷ [])
with_age c x age ws wd ws' wd' next h is more =
    subst (λ a. IsAlignedRun a ws' wd' (c ++ x ∷ [])) (sym (is (age-below c x age ws wd h))) more

-- the count, as `count_after` gives it of what a test says of the octet
counted : (o : Option ℕ) (count : ℕ) (test right : Bool) → o ≡ count_after count test → test ≡ right
    → o ≡ count_after count right
counted o count test right e f = e ∙ ap (count_after count) f

pub returns-in-Some : goal.returns-in-Some
returns-in-Some c before octets h =
    with_age octets c.args.octet _ _ _ _ _ _ h c.next_age-next.ensures
    (fas-more octets c.args.octet _ _ _ h c.in-Some.wrong_fas c.if-age-eq0.true
    (counted _ _ _ _ c.in-Some.ensures c.is_fas.ensures))

pub returns-in-None : goal.returns-in-None
returns-in-None c before octets h =
    fas-lost octets c.args.octet _ _ _ h before c.if-age-eq0.true (counted _ _ _ _ c.in-None.ensures c.is_fas.ensures)

pub returns-in-Some-count_after : goal.returns-in-Some-count_after
returns-in-Some-count_after c before octets h =
    with_age octets c.args.octet _ _ _ _ _ _ h c.next_age-next.ensures
    (nfas-more octets c.args.octet _ _ _ h c.in-Some-count_after.wrong_nfas c.if-age-eq-FRAME.true
    (counted _ _ _ _ c.in-Some-count_after.ensures c.is_nfas.ensures))

pub returns-in-None-count_after : goal.returns-in-None-count_after
returns-in-None-count_after c before octets h =
    nfas-lost octets c.args.octet _ _ _ h before c.if-age-eq-FRAME.true
    (counted _ _ _ _ c.in-None-count_after.ensures c.is_nfas.ensures)

pub returns-else-age-eq-FRAME : goal.returns-else-age-eq-FRAME
returns-else-age-eq-FRAME c before octets h = search (rules, with_age, other-more)
