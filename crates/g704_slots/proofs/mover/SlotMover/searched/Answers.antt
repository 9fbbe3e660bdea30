use Rattle.std.proofs.Common.{arith, rules, ◌≡◌, ◌+◌, [], ◌∷◌, ◌++◌, false, min, sym, ◌∙◌, subst}
use Rattle.std.proofs.lemmas.Grind.{common_steps}
use Rattle.std.specs.Prelude.{◌&&◌, nat_le}
use Rattle.std.proofs.lemmas.Bool.{and_parts, leb-true}
use Rattle.g704_slots.specs.declared.mover.SearchState.TheVariants.{Searching}
use Rattle.g704_slots.specs.Mover.{Stands}
use Rattle.g704_slots.proofs.Standing.{searched-long, stands-few, stands-whole, stands-other, stands-found}
use Rattle.g704_slots.proofs.mover.SlotMover.searched.Goals as goal

pub returns-then-seen-lt-THREE : goal.returns-then-seen-lt-THREE
returns-then-seen-lt-THREE c first history h e = search (rules, stands-few)

pub returns-then-is_alone : goal.returns-then-is_alone
returns-then-is_alone c first history h e = search (rules, searched-long, and_parts, stands-found, leb-true)

pub returns-then-whole-2 : goal.returns-then-whole-2
returns-then-whole-2 c first history h e =
    let v = c.args in
    let s = rw e at h.since in
    let long = searched-long v.seen v.alone v.self.now.pass first history v.octet s c.if-seen-lt-THREE.false in
    let few : (nat_le 1984 v.seen && nat_le 495 v.alone) ≡ false = (grind (arith, common_steps)) in
    subst (λ n. Stands (Searching (n + 1) 0) 0 first (history ++ v.octet ∷ [])) (sym c.min.ensures)
    (stands-whole v.seen v.alone v.self.now.pass first history v.octet s c.if-seen-lt-THREE.false
    (sym (c.is_whole-whole.ensures first history h long) ∙ c.if-whole-2.true) few)

pub returns-else-whole-2 : goal.returns-else-whole-2
returns-else-whole-2 c first history h e = search (rules, searched-long, stands-other)
