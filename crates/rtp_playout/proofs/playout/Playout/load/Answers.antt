use Rattle.std.proofs.Common.{ℕ, sym, ap, rules, ◌≡◌, Option, Bool, true, Some, is_some, not, IfNone, refl, ◌∙◌}
use Rattle.circular_buffer.specs.Buffer.{buffer}
use Rattle.rtp_playout.specs.Saved.{saved_playout}
use Rattle.rtp_playout.proofs.Keeping.{stands-nothing}
use Rattle.rtp_playout.proofs.Loading.{each-below, same-playout}
use Rattle.rtp_playout.proofs.playout.Playout.load.Goals as goal

-- a result that is there is not none
not-none : (result : Option (Unit {0})) (b : Bool) → result ≡ Some tt → is_some result ≡ not b → b ≡ true → ⊥
not-none result b is e f = search rules

pub returns-then-is_none-clause-loaded : goal.returns-then-is_none-clause-loaded
unfolding saved_playout
returns-then-is_none-clause-loaded c = λ other prefill calls before rest stood below fits stands e.
    let one = stood.keeps in
    let told = c.load_parts-loaded.ensures.loaded other.stream other.window.items rest fits
    (one.places ∙ sym c.args.self.now.memory) (each-below c.args.bound other.window.items below.each) e in
    absurd (not-none c.load_parts-loaded.result c.is_none.result told.0 c.is_none.ensures c.if-is_none.true)

-- a result that is none says so of what was emptied
if-emptied : (result : Option (Unit {0})) (P : Type 0) → P → IfNone result P
if-emptied result P p = search rules

pub returns-then-is_none-clause-none : goal.returns-then-is_none-clause-none
returns-then-is_none-clause-none c = λ prefill before stands.
    if-emptied c.load_parts-loaded.result _
    (stands-nothing _ _ (c.load_parts-loaded.ensures.prefill ∙ stands.keeps.prefill_is) c.empty.ensures refl)

pub returns-else-is_none-clause-loaded : goal.returns-else-is_none-clause-loaded
unfolding saved_playout
returns-else-is_none-clause-loaded c = λ other prefill calls before rest stood below fits stands e.
    let one = stood.keeps in
    let mine = stands.keeps in
    let told = c.load_parts-loaded.ensures.loaded other.stream other.window.items rest fits
    (one.places ∙ sym c.args.self.now.memory) (each-below c.args.bound other.window.items below.each) e in
    let room : c.args.self.now.window.capacity ≡ other.window.capacity = c.args.self.now.memory ∙ sym other.memory in (
      told.0,
      same-playout c.load_parts-loaded.new.self other told.1
          (told.2 ∙ ap (λ (n : ℕ). buffer other.window.items n) room)
          (c.load_parts-loaded.ensures.prefill ∙ mine.prefill_is ∙ sym one.prefill_is),
      told.3,
    )
