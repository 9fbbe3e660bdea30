use Rattle.std.proofs.Common.{All, subst, ◌++◌, ◌∷◌, [], ◌<◌, ℕ, List, Option, IfSome, sym, ap, ◌∙◌, arith, length}
use Rattle.std.proofs.Common.{append_assoc, length-append, refl}
use Rattle.std.proofs.lemmas.List.Elements.{All-push}
use Rattle.circular_buffer.specs.Buffer.{Buffer}
use Rattle.rtp_playout.specs.Saved.{saved_place, saved_places}
use Rattle.rtp_playout.proofs.Loading.{keep-all, place-tells, is-buffer}
use Rattle.saved_octets.proofs.Items.{saved-push, next-item, all-read}
use Rattle.rtp_playout.proofs.playout.saving.load_places.Goals as goal

pub returns-in_err-load_place-clause-loaded : goal.returns-in_err-load_place-clause-loaded
returns-in_err-load_place-clause-loaded c = λ places rest size each e.
    let inv = c.loop.invariant in
    let room = ap (λ (b : Buffer (Option ℕ)). b.capacity) c.clear.ensures in
    let end = c.capacity-end.ensures.capacity in
    let before = c.loop-test.true in
    let many = inv.many in
    let below : Option ℕ → Type 0 = λ place. IfSome place (λ word. word < c.args.bound) in
    let next = next-item below saved_place c.loop.window.items places c.loop.octets rest (place-tells below)
    inv.below each (sym inv.octets ∙ e) (omega arith) in
    let told = c.in_err-load_place.ensures.loaded next.0 (saved_places next.1 ++ rest) next.2 next.3 in
    absurd (cc told.0)

pub loop-preserved : goal.loop-preserved
loop-preserved c =
    let inv = c.loop.invariant in
    let items = c.loop.window.items in
    let place = c.in_ok-load_place.field-0 in
    let left = c.load_place.new.octets in
    let room = inv.room in
    let many = inv.many in
    let end = c.capacity-end.ensures.capacity in
    let before = c.loop-test.true in
    let one = length-append items (place ∷ []) in
    let pushed = ap (λ (b : Buffer (Option ℕ)). b.items) c.push_back.ensures.items
    ∙ keep-all c.loop.window.capacity (items ++ place ∷ []) (omega arith) in
    let size = ap (λ (xs : List (Option ℕ)). length xs) pushed in
    record {
      octets = inv.octets
          ∙ ap (λ (os : List ℕ). saved_places items ++ os) c.in_ok-load_place.ensures.read
          ∙ sym (append_assoc (saved_places items) (saved_place place) left)
          ∙ ap (λ (os : List ℕ). os ++ left) (sym (saved-push saved_place items place))
          ∙ ap (λ (xs : List (Option ℕ)). saved_places xs ++ left) (sym pushed);
      many = omega arith;
      within = omega arith;
      room = ap (λ (b : Buffer (Option ℕ)). b.capacity) c.push_back.ensures.items ∙ room;
      below = subst (λ (xs : List (Option ℕ)). All (λ p. IfSome p (λ word. word < c.args.bound)) xs) (sym pushed)
          (All-push (λ p. IfSome p (λ word. word < c.args.bound)) items place inv.below
          c.in_ok-load_place.ensures.below);
    }

pub returns-clause-loaded : goal.returns-clause-loaded
returns-clause-loaded c = λ places rest size each e.
    let inv = c.loop.invariant in
    let room = ap (λ (b : Buffer (Option ℕ)). b.capacity) c.clear.ensures in
    let end = c.capacity-end.ensures.capacity in
    let over = c.loop-test.false in
    let many = inv.many in
    let within = inv.within in
    let below : Option ℕ → Type 0 = λ place. IfSome place (λ word. word < c.args.bound) in
    let read = all-read below saved_place c.loop.window.items places c.loop.octets rest (place-tells below)
    inv.below each (sym inv.octets ∙ e) (omega arith) in
    (refl, is-buffer c.loop.window places c.args.window.now.capacity read.0 (inv.room ∙ room), read.1)
