use Rattle.std.proofs.Common.{◌≡◌, ◌++◌, ◌∷◌, ◌∙◌, [], refl, sym, ap, arith, append_assoc}
use Rattle.std.proofs.lemmas.Grind.{common_steps}
use Rattle.trunk_filters.specs.Receiving.{begun_by}
use Rattle.trunk_filters.proofs.Receives.{made-same, made-next}
use Rattle.trunk_filters.proofs.receiving.SlotReceiver.octet.Goals as goal

pub returns-clause-made : goal.returns-clause-made
returns-clause-made c law place taken made h =
    let old = c.args.trunk.now.items in
    let begun = begun_by c.args.self.now.place in
    let shown = c.octet.result in
    let all : c.try_push.new.self.items ≡ (old ++ begun) ++ shown ∷ [] = grind (arith, common_steps) in
    made-same _ law place _ _ _ _ refl (append_assoc made old (begun ++ shown ∷ [])
    ∙ ap (λ xs. made ++ xs) (sym (append_assoc old begun (shown ∷ [])) ∙ sym all))
    (made-next c.args.self.now _ c.begin_frame.new.self.mover law place taken (made ++ old) c.args.octet shown
    c.begin_frame.new.self.place h c.begin_frame.ensures.mover c.octet.ensures.reply c.octet.ensures.stands
    c.octet.ensures.idle c.begin_frame.ensures.place c.next-self.ensures)
