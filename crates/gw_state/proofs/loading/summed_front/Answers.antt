use Rattle.std.proofs.Common.{◌≡◌, ◌++◌, ◌∙◌, sym, rules, length}
use Rattle.std.specs.Cmp.Lexicographic.{other_text}
use Rattle.gw_state.proofs.Sums.{summed-once}
use Rattle.gw_state.proofs.loading.summed_front.Goals as goal

pub returns-else-eq-clause-wrong : goal.returns-else-eq-clause-wrong
returns-else-eq-clause-wrong c = λ front e.
    let apart = other_text c.as_slice.result.now c.split_at.result.1.now
    (sym c.if-eq.false ∙ c.eq.ensures) in
    let counted : length c.split_at.result.1.now ≡ 32 = search rules in
    let whole : c.split_at.result.0.now ++ c.split_at.result.1.now ≡ c.args.octets.now = search rules in
    apart (c.as_slice.ensures ∙ c.digest-right.ensures
    ∙ sym (summed-once c.split_at.result.0.now c.split_at.result.1.now front counted (whole ∙ e)).1)
