use Rattle.std.proofs.Common.{rules, ◌≡◌, ◌++◌, ◌∷◌, [], ℕ, List, ap, ◌∙◌, append_assoc}
use Rattle.gw_listing.specs.Row.{row}
use Rattle.gw_switch.specs.Whole.{status_after}
use Rattle.gw_check.specs.Listing.{line_of}
use Rattle.gw_check.proofs.listing.put_line.Goals as goal

pub returns-clause-line : goal.returns-clause-line
unfolding line_of
returns-clause-line c = λ config events h.
    let bytes = c.as_bytes.result.now in
    let put : c.try_extend_from_slice.new.self.items ≡ c.args.text.now.items ++ bytes = search rules in
    let is : bytes ≡ row c.args.circuit (status_after config events c.args.circuit) =
    c.as_bytes.ensures.value ∙ c.as_str.ensures.value ∙ c.line-line.ensures.bytes
    ∙ ap (row c.args.circuit) (c.status.ensures config events h) in
    c.push.ensures.items ∙ ap (λ (xs : List ℕ). xs ++ 10 ∷ []) put
    ∙ append_assoc c.args.text.now.items bytes (10 ∷ [])
    ∙ ap (λ (xs : List ℕ). c.args.text.now.items ++ (xs ++ 10 ∷ [])) is
