use Rattle.std.proofs.Common.{◌≡◌, ◌∙◌, ◌∷◌, [], ◌++◌, ◌/◌, ap, List, ℕ}
use Rattle.std.specs.List.{flat_map}
use Rattle.gw_tell.specs.Lines.{spaced}
use Rattle.gw_tell.proofs.Reporting.{two_parts}
use Rattle.gw_tell.proofs.lines.push_counts.Goals as goal

pub returns-clause-line : goal.returns-clause-line
returns-clause-line c =
    let counts = c.args.counts.now in
    let is : c.from.result ≡ c.args.circuit = c.from.ensures ∙ c.get.ensures.value in
    let first : List ℕ = c.args.circuit ∷ counts.accepted ∷ counts.stream.lost ∷ counts.stream.jitter / 16 ∷ [] in
    c.push-2.ensures.items
    ∙ ap (λ (xs : List ℕ). xs ++ 10 ∷ []) (c.push_numbers-2.ensures.numbers
    ∙ ap (λ (xs : List ℕ). xs ++ flat_map spaced counts.refused) (rw is at c.push_numbers.ensures.numbers
    ∙ ap (λ (xs : List ℕ). xs ++ flat_map spaced first) c.push.ensures))
    ∙ two_parts c.args.text.now.items _ first counts.refused
