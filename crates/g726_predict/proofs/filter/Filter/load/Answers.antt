use Rattle.g726_predict.proofs.Common.{[], ◌∷◌, flat_map, append_assoc, ◌∙◌, rules}
use Rattle.saved_octets.specs.Numbers.{flag_octet, two_octets}
use Rattle.g726_predict.specs.Saved.{saved_prediction, saved_numbers}
use Rattle.std.proofs.lemmas.Option.{same_Some}
use Rattle.g726_predict.proofs.Saved.{numbers-fit}
use Rattle.g726_predict.proofs.filter.Filter.load.Goals as goal

pub returns-in_err-read_u16_into-clause-loaded : goal.returns-in_err-read_u16_into-clause-loaded
unfolding saved_prediction
returns-in_err-read_u16_into-clause-loaded c = search (rules, numbers-fit, append_assoc)

pub returns-in_err-pk1-clause-loaded : goal.returns-in_err-pk1-clause-loaded
unfolding saved_prediction
returns-in_err-pk1-clause-loaded c = search (rules, numbers-fit, append_assoc)

pub returns-in_err-pk2-clause-loaded : goal.returns-in_err-pk2-clause-loaded
unfolding saved_prediction
returns-in_err-pk2-clause-loaded c = λ s rest fits e.
    let numbers = numbers-fit s fits in
    let read = c.read_u16_into.ensures.next (saved_numbers s) (flag_octet s.pk1 ∷ flag_octet s.pk2 ∷ rest)
    numbers.0 numbers.1 (e
    ∙ append_assoc (flat_map two_octets (saved_numbers s)) (flag_octet s.pk1 ∷ flag_octet s.pk2 ∷ []) rest) in
    let one = c.read_bool.ensures.next s.pk1 (flag_octet s.pk2 ∷ rest) read.2 in
    absurd (cc (c.in_err-pk2.ensures.next s.pk2 rest one.1).0)

pub returns-clause-loaded : goal.returns-clause-loaded
unfolding saved_prediction
returns-clause-loaded c = λ s rest fits e.
    let numbers = numbers-fit s fits in
    let read = c.read_u16_into.ensures.next (saved_numbers s) (flag_octet s.pk1 ∷ flag_octet s.pk2 ∷ rest)
    numbers.0 numbers.1 (e
    ∙ append_assoc (flat_map two_octets (saved_numbers s)) (flag_octet s.pk1 ∷ flag_octet s.pk2 ∷ []) rest) in
    let one = c.read_bool.ensures.next s.pk1 (flag_octet s.pk2 ∷ rest) read.2 in
    let two = c.read_bool-2.ensures.next s.pk2 rest one.1 in
    let pk1 = same_Some _ _ (c.in_ok-pk1.ensures.next s.pk1 (flag_octet s.pk2 ∷ rest) read.2).0 in
    let pk2 = same_Some _ _ (c.in_ok-pk2.ensures.next s.pk2 rest one.1).0 in
    (c.of_numbers.ensures.loaded s fits read.1 pk1 pk2, two.1)
