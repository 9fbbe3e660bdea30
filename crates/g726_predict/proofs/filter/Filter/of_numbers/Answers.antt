use Rattle.g726_predict.proofs.Common.{rules, ◌≡◌, ◌<◌, ℕ, length, get_or, true, Some, ap, sym, ◌∙◌, refl, w16}
use Rattle.g726_predict.proofs.Common.{to_z-of_z, Prediction}
use Rattle.g726_predict.proofs.Saved.{numbered, numbered-saved, saved-numbered, saved-words, words-known, are_words}
use Rattle.g726_predict.proofs.Saved.{listed}
use Rattle.g726_predict.proofs.Lanes.{all_lanes}
use Rattle.g726_predict.proofs.filter.Filter.of_numbers.Goals as goal

pub returns-then-not-are_words-clause-loaded : goal.returns-then-not-are_words-clause-loaded
returns-then-not-are_words-clause-loaded c = search (rules, saved-words)

pub invariant_of-result : goal.invariant_of-result
invariant_of-result c = search (rules, all_lanes, words-known)

pub returns-clause-loaded : goal.returns-clause-loaded
returns-clause-loaded c = λ s fits e p q.
    let is : numbered (λ i. get_or c.args.numbers i 0) c.args.pk1 c.args.pk2
    ≡ s = rw (e, p, q) (numbered-saved s fits) in
    rw (
      to_z-of_z w16 c.cast_signed.result (record { sfits = c.cast_signed.type_inv }) ∙ c.cast_signed.ensures,
      to_z-of_z w16 c.cast_signed-2.result (record { sfits = c.cast_signed-2.type_inv }) ∙ c.cast_signed-2.ensures,
      to_z-of_z w16 c.cast_signed-3.result (record { sfits = c.cast_signed-3.type_inv }) ∙ c.cast_signed-3.ensures,
      to_z-of_z w16 c.cast_signed-4.result (record { sfits = c.cast_signed-4.type_inv }) ∙ c.cast_signed-4.ensures,
      to_z-of_z w16 c.cast_signed-5.result (record { sfits = c.cast_signed-5.type_inv }) ∙ c.cast_signed-5.ensures,
      to_z-of_z w16 c.cast_signed-6.result (record { sfits = c.cast_signed-6.type_inv }) ∙ c.cast_signed-6.ensures,
      to_z-of_z w16 c.cast_signed-7.result (record { sfits = c.cast_signed-7.type_inv }) ∙ c.cast_signed-7.ensures,
      to_z-of_z w16 c.cast_signed-8.result (record { sfits = c.cast_signed-8.type_inv }) ∙ c.cast_signed-8.ensures,
    ) (ap (λ (t : Prediction). Some t) is)

pub returns-clause-read : goal.returns-clause-read
returns-clause-read c =
    let long : length c.args.numbers ≡ 16 = search rules in
    let all : are_words c.args.numbers ≡ true = sym c.are_words.ensures ∙ c.if-not-are_words.false in
    let few : (i : ℕ) → i < 8 → get_or c.args.numbers i 0 < 65536 = λ i less. search rules in
    rw (
      to_z-of_z w16 c.cast_signed.result (record { sfits = c.cast_signed.type_inv }) ∙ c.cast_signed.ensures,
      to_z-of_z w16 c.cast_signed-2.result (record { sfits = c.cast_signed-2.type_inv }) ∙ c.cast_signed-2.ensures,
      to_z-of_z w16 c.cast_signed-3.result (record { sfits = c.cast_signed-3.type_inv }) ∙ c.cast_signed-3.ensures,
      to_z-of_z w16 c.cast_signed-4.result (record { sfits = c.cast_signed-4.type_inv }) ∙ c.cast_signed-4.ensures,
      to_z-of_z w16 c.cast_signed-5.result (record { sfits = c.cast_signed-5.type_inv }) ∙ c.cast_signed-5.ensures,
      to_z-of_z w16 c.cast_signed-6.result (record { sfits = c.cast_signed-6.type_inv }) ∙ c.cast_signed-6.ensures,
      to_z-of_z w16 c.cast_signed-7.result (record { sfits = c.cast_signed-7.type_inv }) ∙ c.cast_signed-7.ensures,
      to_z-of_z w16 c.cast_signed-8.result (record { sfits = c.cast_signed-8.type_inv }) ∙ c.cast_signed-8.ensures,
    ) (
      sym (saved-numbered (λ i. get_or c.args.numbers i 0) c.args.pk1 c.args.pk2 few
          (words-known c.args.numbers long all) ∙ listed 0 16 c.args.numbers long),
      refl,
      refl,
    )
