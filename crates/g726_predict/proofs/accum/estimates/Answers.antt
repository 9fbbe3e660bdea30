use Rattle.g726_predict.proofs.Common.{◌≡◌, pos, length, rules, get_or, ◌∙◌, SFits, w16, map, of_z, ℕ, ◌<◌}
use Rattle.g726_predict.proofs.Lanes.{eight, eight_of, all_lanes, at_lane}
use Rattle.g726_predict.proofs.LaneProducts.{bits_below}
use Rattle.g726_predict.proofs.LaneSums.{product, product_fits, products_are, all_sum, zeros_sum, half_is}
use Rattle.g726_predict.proofs.accum.estimates.Goals as goal
use Rattle.g726_predict.proofs.accum.estimates.Goals.{After-fmult-products}

pub fmult-products-requires-clause-coefficients : goal.fmult-products-requires-clause-coefficients
fmult-products-requires-clause-coefficients c =
    let long : length c.args.coefficients ≡ 8 = search rules in
    let fit = at_lane (SFits w16) (pos 0) c.args.coefficients long c.requires.coefficients in
    rw (c.bits_of.ensures, eight (pos 0) c.args.coefficients long)
    (all_lanes (λ i h. bits_below (get_or c.args.coefficients i (pos 0)) (fit i h)))

-- the products in 16 bits, each of which fits
products : (c : After-fmult-products)
    → record {
      made : c.fmult-products.result ≡ map (of_z w16) (eight_of (product c.args.coefficients c.args.words));
      fit : (i : ℕ) → i < 8 → SFits w16 (product c.args.coefficients c.args.words i);
    }
products c =
    let long : length c.args.coefficients ≡ 8 = search rules in
    let long_words : length c.args.words ≡ 8 = search rules in
    record {
      made = rw (c.bits_of.ensures, products_are _ _ long long_words c.requires.coefficients) at
          c.fmult-products.ensures;
      fit = product_fits _ _ long long_words c.requires.coefficients c.requires.words;
    }

pub returns : goal.returns
returns c =
    let p = products (goal.at.returns c).After-fmult-products in
    rw (eight (pos 0) c.args.coefficients (search rules), eight 0 c.args.words (search rules)) (record {
      zeros = half_is c.cast_signed.result _ ((rw p.made at c.cast_signed.ensures) ∙ zeros_sum _ p.fit);
      all = half_is c.cast_signed-2.result _ ((rw p.made at c.cast_signed-2.ensures) ∙ all_sum _ p.fit);
    })
