use Rattle.g726_predict.proofs.Common.{ℕ, ◌<◌, get_or}
use Rattle.g726_predict.proofs.Lanes.{eight, same_lanes, all_lanes, at_lane}
use Rattle.g726_predict.proofs.LaneProducts.{product_is, places_below, magnitude_fits}
use Rattle.g726_predict.proofs.float.product_magnitudes.Goals as goal
use Rattle.g726_predict.proofs.float.product_magnitudes.Goals.{Start}

-- each lane of the magnitudes is one of 13 bits
fits : (c : Start) → (i : ℕ) → i < 8 → get_or c.args.magnitudes i 0 < 8192
fits c = at_lane (λ x. x < 8192) 0 c.args.magnitudes c.requires.eight c.requires.magnitudes

pub returns : goal.returns
returns c =
    let few = at_lane (λ w. w < 2048) 0 c.args.words c.requires.eight_words c.requires.words in
    rw (c.floata.ensures.exponents, c.floata.ensures.mantissas, eight 0 c.args.magnitudes c.requires.eight)
    (rw (eight 0 c.args.words c.requires.eight_words)
    (same_lanes (λ i h. product_is _ _ (fits (goal.at.returns c).Start i h) (few i h))))

pub overflow_shl-shifted : goal.overflow_shl-shifted
overflow_shl-shifted c =
    rw (c.floata.ensures.exponents, c.floata.ensures.mantissas, eight 0 c.args.magnitudes c.requires.eight)
    (rw (eight 0 c.args.words c.requires.eight_words)
    (all_lanes (λ i h. places_below _ (get_or c.args.words i 0) (fits (goal.at.overflow_shl-shifted c).Start i h))))

pub overflow_cast-result : goal.overflow_cast-result
overflow_cast-result c =
    rw (c.floata.ensures.exponents, c.floata.ensures.mantissas, eight 0 c.args.magnitudes c.requires.eight)
    (rw (eight 0 c.args.words c.requires.eight_words)
    (all_lanes (λ i h. magnitude_fits (get_or c.args.magnitudes i 0) (get_or c.args.words i 0))))
