use Rattle.g726_predict.proofs.Common.{◌<◌, get_or}
use Rattle.g726_predict.proofs.Lanes.{eight, same_lanes, all_lanes, at_lane}
use Rattle.g726_predict.proofs.LaneProducts.{fmult_is, coefficient_below}
use Rattle.g726_predict.proofs.float.fmult.Goals as goal

pub product_magnitudes-magnitudes-requires-clause-magnitudes :
    goal.product_magnitudes-magnitudes-requires-clause-magnitudes
product_magnitudes-magnitudes-requires-clause-magnitudes c =
    let xs = c.args.coefficients in
    let fits = at_lane (λ x. x < 65536) 0 xs c.requires.eight c.requires.coefficients in
    rw (c.coefficient_magnitudes.ensures, eight 0 xs c.requires.eight)
    (all_lanes (λ i h. coefficient_below (get_or xs i 0) (fits i h)))

pub returns : goal.returns
returns c =
    let few = at_lane (λ x. x < 65536) 0 c.args.coefficients c.requires.eight c.requires.coefficients in
    let words_few = at_lane (λ w. w < 2048) 0 c.args.words c.requires.eight_words c.requires.words in
    rw (c.product_magnitudes-magnitudes.ensures, c.coefficient_magnitudes.ensures)
    (rw (eight 0 c.args.coefficients c.requires.eight) (rw (eight 0 c.args.words c.requires.eight_words)
    (same_lanes (λ i h. fmult_is _ _ (few i h) (words_few i h)))))
