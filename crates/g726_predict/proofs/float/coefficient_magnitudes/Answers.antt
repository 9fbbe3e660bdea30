use Rattle.g726_predict.proofs.Common.{◌<◌, get_or}
use Rattle.g726_predict.proofs.Lanes.{eight, same_lanes, at_lane}
use Rattle.g726_predict.proofs.LaneProducts.{magnitude_is}
use Rattle.g726_predict.proofs.float.coefficient_magnitudes.Goals as goal

pub returns : goal.returns
returns c =
    let xs = c.args.coefficients in
    let fits = at_lane (λ x. x < 65536) 0 xs c.requires.eight c.requires.fits in
    rw (eight 0 xs c.requires.eight) (same_lanes (λ i h. magnitude_is (get_or xs i 0) (fits i h)))
