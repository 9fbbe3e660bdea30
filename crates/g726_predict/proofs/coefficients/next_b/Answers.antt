use Rattle.g726_predict.proofs.Common.{◌≡◌, ℕ, pos, rules, get_or, SFits, nat_le, ℤ, Bool, to_z, of_z, w16, w32}
use Rattle.g726_predict.proofs.Common.{to_z-of_z, trigb}
use Rattle.g726_predict.specs.Coefficients.{updated_b}
use Rattle.g726_predict.proofs.Lanes.{eight, same_lanes, all_lanes, at_lane}
use Rattle.g726_predict.proofs.LaneUpdates.{brought_in, taken_out, wide, updated_fits}
use Rattle.g726_predict.proofs.coefficients.next_b.Goals as goal

-- a coefficient that is widened has its 16 bits
in_fits : (z : ℤ) → SFits w16 z → SFits w16 (to_z w32 (of_z w32 (to_z w16 (of_z w16 z))))
in_fits z h = rw (brought_in z h) h

-- and one that is narrowed
out_fits : (z : ℤ) → SFits w16 z → SFits w16 (to_z w32 (of_z w32 z))
out_fits z h = rw (to_z-of_z w32 z (wide z h)) h

-- a lane widened, updated and narrowed
lane : (leak : ℕ) (b : ℤ) (magnitude : ℕ) (negative minus tr : Bool) → SFits w16 b
    → to_z w16 (of_z w16 (to_z w32 (of_z w32
    (trigb tr (updated_b leak (to_z w32 (of_z w32 (to_z w16 (of_z w16 b)))) magnitude negative minus)))))
    ≡ trigb tr (updated_b leak b magnitude negative minus)
lane leak b magnitude negative minus tr h =
    rw (brought_in b h) (taken_out _ (updated_fits leak b magnitude negative minus tr))

pub update_b-requires-clause-fits : goal.update_b-requires-clause-fits
update_b-requires-clause-fits g c =
    let fit = at_lane (SFits w16) (pos 0) c.args.coefficients (search rules) c.requires in
    rw (eight (pos 0) c.args.coefficients (search rules)) (all_lanes (λ i h. in_fits _ (fit i h)))

pub overflow_cast-result : goal.overflow_cast-result
overflow_cast-result g c =
    rw (c.update_b.ensures, eight (pos 0) c.args.coefficients (search rules), eight 0 c.args.words (search rules))
    (all_lanes (λ i h. out_fits _ (updated_fits g.R.Rate.tables.leak
    (to_z w32 (of_z w32 (to_z w16 (of_z w16 (get_or c.args.coefficients i (pos 0)))))) c.args.magnitude c.args.negative
    (nat_le 1024 (get_or c.args.words i 0)) c.args.tr)))

pub returns : goal.returns
returns g c =
    let fit = at_lane (SFits w16) (pos 0) c.args.coefficients (search rules) c.requires in
    rw (c.update_b.ensures, eight (pos 0) c.args.coefficients (search rules), eight 0 c.args.words (search rules))
    (same_lanes (λ i h. lane g.R.Rate.tables.leak _ c.args.magnitude c.args.negative
    (nat_le 1024 (get_or c.args.words i 0)) c.args.tr (fit i h)))
