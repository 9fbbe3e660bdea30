use Rattle.g726_lanes.proofs.Common.{◌≡◌, ℕ, Bool, true, false, cond, nat_lt, refl, rules, eight, all_lanes, lane}
use Rattle.g726_lanes.proofs.Each.{each_lane}
use Rattle.g726_lanes.proofs.PoleLanes.{chosen}
use Rattle.g726_lanes.proofs.entries.half_of.Goals as goal

-- `select` takes the first where its comparison holds
is : (b : Bool) (x y : ℕ) → chosen b x y ≡ cond b x y
is true x y = refl
is false x y = refl

pub returns : goal.returns
returns c =
    rw (
      eight 0 c.args.places (search rules),
      eight 0 c.args.first (search rules),
      eight 0 c.args.second (search rules),
    ) (each_lane _ (all_lanes (λ i h. is (nat_lt (lane c.args.places i) 8) (lane c.args.first i)
    (lane c.args.second i))))
