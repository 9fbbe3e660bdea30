use Rattle.g726_lanes.proofs.Common.{◌<◌, ℕ, refl, rules, w16, Each1, eight, all_lanes}
use Rattle.std.proofs.lemmas.Simd.{SwzOk-from_below, get_or-swz_l_below}
use Rattle.g726_lanes.proofs.entries.picked.Goals as goal

pub swizzle : goal.swizzle
swizzle c =
    let few : Each1 (λ (j : ℕ). j < 8) c.args.places =
    rw (eight 0 c.args.places (search rules)) (all_lanes (λ i h. c.requires i h)) in
    SwzOk-from_below w16 8 1 8 0 c.args.places refl (search rules) few

pub returns : goal.returns
returns c = search (rules, get_or-swz_l_below)
