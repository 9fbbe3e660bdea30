use Rattle.g726_lanes.proofs.Common.{rules, ◌≡◌, ◌<◌, ◌+◌, ℕ, ℤ, pos, ◌+ℤ◌, length, get_or, take, nat_le, ◌≤◌, ◌%◌, ap}
use Rattle.g726_lanes.proofs.Common.{◌∙◌, sym, arith, cond, refl, suc, SFits, w16, int_le, count_by, to_z-of_z, eight}
use Rattle.g726_lanes.proofs.Common.{all_lanes, lane}
use Rattle.g726_lanes.proofs.Each.{each_lane}
use Rattle.std.proofs.lemmas.List.{take_all}
use Rattle.g726_lanes.proofs.PoleLanes.{chosen}
use Rattle.g726_lanes.proofs.QuantLanes.{count_next, lane_counts, counts_few}
use Rattle.g726_lanes.proofs.quantiser.quan_magnitude.Goals as goal

pub loop-threshold-preserved : goal.loop-threshold-preserved
loop-threshold-preserved c =
    let xs = c.args.thresholds.now in
    let n = c.loop-threshold.threshold-index in
    let inv = c.loop-threshold.invariant in
    let inside : n < length xs = search rules in
    let fits : SFits w16 (get_or xs n (pos 0)) = search rules in
    let level : pos c.level_of-bound.result ≡ get_or xs n (pos 0) +ℤ pos 2048 = simp to_z-of_z at
    c.level_of-bound.ensures in
    let one_more : n + 1 ≡ suc n = omega arith in
    let next : (i : ℕ) → i < 8 → (z : ℤ) → pos (lane c.args.dln i) ≡ z +ℤ pos 2048
    → get_or c.loop-threshold.count i 0 + cond (int_le (get_or xs n (pos 0)) z) 1 0
    ≡ count_by (λ t. int_le t z) (take (n + 1) xs) = λ i h z e.
    rw (inv.value i h z e) (sym (ap (λ (j : ℕ). count_by (λ t. int_le t z) (take j xs)) one_more ∙ count_next (λ
    t. int_le t z) xs n inside)) in
    let few : (i : ℕ) → i < 8 → (z : ℤ) → pos (lane c.args.dln i) ≡ z +ℤ pos 2048
    → get_or c.loop-threshold.count i 0 < 65535 = λ i h z e.
    rw (inv.value i h z e) (counts_few (λ t. int_le t z) xs n c.requires.count) in
    let one : (i : ℕ) → i < 8 → (z : ℤ) → pos (lane c.args.dln i) ≡ z +ℤ pos 2048
    → (get_or c.loop-threshold.count i 0 + chosen (nat_le c.level_of-bound.result (lane c.args.dln i)) 1 0) % 65536
    ≡ count_by (λ t. int_le t z) (take (n + 1) xs) = λ i h z e.
    lane_counts (get_or c.loop-threshold.count i 0) c.level_of-bound.result (lane c.args.dln i) (get_or xs n
    (pos 0)) z
    (few i h z e) level e ∙ next i h z e in
    rw (eight 0 c.loop-threshold.count inv.long, eight 0 c.args.dln (search rules)) (record {
      lanes_are = refl;
      long = refl;
      value = each_lane _ (all_lanes one);
    })

pub returns : goal.returns
returns c =
    let all : length c.args.thresholds.now ≤ c.loop-threshold.threshold-index = search rules in
    λ k h z e. c.loop-threshold.invariant.value k h z e
    ∙ ap (count_by (λ t. int_le t z)) (take_all c.loop-threshold.threshold-index c.args.thresholds.now all)
