use Rattle.g726_lanes.proofs.Common.{rules, ◌≡◌, ◌<◌, ◌%◌, ◌+◌, ◌*◌, ◌/◌, ◌^◌, ℕ, bit_and, arith, Fits, w16, and_mask}
use Rattle.g726_lanes.proofs.Common.{antilog, eight, all_lanes, lane}
use Rattle.g726_lanes.proofs.Each.{each_lane}
use Rattle.g726_lanes.proofs.Floats.{antilog_is, lane_antilog}
use Rattle.g726_lanes.proofs.logs.antilog.Goals as goal

few : (m : ℕ) → Fits w16 (bit_and m 65535)
few m = let e : bit_and m 65535 ≡ m % 65536 = and_mask m 16 in record { fits = omega (arith, e) }

few15 : (m : ℕ) → bit_and m 15 < 32
few15 m = let e : bit_and m 15 ≡ m % 16 = and_mask m 4 in omega (arith, e)

pub overflow_cast-numbers : goal.overflow_cast-numbers
overflow_cast-numbers c =
    rw (eight 0 c.args.logs (search rules)) (all_lanes (λ i h. few ((bit_and (lane c.args.logs i) 127 + 128) % 65536
    * 2 ^ bit_and (lane c.args.logs i / 128) 15 % 4294967296 / 128)))

pub overflow_shl-shifted : goal.overflow_shl-shifted
overflow_shl-shifted c =
    rw (eight 0 c.args.logs (search rules)) (all_lanes (λ i h. few15 (lane c.args.logs i / 128)))

is : (l : ℕ) → l < 4096 → (l < 2048 → l < 1920) → lane_antilog l ≡ antilog l
is l below whole = (antilog_is l below whole).0

bound : (l : ℕ) → l < 4096 → (l < 2048 → l < 1920) → lane_antilog l < 32768
bound l below whole = rw (is l below whole) (antilog_is l below whole).1

pub returns : goal.returns
returns c =
    rw (eight 0 c.args.logs (search rules)) (record {
      value = each_lane _ (all_lanes (λ i h. is (lane c.args.logs i) (c.requires.fits i h) (c.requires.whole i h)));
      bound = each_lane _ (all_lanes (λ i h. bound (lane c.args.logs i) (c.requires.fits i h) (c.requires.whole
          i h)));
    })
