-- Octets with slots 0, and without, one part after another.
use Rattle.std.proofs.Common.{rules, ◌≡◌, ◌+◌, ◌%◌, ◌<◌, ◌++◌, ◌∷◌, ℕ, List, [], length, refl, ap, arith}
use Rattle.std.proofs.lemmas.Grind.{common_steps}
use Rattle.e1_g711.specs.declared.Law.{Law}
use Rattle.e1_g711.specs.Law.{idle_code}
use Rattle.g704_framing.specs.Replies.{replies_after}
use Rattle.g704_framing.proofs.Replies.{replies-append}
use Rattle.g704_slots.specs.Shown.{slots_reply}
use Rattle.trunk_filters.specs.Frames.{with_slot_0, first_of, whole_trunk, without_slot_0, from_frame, device_frames}
use Rattle.trunk_filters.specs.Receiving.{begun_by}

-- Octets with slots 0, and more behind them.
pub with-append : (place : ℕ) (octets more : List ℕ) → with_slot_0 place (octets ++ more)
    ≡ with_slot_0 place octets ++ with_slot_0 (place + length (with_slot_0 place octets)) more
unfolding with_slot_0
with-append place [] more = ap (λ k. with_slot_0 k more) (omega arith)
with-append place (x ∷ octets) more =
    grind (arith, with-append (place + 2) octets more, with-append (place + 1) octets more)

-- One octet, behind slot 0 if a frame begins: at a place in two frames.
pub with-one : (place at octet : ℕ) → at ≡ place % 64
    → with_slot_0 place (octet ∷ []) ≡ begun_by at ++ octet ∷ []
unfolding with_slot_0
with-one place at octet e = grind (arith, common_steps)

-- What comes, for one octet more.
pub whole-next : (law : Law) (place at : ℕ) (taken : List ℕ) (octet : ℕ)
    → at ≡ (place + length (whole_trunk law place taken)) % 64
    → whole_trunk law place (taken ++ octet ∷ [])
    ≡ whole_trunk law place taken ++ (begun_by at ++ slots_reply (idle_code law) (first_of place) taken octet ∷ [])
unfolding replies_after
whole-next law place at taken octet e = search (rules, replies-append, with-append, with-one)

-- Octets without slots 0, and more behind them.
pub without-append : (place : ℕ) (octets more : List ℕ) → without_slot_0 place (octets ++ more)
    ≡ without_slot_0 place octets ++ without_slot_0 (place + length octets) more
unfolding without_slot_0
without-append place [] more = ap (λ k. without_slot_0 k more) (omega arith)
without-append place (x ∷ octets) more = grind (arith, without-append (place + 1) octets more)

-- It depends on the place in a frame alone.
pub without-same : (place other : ℕ) (octets : List ℕ) → place % 32 ≡ other % 32
    → without_slot_0 place octets ≡ without_slot_0 other octets
unfolding without_slot_0
without-same place other [] e = refl
without-same place other (x ∷ octets) e = cc (without-same (place + 1) (other + 1) octets (omega (arith, e)))

-- Whole frames come first, and then what is no whole frame yet: what a device is sent.
pub frames-are : (place : ℕ) (taken frames rest : List ℕ) → from_frame place taken ≡ frames ++ rest
    → length frames % 32 ≡ 0 → length rest < 32 → device_frames place taken ≡ without_slot_0 0 frames
frames-are place taken frames rest from whole short = grind (arith, common_steps)
