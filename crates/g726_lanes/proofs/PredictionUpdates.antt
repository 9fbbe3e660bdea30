-- The predictor of one circuit after a sample, by its variables.
use Rattle.g726_lanes.proofs.Common.{◌≡◌, ◌<◌, ℕ, ℤ, pos, ◌+ℤ◌, Bool, List, [], ◌∷◌, w16, refl, ap, ◌∙◌, arith}
use Rattle.g726_lanes.proofs.Common.{is_negative, int_wrap-add_left, ints, signed, wrap16, lane, number, minus, lanes}
use Rattle.g726_lanes.proofs.Common.{predictor, FloatWord, float_word, float_of, updated_a1, updated_a2, updated_b}
use Rattle.g726_lanes.proofs.Common.{unpacked, Prediction, sez, new_a2, trigb, updated}
use Rattle.g726_lanes.specs.declared.predictions.Predictions.TheInside.{Inside}
use Rattle.g726_lanes.proofs.Each.{lanes_at, same_lane}

-- its variables
abbrev pub state : (b1 b2 b3 b4 b5 b6 a1 a2 : ℤ) (d1 d2 d3 d4 d5 d6 s1 s2 : FloatWord) (k1 k2 : Bool) → Prediction
state b1 b2 b3 b4 b5 b6 a1 a2 d1 d2 d3 d4 d5 d6 s1 s2 k1 k2 = record {
  a1 = a1;
  a2 = a2;
  b = b1 ∷ b2 ∷ b3 ∷ b4 ∷ b5 ∷ b6 ∷ [];
  dq = d1 ∷ d2 ∷ d3 ∷ d4 ∷ d5 ∷ d6 ∷ [];
  sr = s1 ∷ s2 ∷ [];
  pk1 = k1;
  pk2 = k2;
}

-- the variables in a lane
abbrev pub in_lane : Inside → ℕ → Prediction
in_lane s k =
    state (number s.b1 k) (number s.b2 k) (number s.b3 k) (number s.b4 k) (number s.b5 k) (number s.b6 k)
    (number s.a1 k) (number s.a2 k) (unpacked (lane s.dq1 k)) (unpacked (lane s.dq2 k)) (unpacked (lane s.dq3 k))
    (unpacked (lane s.dq4 k)) (unpacked (lane s.dq5 k)) (unpacked (lane s.dq6 k)) (unpacked (lane s.sr1 k))
    (unpacked (lane s.sr2 k)) (minus s.p1 k) (minus s.p2 k)

-- they are those of the circuit
pub is_in_lane : (s : Inside) {states : List Prediction} → lanes (in_lane s) ≡ states → (k : ℕ) → k < 8
    → predictor states k ≡ in_lane s k
is_in_lane s e k h = rw (← e) (lanes_at (in_lane s) _ k h)

-- variables that the blocks give from those before are the prediction after a sample
pub moved : (leak : ℕ) (negative : Bool) (magnitude : ℕ) (sr : ℤ) (tr : Bool)
    {b1 b2 b3 b4 b5 b6 a1 a2 : ℤ} {d1 d2 d3 d4 d5 d6 s1 s2 : FloatWord} {k1 k2 : Bool}
    {now : Prediction} {zeros p new n1 n2 n3 n4 n5 n6 m1 m2 next1 : ℤ} {w v : FloatWord}
    → now ≡ state b1 b2 b3 b4 b5 b6 a1 a2 d1 d2 d3 d4 d5 d6 s1 s2 k1 k2 → zeros ≡ sez now
    → p ≡ wrap16 (signed negative magnitude +ℤ zeros)
    → new ≡ updated_a2 a1 a2 p (is_negative p) k1 k2
    → next1 ≡ updated_a1 a1 new p (is_negative p) k1
    → m1 ≡ trigb tr next1 → m2 ≡ trigb tr new
    → n1 ≡ trigb tr (updated_b leak b1 magnitude negative d1.negative)
    → n2 ≡ trigb tr (updated_b leak b2 magnitude negative d2.negative)
    → n3 ≡ trigb tr (updated_b leak b3 magnitude negative d3.negative)
    → n4 ≡ trigb tr (updated_b leak b4 magnitude negative d4.negative)
    → n5 ≡ trigb tr (updated_b leak b5 magnitude negative d5.negative)
    → n6 ≡ trigb tr (updated_b leak b6 magnitude negative d6.negative)
    → w ≡ float_word negative magnitude → v ≡ float_of sr
    → state n1 n2 n3 n4 n5 n6 m1 m2 w d1 d2 d3 d4 d5 v s1 (is_negative p) k1
    ≡ updated leak now negative magnitude sr tr
unfolding updated new_a2
moved leak negative magnitude sr tr is z e f g h i n1 n2 n3 n4 n5 n6 w v =
    rw (h, i, g, n1, n2, n3, n4, n5, n6, w, v, f, e, z, is) refl

-- A2 before TRIGB, from which TONE takes its flag
pub toned : (negative : Bool) (magnitude : ℕ) {b1 b2 b3 b4 b5 b6 a1 a2 : ℤ} {d1 d2 d3 d4 d5 d6 s1 s2 : FloatWord}
    {k1 k2 : Bool} {now : Prediction} {zeros p new : ℤ}
    → now ≡ state b1 b2 b3 b4 b5 b6 a1 a2 d1 d2 d3 d4 d5 d6 s1 s2 k1 k2 → zeros ≡ sez now
    → p ≡ wrap16 (signed negative magnitude +ℤ zeros)
    → new ≡ updated_a2 a1 a2 p (is_negative p) k1 k2 → new ≡ new_a2 now negative magnitude
unfolding new_a2
toned negative magnitude is z e f = rw (f, e, z, is) refl

-- sums in sixteen bits, one by one
more : (s f : ℤ) {r t : ℤ} → r ≡ wrap16 s → t ≡ wrap16 (r +ℤ f) → t ≡ wrap16 (s +ℤ f)
more s f e g = g ∙ (ap (λ (v : ℤ). wrap16 (v +ℤ f)) e ∙ int_wrap-add_left w16 s f)

-- six sums one after another are one sum in 16 bits
pub six : (f1 f2 f3 f4 f5 f6 : ℤ) {z r1 r2 r3 r4 r5 r6 : ℤ} → z ≡ pos 0
    → r1 ≡ wrap16 (z +ℤ f1) → r2 ≡ wrap16 (r1 +ℤ f2) → r3 ≡ wrap16 (r2 +ℤ f3) → r4 ≡ wrap16 (r3 +ℤ f4)
    → r5 ≡ wrap16 (r4 +ℤ f5) → r6 ≡ wrap16 (r5 +ℤ f6)
    → r6 ≡ wrap16 (f1 +ℤ (f2 +ℤ (f3 +ℤ (f4 +ℤ (f5 +ℤ (f6 +ℤ pos 0))))))
six f1 f2 f3 f4 f5 f6 {z = z} none e1 e2 e3 e4 e5 e6 =
    let z2 = z +ℤ f1 +ℤ f2 in
    let two = more (z +ℤ f1) f2 e1 e2 in
    let three = more z2 f3 two e3 in
    let four = more (z2 +ℤ f3) f4 three e4 in
    let five = more (z2 +ℤ f3 +ℤ f4) f5 four e5 in
    let same : z2 +ℤ f3 +ℤ f4 +ℤ f5 +ℤ f6 ≡ f1 +ℤ (f2 +ℤ (f3 +ℤ (f4 +ℤ (f5 +ℤ (f6 +ℤ pos 0))))) =
    omega (arith, ints) in
    more (z2 +ℤ f3 +ℤ f4 +ℤ f5) f6 five e6 ∙ ap wrap16 same

-- so are two more onto a sum
pub two_more : (z f g : ℤ) {r s t : ℤ} → r ≡ wrap16 z → s ≡ wrap16 (r +ℤ f) → t ≡ wrap16 (s +ℤ g)
    → t ≡ wrap16 (z +ℤ (f +ℤ (g +ℤ pos 0)))
two_more z f g e1 e2 e3 =
    let same : z +ℤ f +ℤ g ≡ z +ℤ (f +ℤ (g +ℤ pos 0)) = omega (arith, ints) in
    more (z +ℤ f) g (more z f e1 e2) e3 ∙ ap wrap16 same

-- no sum yet
pub none : (i : ℕ) → i < 8 → number (0 ∷ 0 ∷ 0 ∷ 0 ∷ 0 ∷ 0 ∷ 0 ∷ 0 ∷ []) i ≡ pos 0
none i h = rw (same_lane 0 i h) refl
