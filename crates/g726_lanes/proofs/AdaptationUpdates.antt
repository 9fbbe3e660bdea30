-- The adaptation of one circuit after a sample, by its variables.
use Rattle.g726_lanes.proofs.Common.{◌≡◌, ◌<◌, ◌+◌, ◌*◌, ℕ, ℤ, pos, Bool, List, cond, false, refl, RateTables, lane}
use Rattle.g726_lanes.proofs.Common.{lanes, is_set, adaptation, Inside}
use Rattle.g726_quant.specs.Blocks.{functw, functf}
use Rattle.g726_tone.specs.Adaptation.{Adaptation, limb, filtd, filte, filta, filtb, filtc, subtc, adapted}
use Rattle.g726_tone.specs.Adaptation.{scale_factor}
use Rattle.g726_lanes.proofs.Each.{lanes_at}

abbrev pub held : (yu yl dms dml ap : ℤ) (td : Bool) → Adaptation
held yu yl dms dml ap td = record { yu = yu; yl = yl; dms = dms; dml = dml; ap = ap; td = td }

-- variables that the blocks give from those before are the adaptation after a sample
pub moved : (r : RateTables) (magnitude : ℕ) (tone tr : Bool) {now old : Adaptation}
    {y wi nyu nyl ndms ndml nap : ℤ} {fi : ℕ} {ax ntd : Bool}
    → now ≡ old → y ≡ scale_factor old
    → wi ≡ functw r magnitude → fi ≡ functf r magnitude
    → nyu ≡ limb (filtd wi y) → nyl ≡ filte nyu old.yl
    → ndms ≡ filta (pos fi) old.dms → ndml ≡ filtb (pos fi) old.dml
    → ax ≡ subtc y ndms ndml tone
    → nap ≡ cond tr (pos 256) (filtc ax old.ap)
    → ntd ≡ cond tr false tone
    → held nyu nyl ndms ndml nap ntd ≡ adapted r now magnitude tone tr
unfolding adapted
moved r magnitude tone tr is y w f a b c d x p t = rw (is, p, t, x, b, a, d, c, f, w, y) refl

-- the adaptation in a lane
abbrev pub in_lane : Inside → ℕ → Adaptation
in_lane s k =
    held (pos (lane s.yu k)) (pos (64 * lane s.whole k + lane s.fraction k)) (pos (lane s.dms k))
    (pos (lane s.dml k)) (pos (lane s.ap k)) (is_set (lane s.td k))

-- it is that of the circuit
pub is_in_lane : (s : Inside) {states : List Adaptation} → lanes (in_lane s) ≡ states → (k : ℕ) → k < 8
    → adaptation states k ≡ in_lane s k
is_in_lane s e k h = rw (← e) (lanes_at (in_lane s) _ k h)
