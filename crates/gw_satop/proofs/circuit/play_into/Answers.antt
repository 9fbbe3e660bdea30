use Rattle.std.proofs.Common.{ℕ, nat_lt, ◌≡◌, ◌++◌, ◌↔◌, length, arith, ap, append_assoc, Result, Ok, Err, IfOk, IsOk}
use Rattle.gw_satop.proofs.Turning.{played-more}
use Rattle.gw_satop.proofs.circuit.play_into.Goals as goal

-- What fits is taken.
extended : {T E P Q : Type 0} (r : Result T E) → IfOk r (λ _. P) → (IsOk r ↔ Q) → Q → P
extended (Ok _) ok fits q = ok
extended (Err e) ok fits q = let no = fits.1 q in cc

pub returns-clause-plays : goal.returns-clause-plays
returns-clause-plays c flags received went k =
    let left : c.try_extend_from_slice.new.self.items ≡ c.args.left.now.items ++ c.play-is_there.new.room =
    extended c.try_extend_from_slice.result c.try_extend_from_slice.ensures.ok c.try_extend_from_slice.ensures.variant
    (omega (arith, ap length c.requires.left, c.requires.room, c.args.receiver.now.settings.size_is.1)) in
    rw (left, ← (append_assoc went c.args.left.now.items c.play-is_there.new.room))
    (played-more c.args.receiver.now c.play-is_there.new.self c.args.pace.now c.play-2.new.self c.args.counts.now _
    flags received (went ++ c.args.left.now.items) c.play-is_there.new.room
    c.play-is_there.result (nat_lt 0 c.reach-later.result)
    c.play-is_there.ensures.settings c.play-is_there.ensures.rtp c.play-is_there.ensures.stands
    c.play-is_there.ensures.played c.requires.due c.play-is_there.ensures.there
    (λ calls h. ap (λ (n : ℕ). nat_lt 0 n) (c.reach-later.ensures calls h)) c.play-2.ensures.stands c.play-2.ensures.timing
    (rw (← c.is_silent.ensures) c.play.ensures) k)
