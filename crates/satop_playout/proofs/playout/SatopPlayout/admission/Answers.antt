use Rattle.std.proofs.lemmas.Grind.{common_steps}
use Rattle.std.proofs.Common.{◌≡◌, Some, None, sym, ap, ◌∙◌, arith, cond, Bool}
use Rattle.satop_playout.specs.declared.ArrivalFault.TheVariants.{Repeat}
use Rattle.satop_playout.specs.declared.Settings.{Settings}
use Rattle.satop_playout.specs.Plays.{PlayoutState, refusal, ahead}
use Rattle.satop_playout.specs.Standing.{Represents}
use Rattle.satop_playout.proofs.Keeping.{keeps_own}
use Rattle.satop_playout.proofs.Refusing.{Asked, repeats}
use Rattle.satop_playout.proofs.playout.SatopPlayout.admission.Goals as goal
use Rattle.satop_playout.proofs.playout.SatopPlayout.admission.Goals.{After-is_held}

-- the packet whose slot was looked at has the size, and its place is in the window
is_asked : (c : After-is_held) (s : PlayoutState) → Represents c.args.self.now c.args.self.now.settings s
    → Asked c.args.self.now s c.args.sequence c.args.octets.now c.from-place.result
is_asked c s k = grind (arith, common_steps)

-- .. so it is a repeat or none
is_told : (c : After-is_held) (s : PlayoutState) → Represents c.args.self.now c.args.self.now.settings s
    → refusal c.args.self.now.settings s c.args.sequence c.args.octets.now
    ≡ cond c.is_held.result (Some Repeat) None
is_told c s k =
    repeats c.args.self.now s c.args.sequence c.args.octets.now c.from-place.result c.slot_at.result c.index.result.now
    k (is_asked c s k) c.slot_at.ensures c.index.ensures
    ∙ ap (λ (b : Bool). cond b (Some Repeat) None) (sym (c.is_held.ensures c.args.self.now.settings.size))

pub returns-then-is_held-clause-why : goal.returns-then-is_held-clause-why
returns-then-is_held-clause-why c = λ settings s.
    let at = (goal.at.returns-then-is_held-clause-why c).After-is_held in
    keeps_own c.args.self.now s
    (λ (t : Settings). refusal t s c.args.sequence c.args.octets.now ≡ Some Repeat)
    (λ k. is_told at s k ∙ ap (λ (b : Bool). cond b (Some Repeat) None) c.if-is_held.true) settings

pub returns-clause-why : goal.returns-clause-why
returns-clause-why c = λ settings s.
    let at = (goal.at.returns-clause-why c).After-is_held in
    keeps_own c.args.self.now s
    (λ (t : Settings). (refusal t s c.args.sequence c.args.octets.now ≡ None)
    × (c.from-place.result ≡ ahead s c.args.sequence))
    (λ k. (
      is_told at s k ∙ ap (λ (b : Bool). cond b (Some Repeat) None) c.if-is_held.false,
      (is_asked at s k).place_is,
    )) settings
