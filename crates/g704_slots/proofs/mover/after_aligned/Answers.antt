use Rattle.std.proofs.Common.{arith, rules, ◌≡◌, false, refl}
use Rattle.std.proofs.lemmas.Grind.{common_steps}
use Rattle.std.specs.Prelude.{◌&&◌}
use Rattle.g704_slots.proofs.Steps.{followed-slot, followed-signal, followed-lost}
use Rattle.g704_slots.proofs.mover.after_aligned.Goals as goal

pub returns-then-zero : goal.returns-then-zero
returns-then-zero c octets h = grind (arith, followed-slot octets c.args.octet _ _ _ _ h refl c.if-frame.true)

pub returns-else-zero : goal.returns-else-zero
returns-else-zero c octets h = grind (arith, followed-slot octets c.args.octet _ _ _ _ h refl c.if-frame.true)

pub returns-then-errored : goal.returns-then-errored
returns-then-errored c octets h = search (rules, followed-lost)

pub returns : goal.returns
returns c octets h =
    let passed : (c.is_errored-errored.result && c.args.wrong) ≡ false = (grind (arith, common_steps)) in (
      refl,
      followed-signal octets c.args.octet _ _ _ _ h c.is_errored-errored.result refl c.if-frame.false
          c.is_errored-errored.ensures passed,
    )
