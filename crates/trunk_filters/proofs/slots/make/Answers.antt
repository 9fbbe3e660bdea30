use Rattle.std.proofs.Common.{rules, ◌≡◌, ◌++◌, Ok, refl, ap}
use Rattle.gw_trunk.specs.declared.device.DeviceRead.TheVariants.{Octets}
use Rattle.trunk_filters.proofs.Receives.{made-same}
use Rattle.trunk_filters.proofs.Inputs.{took-octets}
use Rattle.trunk_filters.proofs.slots.make.Goals as goal

pub returns-in-Ok-Octets-clause-made : goal.returns-in-Ok-Octets-clause-made
returns-in-Ok-Octets-clause-made c law place taken made h =
    let took : c.args.read.now ≡ Ok (Octets c.in-Ok-Octets.n) = search rules in
    made-same _ law place _ _ _ _ (ap (λ xs. taken ++ xs) (took-octets _ _ c.args.room.now took)) refl
    (c.octets.ensures.made law place taken made h)
