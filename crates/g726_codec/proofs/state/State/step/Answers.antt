use Rattle.std.proofs.Common.{rules}
use Rattle.std.proofs.lemmas.Int.{to_z-of_z}
use Rattle.g726_codec.specs.Codec.{stepped}
use Rattle.g726_codec.proofs.state.State.step.Goals as goal

pub returns-clause-state : goal.returns-clause-state
unfolding stepped
returns-clause-state g c =
    rw (← c.self.view_is) (search (rules, to_z-of_z, c.requires))
