use Rattle.std.proofs.Common.{arith}
use Rattle.g704_align.proofs.Rest.{rest-passes, rest-stands}
use Rattle.g704_align.proofs.alignment.Aligner.pass_rest.Goals as goal

pub returns-clause-stands : goal.returns-clause-stands
returns-clause-stands c history octets h e =
    rest-stands _ _ _ _ history octets (rw c.in-Aligned.is at h)
    (λ lt z. omega (arith, lt, z, e)) (omega (arith, e)) (omega (arith, e))

pub returns-clause-placed : goal.returns-clause-placed
returns-clause-placed c history octets h e k lt =
    (rest-passes _ _ _ history octets (rw c.in-Aligned.is at h)
    (λ lt z. omega (arith, lt, z, e)) (omega (arith, e))).1 k (omega (arith, e, lt))
