use Rattle.std.proofs.Common.{rules}
use Rattle.g704_framing.proofs.Standings.{place-history}
use Rattle.g704_cas.proofs.Standing.{stands-follows}
use Rattle.g704_cas.proofs.alignment.MfAligner.slot16.Goals as goal

pub returns-clause-placed : goal.returns-clause-placed
returns-clause-placed c history h = search (rules, place-history)

pub returns-clause-stands : goal.returns-clause-stands
returns-clause-stands c history h = search (rules, stands-follows)
