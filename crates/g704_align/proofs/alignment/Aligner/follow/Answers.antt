use Rattle.std.proofs.Common.{arith, rules, None}
use Rattle.g704_framing.specs.Restart.{last_of}
use Rattle.g704_framing.proofs.Standings.{place-history}
use Rattle.g704_align.specs.Placing.{frames}
use Rattle.g704_align.proofs.Standing.{stands-follows}
use Rattle.g704_align.proofs.alignment.Aligner.follow.Goals as goal

pub returns-clause-placed : goal.returns-clause-placed
returns-clause-placed c history h =
    grind (arith, place-history frames history h.earlier h.since c.args.octet h.whole h.over, last_of None h.earlier)

pub returns-clause-stands : goal.returns-clause-stands
returns-clause-stands c history h = search (rules, stands-follows)
