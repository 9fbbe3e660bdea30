use Rattle.g726_lanes.proofs.Common.{rules}
use Rattle.g726_lanes.proofs.SegmentLanes.{a_interval, mu_interval}
use Rattle.g726_lanes.proofs.compressor.numbers_for.Goals as goal

pub returns-in-A-clause-interval : goal.returns-in-A-clause-interval
returns-in-A-clause-interval c = search (rules, a_interval)

pub returns-in-Mu-clause-interval : goal.returns-in-Mu-clause-interval
returns-in-Mu-clause-interval c = search (rules, mu_interval)
