use Rattle.std.proofs.Common.{rules}
use Rattle.std.proofs.lemmas.List.{take_all}
use Rattle.trunk_filters.proofs.Receives.{taken-next}
use Rattle.trunk_filters.proofs.Drops.{framed-same}
use Rattle.trunk_filters.proofs.begun.BegunFrame.pass_all.Goals as goal

pub loop-octet-preserved : goal.loop-octet-preserved
loop-octet-preserved c = search (rules, framed-same, taken-next)

pub returns-clause-framed : goal.returns-clause-framed
returns-clause-framed c place taken before h = search (rules, framed-same, take_all)
