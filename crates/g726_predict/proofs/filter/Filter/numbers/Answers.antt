use Rattle.g726_predict.proofs.Common.{rules, to_z-of_z}
use Rattle.g726_predict.proofs.Saved.{packed-unpacked}
use Rattle.g726_predict.proofs.filter.Filter.numbers.Goals as goal

pub returns-clause-value : goal.returns-clause-value
returns-clause-value c = rw (← c.self.view_is) (search (rules, to_z-of_z, packed-unpacked))

pub returns-clause-fits : goal.returns-clause-fits
returns-clause-fits c = search rules
