use Rattle.g726_codec.specs.Kinds.{rate_tables}
use Rattle.g726_codec.proofs.EachKind.{encoders_continue, histories_continue}
use Rattle.g726_codec.proofs.Lists.{one_fits}
use Rattle.g726_codec.proofs.laws.codecs_continue.Goals as goal

pub returns-clause-lists : goal.returns-clause-lists
returns-clause-lists c = λ kind. encoders_continue (rate_tables kind)

pub returns-clause-histories : goal.returns-clause-histories
returns-clause-histories c = histories_continue

pub returns-clause-fit : goal.returns-clause-fit
returns-clause-fit c = one_fits
