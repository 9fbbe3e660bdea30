use Rattle.std.proofs.Common.{arith, ◌∙◌}
use Rattle.g726_quant.proofs.Places.{thresholds_fit}
use Rattle.g726_codec.proofs.InPlace.{coded_one_more, all_coded}
use Rattle.g726_codec.proofs.Lists.{words_fit}
use Rattle.g726_codec.proofs.encoder.Encoder.encode_all.Goals as goal

pub loop-octet-preserved : goal.loop-octet-preserved
loop-octet-preserved g c =
    coded_one_more _ _ _ _ _ _ _ _ _ c.loop-octet.invariant (omega arith)
    (c.get.ensures.value ∙ c.encode.ensures.word) (rw c.get.ensures.value c.encode.ensures.state)

pub returns-clause-words : goal.returns-clause-words
returns-clause-words g c = (all_coded _ _ _ _ _ _ _ c.loop-octet.invariant (omega arith)).0

pub returns-clause-state : goal.returns-clause-state
returns-clause-state g c = (all_coded _ _ _ _ _ _ _ c.loop-octet.invariant (omega arith)).1

pub returns-clause-fit : goal.returns-clause-fit
returns-clause-fit g c =
    let few = thresholds_fit g.R.Rate.tables g.met.R.Rate.laws.places in
    rw (returns-clause-words g c) (words_fit g.R.Rate.tables c.args.law few _ _)
