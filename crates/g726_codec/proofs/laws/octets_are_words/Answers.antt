use Rattle.g726_codec.proofs.Lists.{same_words, nothing_kept}
use Rattle.g726_codec.proofs.laws.octets_are_words.Goals as goal

pub returns-clause-words : goal.returns-clause-words
returns-clause-words c = same_words

pub returns-clause-kept : goal.returns-clause-kept
returns-clause-kept c = nothing_kept
