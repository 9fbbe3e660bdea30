use Rattle.std.proofs.Common.{rules}
use Rattle.rtp_playout.proofs.Later.{words-later, none-later, words-below}
use Rattle.rtp_playout.proofs.playout.Playout.next_words.Goals as goal

pub returns-clause-some : goal.returns-clause-some
returns-clause-some c = search (rules, words-later)

pub returns-clause-none : goal.returns-clause-none
returns-clause-none c = λ prefill calls h no-word.
    none-later c.args.self.now prefill calls _ h (c.first_words.ensures.none no-word)

pub returns-clause-below : goal.returns-clause-below
returns-clause-below c = search (rules, words-below)
