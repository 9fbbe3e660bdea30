use Rattle.gw_session.proofs.Common.{ap, ◌∙◌, Result, Dropped, Answers, Reply, code_of}
use Rattle.gw_session.proofs.Turns.{dropped_given}
use Rattle.gw_session.proofs.exchange.give_datagram.Goals as goal

pub returns-in-Ok-clause-given : goal.returns-in-Ok-clause-given
returns-in-Ok-clause-given c = λ config before h. (
  c.datagram.ensures.stands config before h,
  rw (dropped_given config before _ _ (c.in-Ok.ensures.reply config before h)),
)

pub returns-in-Err-clause-given : goal.returns-in-Err-clause-given
returns-in-Err-clause-given c = λ config before h. (
  c.datagram.ensures.stands config before h,
  rw (dropped_given config before _ _ (c.in-Err.ensures.reply config before h)) c.saturating_add-totals.ensures,
)

pub returns-in-Ok-clause-code : goal.returns-in-Ok-clause-code
returns-in-Ok-clause-code c = λ config before h.
    ap (λ (r : Result (Unit {0}) Dropped). code_of (Reply.Answered (Answers r))) (c.in-Ok.ensures.reply config before h)

pub returns-in-Err-clause-code : goal.returns-in-Err-clause-code
returns-in-Err-clause-code c = λ config before h.
    c.code.ensures
    ∙ ap (λ (r : Result (Unit {0}) Dropped). code_of (Reply.Answered (Answers r)))
    (c.in-Err.ensures.reply config before h)
