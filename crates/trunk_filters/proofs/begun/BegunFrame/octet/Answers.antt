use Rattle.std.proofs.Common.{rules, append_assoc}
use Rattle.trunk_filters.proofs.Drops.{frame-begun, frame-more, frame-whole}
use Rattle.trunk_filters.proofs.begun.BegunFrame.octet.Goals as goal

pub returns-then-not-self-clause-framed : goal.returns-then-not-self-clause-framed
returns-then-not-self-clause-framed c place taken before h = search (rules, frame-begun)

pub returns-then-len-lt-LAST-clause-framed : goal.returns-then-len-lt-LAST-clause-framed
returns-then-len-lt-LAST-clause-framed c place taken before h = search (rules, frame-more)

pub returns-clause-framed : goal.returns-clause-framed
returns-clause-framed c place taken before h = search (rules, frame-whole, append_assoc)
