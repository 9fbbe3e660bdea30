use Rattle.gw_records.proofs.Common.{sym, ◌∙◌, rules}
use Rattle.gw_records.proofs.Firsts.{kind_left, circuit_is, length_is, good_first, head_told}
use Rattle.gw_records.proofs.records.first_record.Goals as goal

pub head_of-requires-clause-kind : goal.head_of-requires-clause-kind
head_of-requires-clause-kind c = kind_left c.args.kinds.now c.args.held.now (sym c.has_bad_kind.ensures
    ∙ c.if-has_bad_kind.false)

pub head_of-requires-clause-circuit : goal.head_of-requires-clause-circuit
head_of-requires-clause-circuit c = (circuit_is c.args.held.now (sym c.has_bad_circuit.ensures
    ∙ c.if-has_bad_circuit.false)).0

pub head_of-requires-clause-command : goal.head_of-requires-clause-command
head_of-requires-clause-command c = (length_is c.args.held.now (sym c.has_bad_length.ensures
    ∙ c.if-has_bad_length.false)).0

pub head_of-requires-clause-codec : goal.head_of-requires-clause-codec
head_of-requires-clause-codec c = (length_is c.args.held.now (sym c.has_bad_length.ensures
    ∙ c.if-has_bad_length.false)).1

pub returns-clause-good : goal.returns-clause-good
returns-clause-good c = search (rules, head_told, good_first)
