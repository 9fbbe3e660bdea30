use Rattle.gw_records.proofs.Common.{arith, sym, ◌∙◌}
use Rattle.gw_records.proofs.Buffers.{open_is_short, held_fits}
use Rattle.gw_records.proofs.reader.Reader.read_on.Goals as goal

pub prove-unreachable-requires : goal.prove-unreachable-requires
prove-unreachable-requires g c =
    let short = open_is_short c.args.kinds.now c.held-held.result.now c.args.ending
    (λ i. grind arith) (rw c.held-held.ensures c.requires.ends)
    (sym c.is_open.ensures ∙ c.if-not-is_open.false) in
    omega (arith, short)

pub returns-in-Ok-clause-ok : goal.returns-in-Ok-clause-ok
returns-in-Ok-clause-ok g c = grind (arith, held_fits c.refill.new.self)
