use Rattle.std.proofs.Common.{◌≡◌, take, arith}
use Rattle.std.proofs.Common.{take_all}
use Rattle.gw_tell.proofs.text.push_numbers.Goals as goal

pub returns-clause-numbers : goal.returns-clause-numbers
returns-clause-numbers c =
    let all : take c.loop-n.n-index c.args.numbers.now ≡ c.args.numbers.now =
    take_all c.loop-n.n-index c.args.numbers.now (omega arith) in
    rw all at c.loop-n.invariant.items
