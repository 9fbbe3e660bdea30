use Rattle.gw_records.proofs.Common.{◌<◌, length, take, arith, length-take-le, common_steps}
use Rattle.gw_records.proofs.Buffers.{behind}
use Rattle.gw_records.proofs.reader.read_behind.Goals as goal

pub returns-clause-gives : goal.returns-clause-gives
returns-clause-gives g c =
    let some : 0 < length c.read.new.buf = grind (arith, common_steps) in
    record {
      octets = take c.in_ok-n.n c.read.new.buf;
      counted = length-take-le c.in_ok-n.n c.read.new.buf c.in_ok-n.ensures.bound;
      holds = behind c.args.buffer.now c.read.new.buf _ c.args.filled c.in_ok-n.n (omega arith) c.in_ok-n.ensures.bound;
      gives = record { gave = c.in_ok-n.ensures.gives; consumed = c.in_ok-n.ensures.consumes.0 };
      ended = λ h. c.in_ok-n.ensures.consumes.1 h some;
    }
