use Rattle.std.proofs.Common.{◌∙◌, arith}
use Rattle.gw_records.specs.Records.{code_record}
use Rattle.gw_trunk.proofs.Passing.{part-of-answer, tells-on}
use Rattle.gw_trunk.proofs.line.TrunkLineLine.put_code.Goals as goal

pub invariant_of-self-2 : goal.invariant_of-self-2
invariant_of-self-2 g c =
    let s = c.args.self.now in
    let sink = s.sink in
    let sent = c.in_ok-put_code.ensures in
    let code = part-of-answer c.args.circuit c.args.kind c.args.code 6 (omega arith) in
    let told = rw (c.code_record-octets.ensures) at c.answer.ensures.told in
    let octets = code_record c.args.circuit c.args.kind c.args.code in
    let more = tells-on sink.cut sink.log.octets octets _ _ sink.passed sent.whole s.told in
    record {
      long = s.long;
      stands = s.stands;
      told = rw (sent.log, c.code_record-octets.ensures) (told ∙ rw code.1 at more);
    }
