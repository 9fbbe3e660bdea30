use Rattle.std.proofs.Common.{append-nil, arith, refl, sym}
use Rattle.gw_trunk.proofs.Passing.{part-of-answer, passes-on}
use Rattle.gw_trunk.proofs.sink.TrunkRecordSink.put_code.Goals as goal

pub invariant_of-self : goal.invariant_of-self
invariant_of-self g c =
    let cut = c.note_cut.ensures.cut in
    record { passed = record { whole = λ e. cc; went_are = c.args.self.now.passed.went_are } }

pub invariant_of-self-2 : goal.invariant_of-self-2
invariant_of-self-2 g c =
    let s = c.args.self.now in
    let code = c.requires.code in
    let part = part-of-answer code.0 code.1 code.2 6 (omega arith) in
    record {
      passed = rw (c.append.ensures, code.3) (passes-on s.cut s.cut s.log.octets _ _ _ s.passed c.if-self.false
          (λ e. part.2 refl) (rw part.0 (sym (append-nil _))));
    }
