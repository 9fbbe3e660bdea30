use Rattle.std.proofs.Common.{◌∙◌, ◌+◌, ◌≡◌, arith, append-nil, drop, length, refl, sym, take, take-append-drop}
use Rattle.gw_records.specs.Records.{record_of}
use Rattle.gw_trunk.proofs.Passing.{part-of-record, passes-on, tells-on}
use Rattle.gw_trunk.proofs.sink.TrunkRecordSink.put_octets.Goals as goal

pub invariant_of-self-then-n-octets : goal.invariant_of-self-then-n-octets
invariant_of-self-then-n-octets g c =
    let s = c.args.self.now in
    let n = c.put_all-n.result in
    let part = part-of-record c.args.octets.now n c.put_all-n.ensures.bound c.requires.short in
    let cut = c.note_cut-then-n-octets.ensures.cut in
    record {
      passed = rw c.append_trunk.ensures (passes-on s.cut _ s.log.octets _ _ _ s.passed c.if-self.false
          (λ e. cc) (rw part.0 c.put_all-n.ensures.went));
    }

pub returns-then-n-octets-clause-writes : goal.returns-then-n-octets-clause-writes
returns-then-n-octets-clause-writes g c =
    let all = record_of 0x54 0 c.args.octets.now in
    let n = 4 + c.put_all-n.result in
    rw c.note_cut-then-n-octets.ensures.fault (
      refl,
      record {
        counted = c.note_cut-then-n-octets.ensures.counts;
        took = record {
          written = take n all;
          rest = drop n all;
          whole = sym (take-append-drop n all);
          appended = c.append_trunk.ensures;
        };
      },
    )

pub invariant_of-self-else-n-octets : goal.invariant_of-self-else-n-octets
invariant_of-self-else-n-octets g c =
    let s = c.args.self.now in
    let n = c.put_all-n.result in
    let part = part-of-record c.args.octets.now n c.put_all-n.ensures.bound c.requires.short in
    let all : n ≡ length c.args.octets.now = omega (arith, c.put_all-n.ensures.bound, c.if-n-octets.false) in
    record {
      passed = rw c.append_trunk.ensures (passes-on s.cut _ s.log.octets _ _ _ s.passed c.if-self.false
          (λ e. part.2 all) (rw part.0 c.put_all-n.ensures.went));
    }

pub returns-then-n-octets-clause-told : goal.returns-then-n-octets-clause-told
returns-then-n-octets-clause-told g c =
    let s = c.args.self.now in
    let part = part-of-record c.args.octets.now c.put_all-n.result c.put_all-n.ensures.bound c.requires.short in
    rw c.append_trunk.ensures (sym (tells-on s.cut s.log.octets _ _ _ s.passed c.if-self.false refl)
    ∙ rw part.1 (append-nil _))

pub returns-clause-told : goal.returns-clause-told
returns-clause-told g c =
    let s = c.args.self.now in
    let part = part-of-record c.args.octets.now c.put_all-n.result c.put_all-n.ensures.bound c.requires.short in
    rw c.append_trunk.ensures (sym (tells-on s.cut s.log.octets _ _ _ s.passed c.if-self.false refl)
    ∙ rw part.1 (append-nil _))
