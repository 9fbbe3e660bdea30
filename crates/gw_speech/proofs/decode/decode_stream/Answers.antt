use Rattle.gw_speech.proofs.Common.{◌++◌, [], ◌∷◌, ◌∙◌, nil_from_length, record_at, held, TakesAllButWaiting-start}
use Rattle.gw_speech.proofs.Common.{TakesAllButWaiting-empty, TakesAllButWaiting-join, TakesAllButWaiting-appended}
use Rattle.gw_speech.proofs.Common.{AppendsPrefix-behind, FailsAfterPrefix-waiting, goes_up, starts, first_held}
use Rattle.gw_speech.proofs.Common.{record_taken, stops_in, stops_behind, reads_more, ended, gives_up, words_in}
use Rattle.gw_records.specs.declared.outcome.RunFault.TheVariants as faults
use Rattle.gw_speech.proofs.Taking.{words_more, decoded_more, words_at, totals_more, decode_ends}
use Rattle.gw_speech.proofs.decode.decode_stream.Goals as goal

pub decoding-init : goal.decoding-init
decoding-init g c = (
  [],
  [],
  record {
    stage = starts _ _ _ c.in-Ok.ensures.holds c.in-Ok.ensures.turns;
    passes = rw (nil_from_length _ ((c.words_are_counted.ensures c.args.spec.now.law c.args.spec.now.codec).1 []))
        (TakesAllButWaiting-start _ _ c.new-under_way.ensures.waiting);
    stands = c.new-under_way.ensures.stands;
    totals_are = c.new-under_way.ensures.totals;
  },
)

pub returns-in_err-act-in-Ok-first_record-clause-fault :
    goal.returns-in_err-act-in-Ok-first_record-clause-fault
returns-in_err-act-in-Ok-first_record-clause-fault g c =
    let s = c.args.spec.now in
    let w = c.decoding.invariant in
    let f = c.in-Ok-first_record.first in
    let found = first_held f c.held.ensures c.in-Ok-first_record.ensures.good in
    let words = words_at s f found c.held-in-Ok-first_record.ensures in
    let put = c.in_err-act-in-Ok-first_record.ensures.puts (words_in s w.1) w.2.stands in
    let speech = decoded_more s w.1 _ _ words c.prefixes_come_first.ensures in
    goes_up _ _ faults.Write c.from_residual.ensures.1 put.0 (stops_in f w.2.stage found put.1.counted
    (rw speech (AppendsPrefix-behind _ _ _ _ _ _ w.2.passes put.1.took)))

pub decoding-preserved-in-Ok-first_record : goal.decoding-preserved-in-Ok-first_record
decoding-preserved-in-Ok-first_record g c =
    let s = c.args.spec.now in
    let w = c.decoding.invariant in
    let f = c.in-Ok-first_record.first in
    let found = first_held f c.held.ensures c.in-Ok-first_record.ensures.good in
    let it = record_at f (held c.decoding.reader) in
    let words = words_at s f found c.held-in-Ok-first_record.ensures in
    let done = c.in_ok-act-in-Ok-first_record.ensures in
    let put = done.puts (words_in s w.1) w.2.stands in (
      w.0,
      w.1 ++ it ∷ [],
      record {
        stage = record_taken f w.2.stage found c.pass.ensures.holds c.pass.ensures.turns put.1;
        passes = rw (decoded_more s w.1 it _ words c.prefixes_come_first.ensures)
            (TakesAllButWaiting-join _ _ _ _ _ _ _ w.2.passes put.0);
        stands = rw (words_more s w.1 it _ words) (done.stands (words_in s w.1) w.2.stands);
        totals_are = done.counts ∙ totals_more s _ w.1 it _ words w.2.totals_are;
      },
    )

pub returns-in_err-flush-in-Err-clause-fault : goal.returns-in_err-flush-in-Err-clause-fault
returns-in_err-flush-in-Err-clause-fault g c =
    let w = c.decoding.invariant in
    let fault = c.in_err-flush-in-Err.ensures.writes in
    goes_up _ _ faults.Write c.from_residual-in_err-flush-in-Err.ensures.1 fault.0 (stops_behind w.2.stage
    fault.1.counted (FailsAfterPrefix-waiting _ _ _ _ _ w.2.passes w.2.stage.no_write fault.1).took)

pub decoding-preserved : goal.decoding-preserved
decoding-preserved g c =
    let w = c.decoding.invariant in
    let r = rw c.if-not-branch.false at c.in_ok-read_on-in-Err.ensures.ok in (
      w.0 ++ r.octets,
      w.1,
      record {
        stage = reads_more w.2.stage r c.requires.turns c.in_ok-flush-in-Err.ensures.writes.1;
        passes = TakesAllButWaiting-empty _ _ _ c.in_ok-flush-in-Err.ensures.empty
            (TakesAllButWaiting-appended _ _ _ _ _ w.2.passes c.in_ok-flush-in-Err.ensures.writes.0);
        stands = w.2.stands;
        totals_are = w.2.totals_are;
      },
    )

pub returns-then-not-branch : goal.returns-then-not-branch
returns-then-not-branch g c =
    let w = c.decoding.invariant in
    let r = rw c.if-not-branch.true at c.in_ok-read_on-in-Err.ensures.ok in
    let e = ended c.decoding.under_way.totals w.2.stage r c.held.ensures c.in-Err.ensures.end
    c.in_ok-flush-in-Err.ensures.writes.1
    (TakesAllButWaiting-appended _ _ _ _ _ w.2.passes c.in_ok-flush-in-Err.ensures.writes.0, w.2.totals_are) in
    let both = decode_ends c.args.spec.now _ _ _ e.0 r.ended e.1 c.answer.ensures in
    record { ok = both.0; fault = both.1 }

pub returns-in_err-read_on-in-Err-clause-fault : goal.returns-in_err-read_on-in-Err-clause-fault
returns-in_err-read_on-in-Err-clause-fault g c =
    let w = c.decoding.invariant in
    let fault = c.in_err-read_on-in-Err.ensures.fault in
    goes_up _ _ faults.Read c.from_residual-in_err-read_on-in-Err.ensures.1 fault.0
    (gives_up c.decoding.under_way.totals w.2.stage fault.1 c.held.ensures c.in-Err.ensures.end
    c.in_ok-flush-in-Err.ensures.writes.1
    (TakesAllButWaiting-appended _ _ _ _ _ w.2.passes c.in_ok-flush-in-Err.ensures.writes.0, w.2.totals_are))
