use Rattle.gw_speech.proofs.Common.{◌^◌, ◌<◌, ◌++◌, ◌∷◌, [], ap, sym, refl, ◌∙◌, append_assoc, append-nil, All-tail}
use Rattle.gw_speech.proofs.Common.{err_from_is_err_and, CodecState, TakesAllButWaiting-none, TakesAllButWaiting-join}
use Rattle.gw_speech.proofs.Common.{FailsAfterPrefix-join, FailsAfterPrefix-more, word_bits}
use Rattle.gw_speech.proofs.Speech.{speech_of_none, speech_joins, speech_more}
use Rattle.gw_speech.proofs.decode.put_each.Goals as goal

pub loop-word-init : goal.loop-word-init
loop-word-init g c = (
  [],
  record {
    goes = tt;
    ends = tt;
    whole = sym c.into_iter-word-iterator.ensures.into_iter_gives;
    fit = rw c.into_iter-word-iterator.ensures.into_iter_gives c.requires.fit;
    kind = c.requires.kind;
    stands = λ before at. rw (append-nil before) at;
    passes = λ before at. rw (speech_of_none c.args.spec.now before c.words_are_counted.ensures)
        (TakesAllButWaiting-none _ _);
    same = refl;
  },
)

pub loop-word-preserved : goal.loop-word-preserved
loop-word-preserved g c =
    let s = c.args.spec.now in
    let w = c.loop-word.invariant in
    let word = c.in-Some.word in
    let first = c.in-Some.ensures.steps in (
      w.0 ++ word ∷ [],
      record {
        goes = tt;
        ends = tt;
        whole = rw (w.1.whole, first, append_assoc) refl;
        fit = All-tail (λ w. w < 2 ^ word_bits s) word c.next.new.self (rw first at w.1.fit);
        kind = ap (λ (a : CodecState). a.kind) c.decode.ensures.state ∙ w.1.kind;
        stands = λ before at. rw (← append_assoc before w.0 (word ∷ []))
            (c.decode.ensures.stands _ _ [] (before ++ w.0) (w.1.stands before at));
        passes = λ before at. rw (speech_more s c.args.waiting.now.items before w.0 word c.decode.result
            c.words_are_counted.ensures c.prefixes_come_first.ensures
            (c.decode.ensures.octets _ _ [] (before ++ w.0) (w.1.stands before at)))
            (TakesAllButWaiting-join _ _ _ _ _ _ _ (w.1.passes before at) c.in_ok-put_octet.ensures.0);
        same = c.in_ok-put_octet.ensures.1 ∙ w.1.same;
      },
    )

pub returns-in_err-put_octet-clause-puts : goal.returns-in_err-put_octet-clause-puts
returns-in_err-put_octet-clause-puts g c =
    let p = err_from_is_err_and c.from_residual.result c.from_residual.ensures.1 in
    rw (p.1, p.2) (λ before at.
    let s = c.args.spec.now in
    let w = c.loop-word.invariant in
    let word = c.in-Some.word in
    let start = c.args.waiting.now.items in
    let counted = c.words_are_counted.ensures in
    let first = c.prefixes_come_first.ensures in
    let octet = c.decode.ensures.octets _ _ [] (before ++ w.0) (w.1.stands before at) in
    let all = append_assoc w.0 (word ∷ []) c.next.new.self in
    let split = speech_joins s start before (w.0 ++ word ∷ []) c.next.new.self counted first in
    let one = speech_more s start before w.0 word c.decode.result counted first octet in (
      c.in_err-put_octet.ensures.0,
      rw (w.1.whole, c.in-Some.ensures.steps, ← all, split, one)
          (FailsAfterPrefix-more _ _ _ _ (FailsAfterPrefix-join _ _ _ _ _ _ (w.1.passes before at) w.1.same
          c.in_err-put_octet.ensures.1)),
    ))
