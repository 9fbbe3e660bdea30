use Rattle.gw_speech.proofs.Common.{◌≡◌, ◌+◌, ◌*◌, ◌^◌, ◌<◌, length, refl, ◌∙◌, arith, All-drop, le-div}
use Rattle.gw_speech.proofs.Common.{err_from_is_err_and, TakesAllButWaiting-start, TakesAllButWaiting-join}
use Rattle.gw_speech.proofs.Common.{TakesAllButWaiting-appended, FailsAfterPrefix-join, FailsAfterPrefix-more}
use Rattle.gw_speech.proofs.Common.{FailsAfterPrefix-waiting, packet_len, word_bits, full_packets}
use Rattle.gw_speech.proofs.PacketLemmas.{one_more_packet, first_packets, full_are, next_place}
use Rattle.gw_speech.proofs.encode.write_packets.Goals as goal

pub packets-init : goal.packets-init
packets-init g c = (
  0,
  record {
    place = let none : packet_len c.args.spec.now * 0 ≡ 0 = omega arith in rw none refl;
    whole = omega arith;
    fit = c.requires.fit;
    next = λ k at. let e : k + 0 ≡ k = omega arith in rw e at;
    passes = λ k at. TakesAllButWaiting-start _ _ c.requires.empty;
    same = refl;
  },
)

pub packets-preserved : goal.packets-preserved
packets-preserved g c =
    let s = c.args.spec.now in
    let w = c.packets.invariant in
    let len = c.packet_len-len.ensures.value in (
      w.0 + 1,
      record {
        place = next_place s c.args.words.now _ _ w.0 _ len w.1.place c.split_at.ensures.back;
        whole = omega (arith, w.1.whole, c.split_at.ensures.back_len, len);
        fit = rw c.split_at.ensures.back (All-drop
            (λ w. w < 2 ^ word_bits c.args.spec.now) c.packet_len-len.result c.packets.rest.now w.1.fit);
        next = λ k at. let e : k + (w.0 + 1) ≡ (k + w.0) + 1 = omega arith in rw e (c.next_packet.ensures (k + w.0)
            (w.1.next k at));
        passes = λ k at. rw (one_more_packet s _ k w.0 _ c.args.words.now _ _ (w.1.next k at) len w.1.place
            c.split_at.ensures.front) (TakesAllButWaiting-join _ _ _ _ _ _ _
            (w.1.passes k at) c.in_ok-put_packet.ensures.0);
        same = c.in_ok-put_packet.ensures.1 ∙ w.1.same;
      },
    )

pub returns-in_err-put_packet-clause-writes : goal.returns-in_err-put_packet-clause-writes
returns-in_err-put_packet-clause-writes g c =
    let p = err_from_is_err_and c.from_residual.result c.from_residual.ensures.1 in
    rw (p.1, p.2) (λ k at.
    let s = c.args.spec.now in
    let w = c.packets.invariant in
    let len = c.packet_len-len.ensures.value in
    let one = one_more_packet s _ k w.0 _ c.args.words.now _ _ (w.1.next k at) len w.1.place c.split_at.ensures.front in
    let full = le-div (w.0 + 1) (length c.args.words.now) (packet_len s) (omega (arith, len))
    (omega (arith, w.1.whole, len)) in
    let all = first_packets s k c.args.words.now (w.0 + 1) (full_packets s c.args.words.now) full in (
      c.in_err-put_packet.ensures.0,
      rw (all.1, one) (FailsAfterPrefix-more _ _ _ _ (FailsAfterPrefix-join _ _ _ _ _ _ (w.1.passes k at) w.1.same
          c.in_err-put_packet.ensures.1)),
    ))

pub returns : goal.returns
returns g c =
    let w = c.packets.invariant in
    let short : length c.packets.rest.now < packet_len c.args.spec.now = omega
    (arith, c.packet_len-len.ensures.value) in
    let full = full_are c.args.spec.now c.args.words.now w.0 (length c.packets.rest.now) w.1.whole short in
    record {
      left = (short, rw full w.1.whole);
      writes = λ k at. (
        rw full (TakesAllButWaiting-appended _ _ _ _ _ (w.1.passes k at) c.in_ok-flush.ensures.writes.0),
        c.in_ok-flush.ensures.writes.1 ∙ w.1.same,
      );
      next = rw full w.1.next;
      empty = c.in_ok-flush.ensures.empty;
    }

pub returns-in_err-flush-clause-writes : goal.returns-in_err-flush-clause-writes
returns-in_err-flush-clause-writes g c =
    let p = err_from_is_err_and c.from_residual-in_err-flush.result c.from_residual-in_err-flush.ensures.1 in
    rw (p.1, p.2) (λ k at.
    let w = c.packets.invariant in
    let full = full_are c.args.spec.now c.args.words.now w.0 (length c.packets.rest.now) w.1.whole (omega
    (arith, c.packet_len-len.ensures.value)) in (
      c.in_err-flush.ensures.writes.0,
      rw full (FailsAfterPrefix-waiting _ _ _ _ _ (w.1.passes k at) w.1.same c.in_err-flush.ensures.writes.1),
    ))
