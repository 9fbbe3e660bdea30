use Rattle.std.proofs.Common.{◌≡◌, ◌≤◌, ◌+◌, ◌-◌, ◌++◌, length, take, drop, ◌∙◌, sym, ap, arith, append_assoc, refl, ℕ}
use Rattle.std.proofs.Common.{List}
use Rattle.std.proofs.Math.Seq.{take-add}
use Rattle.std.proofs.lemmas.Bool.{leb-false}
use Rattle.std.proofs.lemmas.List.{length-drop, take_all}
use Rattle.gw_satop.specs.declared.log.History.{History}
use Rattle.gw_satop.proofs.Counting.{counted-more}
use Rattle.gw_satop.proofs.Turning.{sent-more}
use Rattle.gw_satop.proofs.circuit.send_all.Goals as goal

-- The octets from a place on.
from-place : (octets : List ℕ) (at : ℕ) → take (length octets - at) (drop at octets) ≡ drop at octets
from-place octets at =
    take_all (length octets - at) (drop at octets) (rw (length-drop at octets) (omega arith))

-- Octets came, then some of those behind a place.
more-came : (before came there octets : List ℕ) (at n : ℕ) → there ≡ before ++ take at octets
    → came ≡ there ++ take n (take (length octets - at) (drop at octets)) → came ≡ before ++ take (at + n) octets
more-came before came there octets at n so-far here =
    here ∙ rw (so-far, from-place octets at, take-add at n octets)
    (append_assoc before (take at octets) (take n (drop at octets)))

-- A place stays within the octets.
stays-within : (octets : List ℕ) (at n : ℕ) → at ≤ length octets
    → n ≤ length (take (length octets - at) (drop at octets)) → at + n ≤ length octets
stays-within octets at n within bound =
    omega (arith, ap length (from-place octets at), length-drop at octets)

pub loop-at-preserved-then-packet : goal.loop-at-preserved-then-packet
loop-at-preserved-then-packet g c = record {
  rest = rw (c.if-packet.ensures.empty refl) (omega (arith, c.packet.new.self.size_is.0));
  sent = rw (c.send.ensures.sent, c.loop-at.invariant.sent, ← c.fill-at.ensures.sent, c.as_slice.ensures.value)
      (sym (c.if-packet.ensures.sent refl));
  came = c.packet.ensures.came ∙ more-came _ _ _ _ _ _ c.loop-at.invariant.came c.fill-at.ensures.came;
  within = stays-within _ _ _ c.loop-at.invariant.within c.fill-at.ensures.bound;
  received = ap (λ (h : History). h.datagrams) c.send.ensures.received ∙ c.loop-at.invariant.received;
  start = c.packet.ensures.start ∙ c.fill-at.ensures.start ∙ c.loop-at.invariant.start;
  counted = λ k. counted-more _ _ _ _ _ _ c.args.missing c.send.result
      (rw (c.if-packet.ensures.flags refl, c.fill-at.ensures.flags) refl) c.send.ensures.taken
      c.send-then-packet.ensures (c.loop-at.invariant.counted k);
  plays = λ receiver pace received went silent k. sent-more receiver pace _ _ _ _ received went _
      (rw (c.if-packet.ensures.flags refl, c.fill-at.ensures.flags, silent) refl) c.send-then-packet.ensures
      (c.loop-at.invariant.plays receiver pace received went silent k);
}

pub loop-at-preserved : goal.loop-at-preserved
loop-at-preserved g c = record {
  rest = rw (c.if-packet.ensures.none refl) (leb-false _ _ (sym (c.if-packet.ensures.whole)));
  sent = rw (c.if-packet.ensures.none refl) (c.loop-at.invariant.sent ∙ sym c.fill-at.ensures.sent);
  came = c.packet.ensures.came ∙ more-came _ _ _ _ _ _ c.loop-at.invariant.came c.fill-at.ensures.came;
  within = stays-within _ _ _ c.loop-at.invariant.within c.fill-at.ensures.bound;
  received = c.loop-at.invariant.received;
  start = c.packet.ensures.start ∙ c.fill-at.ensures.start ∙ c.loop-at.invariant.start;
  counted = λ k. rw (c.if-packet.ensures.none refl, c.fill-at.ensures.flags) (c.loop-at.invariant.counted k);
  plays = λ receiver pace received went silent k. rw (c.if-packet.ensures.none refl, c.fill-at.ensures.flags)
      (c.loop-at.invariant.plays receiver pace received went silent k);
}

pub returns-clause-sends : goal.returns-clause-sends
returns-clause-sends g c =
    let all = take_all c.loop-at.at c.args.octets.now (omega (arith, c.loop-at-test.false)) in
    let came = rw all at c.loop-at.invariant.came in
    record { came_are = came; sent_are = rw (← came) c.loop-at.invariant.sent; rest = c.loop-at.invariant.rest }
