use Rattle.gw_switch.proofs.Common.{◌≤◌, sym, ap, ◌∙◌, arith, frame_with, signalled}
use Rattle.gw_switch.proofs.Rounds.{frame_with-low, frame_with-high, frame_with-small, place_in_round}
use Rattle.gw_switch.proofs.Heard.{turn_over}
use Rattle.gw_switch.proofs.HearingLemmas.{octet_kept, nibble_heard, nibble_taken}
use Rattle.gw_switch.proofs.trunk.Trunk.take_nibbles.Goals as goal

pub returns-clause-high : goal.returns-clause-high
unfolding signalled
returns-clause-high c = λ s n h sixteen at.
    let k = c.args.first in
    let is = c.take_nibbles.ensures.numbers in
    c.take_nibbles.ensures.high
    ∙ nibble_heard s k n _ h.awaited
    (place_in_round n (frame_with k) (frame_with-small k (omega (arith, is.1))) sixteen
    (sym at ∙ sym (frame_with-low k (omega (arith, is.1)))))
    (h.nibbles k is.0 (omega (arith, is.1)))

pub returns-clause-low : goal.returns-clause-low
unfolding signalled
returns-clause-low c = λ s n h sixteen at.
    let k = c.args.second in
    let is = c.take_nibbles.ensures.numbers in
    let small : k ≤ 30 = omega (arith, is.1, c.requires) in
    c.take_nibbles.ensures.low
    ∙ nibble_heard s k n _ h.awaited
    (place_in_round n (frame_with k) (frame_with-small k small) sixteen
    (sym at ∙ sym (frame_with-high c.args.first is.0) ∙ ap frame_with (sym c.requires)))
    (h.nibbles k (omega (arith, is.0, c.requires)) small)

pub returns-clause-sent : goal.returns-clause-sent
returns-clause-sent c = λ s n h sixteen at.
    turn_over c.args.self.now s n _ _ h
    (λ k lt speech. octet_kept s k n _ h.awaited lt (λ e. speech (omega (arith, e, sixteen))) (h.octets k lt speech))
    (λ k low high.
    nibble_taken s k n c.args.first _ _ h.awaited high sixteen at (h.nibbles k low high)
    (c.take_nibbles.ensures.each k low high))
