use Rattle.gw_switch.proofs.Common.{arith}
use Rattle.gw_switch.proofs.Heard.{turn_over}
use Rattle.gw_switch.proofs.HearingLemmas.{octet_kept, nibble_kept}
use Rattle.gw_switch.proofs.trunk.Trunk.skip_turn.Goals as goal

pub returns : goal.returns
returns c = λ s n h turn.
    turn_over c.args.self.now s n _ _ h
    (λ k lt speech. octet_kept s k n _ h.awaited lt (λ e. speech (omega (arith, e, turn.0))) (h.octets k lt speech))
    (λ k low high. nibble_kept s k n _ h.awaited high (turn.1 k low high) (h.nibbles k low high))
