use Rattle.gw_switch.proofs.Common.{arith, octets, HasHistory}
use Rattle.gw_switch.proofs.gateway.Gateway.octet_slow_path.Goals as goal

pub returns-in-None : goal.returns-in-None
unfolding HasHistory
returns-in-None c = λ config events h.
    let heard = c.receive.ensures (octets events) h.trunk in
    c.send_framing.ensures config events c.args.octet (record { trunk = heard; circuits = h.circuits })
    (omega (arith, heard.position, c.in-None.ensures.none)) c.args.room.now

pub returns-in-Some : goal.returns-in-Some
unfolding HasHistory
returns-in-Some c = λ config events h.
    c.send_slot.ensures config events c.args.octet
    (record { trunk = c.receive.ensures (octets events) h.trunk; circuits = h.circuits })
