use Rattle.gw_circuit.proofs.Slots.{stands-sent, header-is, plays-open, datagram-sent}
use Rattle.gw_circuit.proofs.Turns.{keeps-of}
use Rattle.gw_circuit.proofs.circuit.Circuit.send.Goals as goal

pub returns : goal.returns
returns c law config items stands opened =
    let plays =
    plays-open c.args.self.now law config items c.args.heard c.args.self.now.speech c.decode_next.new.self _ _ _ _
    stands opened c.idle-quiet.ensures c.unwrap_or-octet.ensures (keeps-of _ law config items stands).speech
    c.decode_next.ensures.sound c.decode_next.ensures.speaks in
    let full = c.send.ensures.datagram law _ _ _ _ _ plays.2 in (
      plays.0,
      datagram-sent law config items c.args.heard c.send.new.datagram.items c.header-header.result opened full.0
          (header-is c.args.self.now law config items c.decode_next.new.self
          c.header-header.result _ _ stands plays.2 full.0
          c.header-header.ensures.value c.header-header.ensures.size)
          (rw (c.unwrap_or.ensures, plays.1) at full.1),
      stands-sent c.args.self.now law config items c.args.heard c.send.new.self
          c.saturating_add-self.result stands opened
          (rw (c.unwrap_or.ensures, plays.1) at (c.send.ensures.speaks law _ _ _ _ _ plays.2))
          full.0 c.saturating_add-self.ensures,
    )
