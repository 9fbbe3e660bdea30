use Rattle.gw_circuit.proofs.Slots.{stands-open, plays-open, datagram-none}
use Rattle.gw_circuit.proofs.Turns.{keeps-of}
use Rattle.gw_circuit.proofs.circuit.Circuit.exchange.Goals as goal

pub returns : goal.returns
returns c law config items stands opened =
    let speech = (keeps-of c.args.self.now law config items stands).speech in
    let short = c.encode_next.ensures.short law _ _ _ _ _ speech in
    let plays =
    plays-open c.args.self.now law config items c.args.heard c.encode_next.new.self c.decode_next.new.self _ _ _ _
    stands opened c.idle-quiet.ensures c.unwrap_or-2.ensures (c.encode_next.ensures.speaks law _ _ _ _ _ speech)
    c.decode_next.ensures.sound c.decode_next.ensures.speaks in (
      plays.0,
      datagram-none law config items c.args.heard opened short,
      stands-open c.args.self.now law config items c.args.heard c.decode_next.new.self stands opened
          (rw (c.unwrap_or.ensures, plays.1) at plays.2) short,
    )
