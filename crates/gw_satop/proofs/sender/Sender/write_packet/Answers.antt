use Rattle.std.proofs.Common.{arith}
use Rattle.gw_satop.specs.Sending.{packet_at}
use Rattle.gw_satop.proofs.Packets.{written}
use Rattle.gw_satop.proofs.sender.Sender.write_packet.Goals as goal

pub returns-in-Some : goal.returns-in-Some
unfolding packet_at
returns-in-Some c =
    rw (
      c.in-Some.is,
      ← c.args.self.now.sequence_is,
      ← c.args.self.now.timestamp_is,
      ← c.header-header.ensures,
      ← c.as_slice.ensures.value,
    )
    (written c.write.result c.write.ensures.ok c.write.ensures.too_long
    (λ long. omega (arith, long, c.args.self.now.few, c.args.self.now.size_is.1, c.as_slice.ensures.fits)))

pub returns-in-None : goal.returns-in-None
unfolding packet_at
returns-in-None c =
    rw (c.in-None.is, ← c.args.self.now.sequence_is, ← c.as_slice-in-None.ensures.value)
    (written c.write-in-None.result c.write-in-None.ensures.ok c.write-in-None.ensures.too_long
    (λ long. omega (arith, long, c.args.self.now.few, c.args.self.now.size_is.1, c.as_slice-in-None.ensures.fits)))
