use Rattle.gw_switch.proofs.Common.{List, slice_index_or, ap, ◌∙◌, arith, BoxedCircuit, saved_channel, ChannelFits}
use Rattle.gw_switch.proofs.Loading.{one-saved, one-fits}
use Rattle.gw_switch.proofs.circuits.Circuits.save.Goals as goal

pub loop-channel-preserved : goal.loop-channel-preserved
loop-channel-preserved c =
    let inv = c.loop-channel.invariant in
    let before = c.loop-channel-test.true in
    let is = c.channel-item.is
    ∙ ap (λ (cs : List BoxedCircuit). slice_index_or cs c.loop-channel.channel-index c.channel-item.result)
    c.deref-channel-items.ensures.value in
    record {
      octets = one-saved saved_channel c.args.self.now.channels.items c.loop-channel.channel-index c.channel-item.result
          c.channel-item.result c.args.out.now.items _ _ inv.octets c.in_ok-save.ensures.octets is (omega arith);
      fits = one-fits ChannelFits c.args.self.now.channels.items c.loop-channel.channel-index c.channel-item.result
          c.channel-item.result inv.fits c.in_ok-save.ensures.fits is (omega arith);
    }
