use Rattle.gw_switch.proofs.Common.{◌≡◌, ◌++◌, take, All, saved_circuits, ChannelFits}
use Rattle.gw_switch.proofs.circuits.Circuits.save.Given as goal

abbrev pub invariant-loop-channel : goal.invariant-loop-channel
invariant-loop-channel l = record {
  octets : l.out.items ≡ l.initial.out.items ++ saved_circuits (take l.channel-index l.self.channels.items);
  fits : All ChannelFits (take l.channel-index l.self.channels.items);
}
