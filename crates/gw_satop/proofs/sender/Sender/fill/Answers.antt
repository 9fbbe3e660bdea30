use Rattle.gw_satop.proofs.Packets.{packets-behind}
use Rattle.gw_satop.proofs.sender.Sender.fill.Goals as goal

pub returns-clause-sent : goal.returns-clause-sent
returns-clause-sent c =
    rw c.append.ensures (packets-behind c.args.self.now.start 0 c.args.self.now.log.flags c.args.self.now.came.octets _
    c.args.self.now.sent_all)
