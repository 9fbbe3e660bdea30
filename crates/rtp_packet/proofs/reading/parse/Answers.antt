use Rattle.std.proofs.Common.{arith}
use Rattle.rtp_packet.proofs.Callers.{read-ok, read-exact, read-fault}
use Rattle.rtp_packet.proofs.reading.parse.Goals as goal

pub returns-clause-ok : goal.returns-clause-ok
returns-clause-ok c =
    read-ok c.args.octets.now c.view_in.result (λ i. omega (arith, c.type_inv.octets i)) c.view_in.ensures

pub returns-clause-exact : goal.returns-clause-exact
returns-clause-exact c = read-exact c.args.octets.now c.view_in.result c.view_in.ensures

pub returns-clause-fault : goal.returns-clause-fault
returns-clause-fault c = read-fault c.args.octets.now c.view_in.result c.view_in.ensures
