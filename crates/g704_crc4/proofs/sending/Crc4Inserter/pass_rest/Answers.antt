use Rattle.g704_crc4.proofs.Common.{take, arith, length-take-le, rules}
use Rattle.g704_crc4.proofs.Sent.{sent-same}
use Rattle.g704_crc4.proofs.Steps.{sends-rest}
use Rattle.g704_crc4.proofs.sending.Crc4Inserter.pass_rest.Goals as goal

pub returns-clause-reply : goal.returns-clause-reply
returns-clause-reply c history s = search (rules, length-take-le, sent-same)

pub returns-clause-stands : goal.returns-clause-stands
returns-clause-stands c history s =
    let count = c.min-count.result in
    let long = length-take-le count c.args.octets.now (omega arith) in
    rw long at (sends-rest c.args.self.now history (take count c.args.octets.now) _ s
    (λ k lt z. omega (arith, s.place, long, lt, z)) (c.number_after_all-self.ensures _ s.running))
