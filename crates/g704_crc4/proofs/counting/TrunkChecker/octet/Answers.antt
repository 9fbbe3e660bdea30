use Rattle.g704_crc4.proofs.Common.{arith, rules}
use Rattle.g704_crc4.proofs.CountsOfEvents.{receiver_counts-more, receiver_counts-same}
use Rattle.g704_crc4.proofs.counting.TrunkChecker.octet.Goals as goal

pub returns-in-Some : goal.returns-in-Some
returns-in-Some c history s =
    let receiver_counts = c.args.self.now.receiver_counts in
    record {
      receives = c.octet.ensures.stands history s.receives;
      receiver_counts = grind (arith, receiver_counts-more history c.args.octet);
    }

pub returns-in_default : goal.returns-in_default
returns-in_default c history s = search (rules, receiver_counts-same)
