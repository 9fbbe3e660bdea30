use Rattle.std.proofs.Common.{rules}
use Rattle.g704_bits.proofs.Windows.{last_octet-push}
use Rattle.g704_bits.proofs.Octets.{stands-octet, reply-octet}
use Rattle.g704_bits.proofs.bits.BitAligner.octet.Goals as goal

pub returns-clause-reply : goal.returns-clause-reply
returns-clause-reply c history s =
    reply-octet c.take_octet.new.aligner history c.args.self.now.before c.args.octet c.offset.result c.window_at.result
    s.before
    (stands-octet c.take_octet.new.aligner history c.args.self.now.before c.args.octet s.before
    (c.take_octet.ensures history s.bits))
    c.offset.ensures c.window_at.ensures

pub returns-clause-stands : goal.returns-clause-stands
returns-clause-stands c history s = search (rules, stands-octet, last_octet-push)
