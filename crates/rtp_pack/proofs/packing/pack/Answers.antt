use Rattle.std.proofs.Common.{rules}
use Rattle.rtp_pack.proofs.Callers.{octets_of-eight}
use Rattle.rtp_pack.proofs.packing.pack.Goals as goal

pub returns-then-bits-eq-OCTET_BITS : goal.returns-then-bits-eq-OCTET_BITS
returns-then-bits-eq-OCTET_BITS c = search (rules, octets_of-eight)
