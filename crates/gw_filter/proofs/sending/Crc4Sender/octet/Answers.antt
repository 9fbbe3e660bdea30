use Rattle.std.proofs.Common.{[]}
use Rattle.gw_filter.specs.Crc4.{with_e_bits}
use Rattle.gw_filter.proofs.Arrivals.{same-e-bit}
use Rattle.gw_filter.proofs.Sends.{octet-sent}
use Rattle.gw_filter.proofs.sending.Crc4Sender.octet.Goals as goal

pub returns : goal.returns
returns c arrivals sent s =
    let has = same-e-bit arrivals _ (c.next_has_e_bit-has_bit.ensures (with_e_bits [] arrivals) s.multiframer) in
    octet-sent c.args.self.now _ arrivals sent c.args.octet c.octet-with_bit.result c.octet.result s
    (c.octet-with_bit.ensures.reply arrivals s.bits has)
    (c.octet-with_bit.ensures.stands arrivals s.bits has)
    (c.octet.ensures.reply (with_e_bits [] arrivals) s.multiframer)
    (c.octet.ensures.stands (with_e_bits [] arrivals) s.multiframer)
