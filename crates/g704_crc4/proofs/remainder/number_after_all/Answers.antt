use Rattle.g704_crc4.proofs.Common.{◌∙◌, ap, sym, get_or, take, crc_number, sent_bits}
use Rattle.g704_crc4.specs.Remainder.{after_all}
use Rattle.g704_crc4.proofs.Counted.{next-octet}
use Rattle.g704_crc4.proofs.Submultiframes.{after-push}
use Rattle.g704_crc4.proofs.remainder.number_after_all.Goals as goal

pub loop-octet-init : goal.loop-octet-init
unfolding sent_bits
loop-octet-init c remainder e = e

pub loop-octet-preserved : goal.loop-octet-preserved
loop-octet-preserved c remainder e =
    let octets = c.args.octets.now in
    let i = c.loop-octet.octet-index in
    c.number_after-now.ensures _ (c.loop-octet.invariant remainder e)
    ∙ ap crc_number (sym (after-push remainder (take i octets) (get_or octets i 0))
    ∙ ap (after_all remainder) (next-octet octets i c.loop-octet-test.true))
