use Rattle.gw_switch.proofs.Common.{slice_index_or, arith, append-nil, refl, sym, take_all, saved_nibble, IsNibble}
use Rattle.gw_switch.proofs.Loading.{one-saved, one-fits}
use Rattle.gw_switch.proofs.trunk.saving.save_nibbles.Goals as goal

pub loop-nibble-init : goal.loop-nibble-init
loop-nibble-init c = record { octets = sym (append-nil _); fits = λ k d less. absurd (omega arith) }

pub loop-nibble-preserved : goal.loop-nibble-preserved
loop-nibble-preserved c =
    let inv = c.loop-nibble.invariant in
    let before = c.loop-nibble-test.true in
    let at = slice_index_or c.args.nibbles.now c.loop-nibble.nibble-index c.nibble-item.result in
    record {
      octets = one-saved saved_nibble c.args.nibbles.now c.loop-nibble.nibble-index at c.nibble-item.result
          c.args.out.now.items _ _ inv.octets c.in_ok-save_nibble.ensures.octets refl (omega arith);
      fits = one-fits IsNibble c.args.nibbles.now c.loop-nibble.nibble-index at c.nibble-item.result inv.fits
          c.in_ok-save_nibble.ensures.fits refl (omega arith);
    }

pub returns-clause-octets : goal.returns-clause-octets
returns-clause-octets c =
    let over = c.loop-nibble-test.false in
    rw (take_all c.loop-nibble.nibble-index c.args.nibbles.now (omega arith)) at c.loop-nibble.invariant.octets

pub returns-clause-fits : goal.returns-clause-fits
returns-clause-fits c =
    let over = c.loop-nibble-test.false in
    rw (take_all c.loop-nibble.nibble-index c.args.nibbles.now (omega arith)) at c.loop-nibble.invariant.fits
