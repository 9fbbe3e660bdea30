use Rattle.gw_switch.proofs.Common.{◌++◌, ℕ, Option, arith, refl, rules, length-set, take_all, saved_nibble}
use Rattle.gw_switch.proofs.Common.{saved_nibbles, IsNibble}
use Rattle.gw_switch.proofs.Loading.{nibble-tells, one-read, one-more, one-left, none-left}
use Rattle.gw_switch.proofs.trunk.saving.load_nibbles.Goals as goal

pub loop-i-init : goal.loop-i-init
loop-i-init c = record { octets = refl; many = search rules; each = λ k d less. absurd (omega arith) }

pub returns-in_err-nibbles-clause-loaded : goal.returns-in_err-nibbles-clause-loaded
returns-in_err-nibbles-clause-loaded c = λ saved rest size few e.
    let long = c.loop-i.invariant.many in
    let before = c.loop-i-test.true in
    let next = one-left IsNibble saved_nibble c.loop-i.nibbles saved c.loop-i.i _ c.loop-i.octets rest nibble-tells
    c.loop-i.invariant.each few c.loop-i.invariant.octets e (omega arith) (omega arith) in
    let told = c.in_err-nibbles.ensures.loaded next.0 (saved_nibbles next.1 ++ rest) next.2 next.3 in
    absurd (cc told.0)

pub loop-i-preserved : goal.loop-i-preserved
loop-i-preserved c =
    let long = c.loop-i.invariant.many in
    let before = c.loop-i-test.true in
    let nibble = c.in_ok-nibbles.field-0 in
    record {
      octets = one-read saved_nibble c.loop-i.nibbles c.loop-i.i nibble _ c.loop-i.octets c.load_nibble.new.octets
          c.loop-i.invariant.octets c.in_ok-nibbles.ensures.read (omega arith);
      many = omega (arith, length-set {A = Option ℕ});
      each = one-more IsNibble c.loop-i.nibbles c.loop-i.i nibble c.loop-i.invariant.each c.in_ok-nibbles.ensures.fits
          (omega arith);
    }

pub returns-clause-loaded : goal.returns-clause-loaded
returns-clause-loaded c = λ saved rest size few e.
    let long = c.loop-i.invariant.many in
    let over = c.loop-i-test.false in
    let read = none-left IsNibble saved_nibble c.loop-i.nibbles saved c.loop-i.i _ c.loop-i.octets rest nibble-tells
    c.loop-i.invariant.each few c.loop-i.invariant.octets e (omega arith) (omega arith) in
    (refl, read.0, read.1)

pub returns-clause-read : goal.returns-clause-read
returns-clause-read c =
    let long = c.loop-i.invariant.many in
    let over = c.loop-i-test.false in
    let all = take_all c.loop-i.i c.loop-i.nibbles (omega arith) in
    rw all at c.loop-i.invariant.octets
