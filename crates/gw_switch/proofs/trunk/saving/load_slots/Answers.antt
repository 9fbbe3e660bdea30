use Rattle.gw_switch.proofs.Common.{◌++◌, ℕ, Option, arith, refl, rules, length-set, take_all, saved_slot, saved_slots}
use Rattle.gw_switch.proofs.Loading.{slot-tells, one-read, one-left, none-left}
use Rattle.gw_switch.proofs.trunk.saving.load_slots.Goals as goal

pub loop-i-init : goal.loop-i-init
loop-i-init c = record { octets = refl; many = search rules }

pub returns-in_err-slots-clause-loaded : goal.returns-in_err-slots-clause-loaded
returns-in_err-slots-clause-loaded c = λ saved rest size e.
    let long = c.loop-i.invariant.many in
    let before = c.loop-i-test.true in
    let next = one-left (λ slot. Unit {0}) saved_slot c.loop-i.slots saved c.loop-i.i _ c.loop-i.octets rest slot-tells
    (λ k d less. tt) (λ k d less. tt) c.loop-i.invariant.octets e (omega arith) (omega arith) in
    let told = c.in_err-slots.ensures.loaded next.0 (saved_slots next.1 ++ rest) next.3 in
    absurd (cc told.0)

pub loop-i-preserved : goal.loop-i-preserved
loop-i-preserved c =
    let long = c.loop-i.invariant.many in
    let before = c.loop-i-test.true in
    let slot = c.in_ok-slots.field-0 in
    record {
      octets = one-read saved_slot c.loop-i.slots c.loop-i.i slot _ c.loop-i.octets c.load_slot.new.octets
          c.loop-i.invariant.octets c.in_ok-slots.ensures.read (omega arith);
      many = omega (arith, length-set {A = Option ℕ});
    }

pub returns-clause-loaded : goal.returns-clause-loaded
returns-clause-loaded c = λ saved rest size e.
    let long = c.loop-i.invariant.many in
    let over = c.loop-i-test.false in
    let read = none-left (λ slot. Unit {0}) saved_slot c.loop-i.slots saved c.loop-i.i _ c.loop-i.octets rest slot-tells
    (λ k d less. tt) (λ k d less. tt) c.loop-i.invariant.octets e (omega arith) (omega arith) in
    (refl, read.0, read.1)

pub returns-clause-read : goal.returns-clause-read
returns-clause-read c =
    let long = c.loop-i.invariant.many in
    let over = c.loop-i-test.false in
    let all = take_all c.loop-i.i c.loop-i.slots (omega arith) in
    rw all at c.loop-i.invariant.octets
