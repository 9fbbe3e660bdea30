use Rattle.std.proofs.Common.{◌≡◌, ◌++◌, ◌^◌, ◌<◌, length, flat_map, take, refl, arith, sym, ◌∙◌}
use Rattle.std.proofs.lemmas.List.{take_all, length-take-le}
use Rattle.saved_octets.specs.Numbers.{two_octets}
use Rattle.saved_octets.proofs.Items.{next-item, all-read, two-tell}
use Rattle.saved_octets.proofs.reading.OctetReader.read_u16_into.Goals as goal

pub returns-in_err-numbers-clause-next : goal.returns-in_err-numbers-clause-next
returns-in_err-numbers-clause-next c = λ saved rest size few e.
    let inv = c.loop-i.invariant in
    let long = c.loop-i.auto.numbers in
    let before = c.loop-i-test.true in
    let many : length (take c.loop-i.i c.loop-i.numbers)
    ≡ c.loop-i.i = length-take-le c.loop-i.i c.loop-i.numbers (omega arith) in
    let next = next-item (λ n. n < 2 ^ 16) two_octets (take c.loop-i.i c.loop-i.numbers) saved c.loop-i.self rest
    two-tell inv.below few (sym inv.octets ∙ e) (omega arith) in
    let told = c.in_err-numbers.ensures.next next.0 (flat_map two_octets next.1 ++ rest) next.2 next.3 in
    absurd (cc told.0)

pub returns-clause-next : goal.returns-clause-next
returns-clause-next c = λ saved rest size few e.
    let inv = c.loop-i.invariant in
    let long = c.loop-i.auto.numbers in
    let over = c.loop-i-test.false in
    let all = take_all c.loop-i.i c.loop-i.numbers (omega arith) in
    let inv_octets = rw all at inv.octets in
    let inv_below = rw all at inv.below in
    let read = all-read (λ n. n < 2 ^ 16) two_octets c.loop-i.numbers saved c.loop-i.self rest two-tell inv_below few
    (sym inv_octets ∙ e) (omega arith) in
    (refl, read.0, read.1)
