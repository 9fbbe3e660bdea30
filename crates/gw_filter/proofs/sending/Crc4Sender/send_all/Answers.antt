use Rattle.std.proofs.Common.{◌≤◌, ◌+◌, length, take, drop, slice_set, refl, arith}
use Rattle.std.proofs.lemmas.List.{length-take-le, take_rest}
use Rattle.gw_filter.proofs.Sends.{one_sent, octets-without, some_sent, all_sent}
use Rattle.gw_filter.proofs.sending.Crc4Sender.send_all.Goals as goal

pub loop-at-preserved : goal.loop-at-preserved
loop-at-preserved c =
    let i = c.loop-at.at in
    let now = slice_set c.loop-at.octets i c.octet.result in
    let n = c.pass_rest-at.result in
    let rest = take_rest now (i + 1) in
    let fits : n ≤ length (drop (i + 1) now) = rw rest at c.pass_rest-at.ensures.bound in
    let long = length-take-le n (drop (i + 1) now) fits in
    some_sent _ c.octet.new.self _ _ now (i + 1) n
    (one_sent _ _ _ _ _ _ _ c.loop-at.invariant c.loop-at-test.true c.octet.ensures) fits
    (λ arrivals sent s. octets-without c.octet.new.self _ arrivals sent (take n (drop (i + 1) now)) s
    (λ k lt. c.pass_rest-at.ensures.in_frame _ s.multiframer k (omega (arith, lt, long))) refl
    (rw rest at (c.pass_rest-at.ensures.reply _ s.multiframer))
    (rw rest at (c.pass_rest-at.ensures.stands _ s.multiframer)))

pub returns-clause-sent : goal.returns-clause-sent
returns-clause-sent c arrivals sent s = all_sent _ _ _ _ _ c.loop-at.invariant (omega arith) arrivals sent s
