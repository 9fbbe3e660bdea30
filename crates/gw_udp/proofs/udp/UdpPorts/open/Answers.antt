use Rattle.std.proofs.Common.{◌≡◌, ◌+◌, ◌-◌, [], arith, refl, rules}
use Rattle.std.proofs.lemmas.List.{get_or_default}
use Rattle.std.proofs.lemmas.Result.{err_from_is_err_and}
use Rattle.gw_udp.proofs.Looks.{none_since}
use Rattle.gw_udp.proofs.Opening.{one_more, ports_blamed}
use Rattle.gw_udp.proofs.udp.UdpPorts.open.Goals as goal

pub returns-in_err-endpoint-clause-err : goal.returns-in_err-endpoint-clause-err
returns-in_err-endpoint-clause-err g c =
    let p = err_from_is_err_and c.from_residual.result c.from_residual.ensures.1 in
    rw (p.1, p.2) (ports_blamed c.args.ports.now c.loop-number.number _ c.loop-number.invariant.some
    (omega arith)
    (λ d. rw (
      get_or_default c.args.ports.now (c.loop-number.number - 1) d
          c.index-ports-from.result (omega (arith, c.type_inv.ports, c.loop-number.invariant.some)),
      ← c.from.ensures,
    ) c.in_err-endpoint.ensures.some)
    c.in_err-endpoint.ensures.err)

pub loop-number-preserved : goal.loop-number-preserved
loop-number-preserved g c =
    let count : c.loop-number.number + 1 - 1 ≡ c.loop-number.number - 1 + 1 =
    omega (arith, c.loop-number.invariant.some) in
    record {
      some = omega arith;
      len = search rules;
      memory = search rules;
      own = rw (count, c.push_reserved.ensures.items) (one_more c.args.host.now c.args.senders c.args.ports.now
          c.loop-number.endpoints.items _ _ (c.loop-number.number - 1)
          (omega (arith, c.loop-number.invariant.len, c.loop-number.endpoints.ok))
          (λ d. rw (← c.from.ensures) (get_or_default c.args.ports.now (c.from.result - 1) d
          c.index-ports-from.result (omega (arith, c.type_inv.ports, c.from.ensures, c.loop-number.invariant.some))))
          c.loop-number.invariant.own c.in_ok-endpoint.ensures.ok);
    }

pub invariant_of-result : goal.invariant_of-result
invariant_of-result g c = record {
  thirty = omega (arith, c.loop-number.invariant.len, c.loop-number-test.false, c.loop-number.auto.number-end);
  memory = c.loop-number.invariant.memory;
  few = λ _. ∣ rw (c.of.ensures, c.new-log.ensures, c.new.ensures) (none_since []) ∣₁;
  called = ∣ rw (c.new-log.ensures, c.of-opened.ensures) refl ∣₁;
}
