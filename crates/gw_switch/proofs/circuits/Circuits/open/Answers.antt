use Rattle.gw_switch.proofs.Common.{◌≡◌, ◌<◌, length, slice_index_or, sym, arith, rules, get_or_default}
use Rattle.gw_switch.proofs.Opening.{one-more-open}
use Rattle.gw_switch.proofs.circuits.Circuits.open.Goals as goal

pub loop-config-preserved : goal.loop-config-preserved
loop-config-preserved c =
    let inv = c.loop-config.invariant in
    let n = c.loop-config.config-index in
    let configs = c.args.configs.now in
    let within : n < length configs = search rules in
    let many : length c.loop-config.channels.items ≡ n = omega (arith, inv.len, c.loop-config.channels.ok.0) in
    record {
      room = search rules;
      len = search rules;
      stand = rw c.push_reserved.ensures.items
          (one-more-open c.loop-config.channels.items configs c.args.law _
          (slice_index_or configs n c.config-item.result) n many
          (λ e. sym (get_or_default configs n c.config-item.result e within)) inv.stand c.in_ok-circuit.ensures);
    }
