use Rattle.gw_switch.proofs.Common.{◌++◌, ◌<◌, length, rules, add-one}
use Rattle.gw_switch.proofs.Renewing.{more-taken, more-are, config-behind, some-number}
use Rattle.gw_switch.proofs.gateway.Gateway.reconfigured.Goals as goal

pub loop-number-preserved : goal.loop-number-preserved
loop-number-preserved c =
    let n = c.loop-number.number in
    let old = c.args.old.now in
    let new = c.args.new.now in
    let told = c.in_ok-renew.ensures in
    let less : n < length old.circuits = search rules in
    let less' : n < length new.circuits = search rules in
    let number = some-number c.new.result n c.unwrap-c.result c.new.ensures c.unwrap-c.ensures c.loop-number-test.true
    in
    let is = rw (
      number,
      c.from-at.ensures,
      config-behind old n c.index-old-at.result less,
      config-behind new n c.index-new-at.result less',
    ) at told.1 in
    let more = c.loop-number.invariant.more in
    rw add-one record {
      more = more ++ told.0;
      are = more-are old new n more told.0 c.loop-number.invariant.are is;
      taken = more-taken c.args.self c.loop-number.self c.renew.new.self more told.0 c.loop-number.invariant.taken
          told.2;
    }
