use Rattle.std.proofs.Common.{length, ◌≡◌, rules}
use Rattle.gw_log.proofs.Resumed.{others_differ}
use Rattle.gw_log.proofs.resuming.have_same_circuits.Goals as goal

pub returns-then-not-is_same-clause-no : goal.returns-then-not-is_same-clause-no
returns-then-not-is_same-clause-no c none =
    let long : length c.args.old.now.circuits ≡ 30 = search rules in
    let long' : length c.args.config.now.circuits ≡ 30 = search rules in
    others_differ c.args.old.now c.args.config.now c.loop-at.at _ _ c.loop-at-test.true long long'
    (c.is_same.ensures.no c.if-not-is_same.true)
