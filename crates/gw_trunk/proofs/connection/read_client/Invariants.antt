use Rattle.gw_trunk.proofs.connection.read_client.Given as goal
use Rattle.std.proofs.Common.{◌≡◌}

abbrev pub invariant-loop-turn : goal.invariant-loop-turn
invariant-loop-turn l = l.came ≡ l.fn.came
