use Rattle.gw_switch.proofs.Common.{List, Event, AreRenewals, HasTaken}
use Rattle.gw_switch.proofs.gateway.Gateway.reconfigured.Given as goal

abbrev pub invariant-loop-number : goal.invariant-loop-number
invariant-loop-number l = record {
  more : List Event;
  are : AreRenewals l.old l.new l.number more;
  taken : HasTaken l.initial.self l.self more;
}
