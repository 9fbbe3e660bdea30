use Rattle.std.proofs.Common.{◌≡◌, ◌+◌, ◌*◌, ◌-◌, ◌≤◌, List, length}
use Rattle.gw_switch.specs.declared.GatewayConfig.{GatewayConfig}
use Rattle.gw_switch.specs.Events.{Event}
use Rattle.gw_switch.specs.Standing.{HasHistory}
use Rattle.gw_check.specs.Listing.{lines}
use Rattle.gw_check.proofs.listing.listing.Given as goal

-- the lines of the circuits so far are there
abbrev pub invariant-loop-number : goal.invariant-loop-number
invariant-loop-number l = record {
  some : 1 ≤ l.number;
  most : l.number ≤ 31;
  len : length l.text.items + 75 ≡ 75 * l.number;
  lines : (config : GatewayConfig) (events : List Event) → HasHistory config l.gateway events
      → l.text.items ≡ lines config events (l.number - 1);
}
