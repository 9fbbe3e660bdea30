use Rattle.std.proofs.Common.{◌≡◌, ◌≤◌, ◌<◌, ℕ, List}
use Rattle.gw_switch.specs.declared.GatewayConfig.{GatewayConfig}
use Rattle.gw_switch.specs.Events.{Event}
use Rattle.gw_switch.specs.Standing.{HasHistory}
use Rattle.gw_switch.specs.Whole.{status_after}
use Rattle.gw_tell.specs.Reports.{of_circuit}
use Rattle.gw_tell.proofs.gateway_status.GatewayStatus.rows_of.Given as goal

-- the statuses of the circuits so far are there
abbrev pub invariant-loop-number : goal.invariant-loop-number
invariant-loop-number l = record {
  some : 2 ≤ l.number;
  most : l.number ≤ 31;
  rows : (config : GatewayConfig) (events : List Event) → HasHistory config l.gateway events
      → (c : ℕ) → 1 ≤ c → c < l.number → of_circuit l.rows c ≡ status_after config events c;
}
