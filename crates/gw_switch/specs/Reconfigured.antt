-- A gateway with another configuration: the circuits that it changes begin as new, and all others go on.
use Rattle.std.specs.Prelude.{◌≡◌, ◌≢◌, ◌⊎◌, ◌≤◌, ℕ, zero, suc, List, [], ◌∷◌, ◌++◌}
use Rattle.gw_circuit.specs.declared.config.CircuitConfig.{CircuitConfig}
use Rattle.gw_circuit.specs.Items.{CircuitEvent}
use Rattle.gw_switch.specs.declared.GatewayConfig.{GatewayConfig}
use Rattle.gw_switch.specs.declared.gateway.Gateway.{Gateway}
use Rattle.gw_switch.specs.Events.{Event, octets, view}
use Rattle.gw_switch.specs.Whole.{config_of}
use Rattle.gw_switch.specs.Standing.{HasHistory}
use Rattle.gw_switch.specs.Saved.{AreConfiguredAlike}

-- what happens to circuit c: nothing if its configuration is the same, else it is configured by the new one
abbrev pub IsRenewal : ℕ → CircuitConfig → CircuitConfig → List Event → Type 0
IsRenewal c old new events =
    ((old ≡ new) × (events ≡ [])) ⊎ ((old ≢ new) × (events ≡ Event.Given c (CircuitEvent.Configure new) ∷ []))

-- what happens to this many circuits from the first, one after the other
abbrev pub AreRenewals : GatewayConfig → GatewayConfig → ℕ → List Event → Type 0
AreRenewals old new zero events = events ≡ []
AreRenewals old new (suc n) events = (before : List Event) × (last : List Event)
    × AreRenewals old new n before
    × IsRenewal (suc n) (config_of old (suc n)) (config_of new (suc n)) last × (events ≡ before ++ last)

-- these events more have happened to the gateway
abbrev pub HasTaken : Gateway → Gateway → List Event → Type 0
HasTaken old new more = (config : GatewayConfig) (events : List Event) → HasHistory config old events
    → HasHistory config new (events ++ more)

-- the gateway has taken what happens to its circuits if they are configured by the new configuration
pub record IsReconfigured (old new : GatewayConfig) (g g' : Gateway) : Type 0 where
  pub more : List Event
  pub are : AreRenewals old new 30 more
  pub taken : HasTaken g g' more

-- then its circuits are configured as the new configuration says
abbrev pub RenewalsConfigure : Type 0
RenewalsConfigure = (first old new : GatewayConfig) (events more : List Event) → old.law ≡ new.law
    → AreConfiguredAlike first events old [] → AreRenewals old new 30 more
    → AreConfiguredAlike first (events ++ more) new []

-- What circuit c sees of it: nothing if its configuration is the same, and then it sees the same of what
-- comes later, too; else that it is configured.
pub record SeesRenewal (c : ℕ) (old new : GatewayConfig) (before after : List Event) : Type 0 where
  pub same : config_of old c ≡ config_of new c
      → (later : List Event) → view c (after ++ later) ≡ view c (before ++ later)
  pub other : config_of old c ≢ config_of new c
      → view c after ≡ view c before ++ CircuitEvent.Configure (config_of new c) ∷ []

-- no octet of the trunk comes or goes by it, and each circuit sees its own renewal alone
abbrev pub RenewalsAreApart : Type 0
RenewalsAreApart = (old new : GatewayConfig) (events more : List Event) → AreRenewals old new 30 more
    → (octets (events ++ more) ≡ octets events)
    × ((c : ℕ) → 1 ≤ c → c ≤ 30 → SeesRenewal c old new events (events ++ more))
