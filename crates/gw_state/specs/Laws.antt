-- Laws of saved states.
use Rattle.std.specs.Prelude.{◌≡◌, ℕ, List, ◌++◌}
use Rattle.gw_switch.specs.declared.GatewayConfig.{GatewayConfig}
use Rattle.gw_switch.specs.declared.gateway.Gateway.{Gateway}
use Rattle.gw_switch.specs.Events.{Event}
use Rattle.gw_switch.specs.Standing.{HasHistory}
use Rattle.gw_switch.specs.Reconfigured.{AreRenewals}
use Rattle.gw_state.specs.declared.loading.Loaded.{Loaded}
use Rattle.gw_state.specs.Layout.{state_file, ConfigFits}
use Rattle.gw_state.specs.Loaded.{IsLoaded, StandsAs}

-- What was loaded goes on from these events: it has their history, and then circuits that another
-- configuration changes are configured. With the same configuration nothing else has happened.
pub record ContinuesFrom (first old config : GatewayConfig) (events : List Event) (loaded : Loaded) : Type 0
  where
    pub more : List Event
    pub renewals : AreRenewals old config 30 more
    pub stands : HasHistory first loaded.gateway (events ++ more)
    pub unchanged : old ≡ config → HasHistory first loaded.gateway events

-- A gateway that is loaded from the state of another one goes on from its history.
abbrev pub LoadedGatewaysGoOn : Type 0
LoadedGatewaysGoOn = (first old config : GatewayConfig) (saved : Gateway) (events : List Event)
    (octets : List ℕ) (loaded : Loaded) → StandsAs first saved events old → ConfigFits old
    → octets ≡ state_file old saved → IsLoaded config octets loaded
    → ContinuesFrom first old config events loaded
