-- What a gateway is that was loaded from its state.
use Rattle.std.specs.Prelude.{◌≡◌, ◌≤◌, ℕ, List, [], ◌++◌}
use Rattle.gw_switch.specs.declared.GatewayConfig.{GatewayConfig}
use Rattle.gw_switch.specs.declared.gateway.Gateway.{Gateway}
use Rattle.gw_switch.specs.Events.{Event, octets}
use Rattle.gw_switch.specs.Standing.{HasHistory}
use Rattle.gw_switch.specs.Saved.{saved_gateway, GatewayFits, AreConfiguredAlike}
use Rattle.gw_switch.specs.Reconfigured.{AreRenewals, HasTaken, SeesRenewal}
use Rattle.gw_state.specs.declared.loading.Loaded.{Loaded}
use Rattle.gw_state.specs.Layout.{saved_config, state_file, ConfigFits}

-- the gateway was configured so at first, and its circuits are configured as `old` after these events
pub record StandsAs (first : GatewayConfig) (saved : Gateway) (events : List Event) (old : GatewayConfig)
    : Type 0
  where
    pub stands : HasHistory first saved events
    pub configured : AreConfiguredAlike first events old []
    pub fits : GatewayFits saved

-- a gateway with these octets has the history of any one that was saved so
abbrev pub GoesOn : GatewayConfig → List ℕ → Gateway → Type 0
GoesOn old state gateway = (first : GatewayConfig) (saved : Gateway) (events : List Event)
    → StandsAs first saved events old → state ≡ saved_gateway saved → HasHistory first gateway events

-- What is between the version and the checksum is how the circuits of a gateway were configured, in one way
-- alone, and the gateway. Those that are configured otherwise now begin as new, and all others go on.
pub record ReadsAs (config : GatewayConfig) (octets : List ℕ) (loaded : Loaded) : Type 0 where
  pub law : loaded.old.law ≡ config.law
  pub fits : ConfigFits loaded.old
  pub saved : Gateway
  pub whole : octets ≡ saved_config loaded.old ++ saved_gateway saved
  pub only : (old : GatewayConfig) (rest : List ℕ) → ConfigFits old → old.law ≡ config.law
      → octets ≡ saved_config old ++ rest → (old ≡ loaded.old) × (rest ≡ saved_gateway saved)
  pub goes_on : GoesOn loaded.old (saved_gateway saved) saved
  pub more : List Event
  pub renewals : AreRenewals loaded.old config 30 more
  pub taken : HasTaken saved loaded.gateway more

-- The gateway goes on from the history of one that was saved: no octet more or less has been on the trunk, a
-- circuit with the same configuration has seen nothing more, and another one that it is configured.
pub record HasGoneOn (first config : GatewayConfig) (events more : List Event) (loaded : Loaded) : Type 0
  where
    pub stands : HasHistory first loaded.gateway (events ++ more)
    pub trunk : octets (events ++ more) ≡ octets events
    pub each : (c : ℕ) → 1 ≤ c → c ≤ 30 → SeesRenewal c loaded.old config events (events ++ more)
    pub configured : AreConfiguredAlike first (events ++ more) config []

-- The octets are the state of a gateway whose circuits were configured as `loaded.old`. The gateway that is
-- loaded has the history of the gateway that was saved so, and then that changed circuits begin as new.
pub record IsLoaded (config : GatewayConfig) (octets : List ℕ) (loaded : Loaded) : Type 0 where
  pub saved : Gateway
  pub file : octets ≡ state_file loaded.old saved
  pub more : List Event
  pub renewals : AreRenewals loaded.old config 30 more
  pub goes_on : (first old : GatewayConfig) (other : Gateway) (events : List Event)
      → StandsAs first other events old → ConfigFits old → octets ≡ state_file old other
      → (old ≡ loaded.old) × HasGoneOn first config events more loaded
