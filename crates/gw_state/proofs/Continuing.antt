-- What was loaded goes on from the history of what was saved.
use Rattle.std.proofs.Common.{◌≡◌, ◌++◌, ℕ, zero, suc, List, [], inl, inr, refl, ◌∙◌, append-nil}
use Rattle.gw_switch.specs.declared.GatewayConfig.{GatewayConfig}
use Rattle.gw_switch.specs.Events.{Event}
use Rattle.gw_switch.specs.Reconfigured.{AreRenewals, IsRenewal}
use Rattle.gw_switch.specs.Whole.{config_of}
use Rattle.gw_state.specs.Laws.{LoadedGatewaysGoOn}

-- no circuit is configured by its own configuration
none_renewed : (config : GatewayConfig) (c : ℕ) (events : List Event)
    → IsRenewal c (config_of config c) (config_of config c) events → events ≡ []
none_renewed config c events renewal =
    elim renewal [ inl same ↦ same.1 | inr other ↦ absurd (other.0 refl) ]

-- with the same configuration nothing happens to the circuits
none_happen : (config : GatewayConfig) (n : ℕ) (more : List Event) → AreRenewals config config n more → more ≡ []
none_happen config zero more are = are
none_happen config (suc n) more are =
    are.4 ∙ rw (none_happen config n are.0 are.2, none_renewed config (suc n) are.1 are.3) refl

-- .. nor with one that is equal
none_more : (old config : GatewayConfig) (more : List Event) → old ≡ config → AreRenewals old config 30 more
    → more ≡ []
none_more old config more same are = none_happen config 30 more (rw same at are)

-- a gateway that is loaded from the state of another one goes on from its history
pub loaded_gateways_go_on : LoadedGatewaysGoOn
loaded_gateways_go_on first old config saved events octets loaded stands fits file is =
    let told = is.goes_on first old saved events stands fits file in
    let renewals : AreRenewals old config 30 is.more = rw told.0 is.renewals in
    record {
      more = is.more;
      renewals = renewals;
      stands = told.1.stands;
      unchanged = λ same. rw (none_more old config is.more same renewals, append-nil events) at told.1.stands;
    }
