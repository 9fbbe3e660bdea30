-- A gateway whose circuits are configured one after the other.
use Rattle.gw_switch.proofs.Common.{◌≡◌, ◌≢◌, ◌⊎◌, ℕ, zero, suc, ◌+◌, ◌-◌, ◌<◌, ◌≤◌, List, [], ◌∷◌, ◌++◌, inl, inr}
use Rattle.gw_switch.proofs.Common.{rules, refl, sym, ◌∙◌, append_assoc, append-nil, arith, slice_index_or, length}
use Rattle.gw_switch.proofs.Common.{Option, Some, SomeIff, get_or_default, fold-append, CircuitConfig, CircuitEvent}
use Rattle.gw_switch.proofs.Common.{GatewayConfig, Gateway, Event, view, config_of, config_in, spare_config, IsRenewal}
use Rattle.gw_switch.proofs.Common.{AreRenewals, HasTaken, RenewalsConfigure}
use Rattle.gw_switch.proofs.Views.{view-given}

-- the configuration of a circuit after a configuration that is its own, or another's
config-push : (first : GatewayConfig) (events : List Event) (c d : ℕ) (new : CircuitConfig)
    → ((d ≡ c) × (config_in first (events ++ Event.Given d (CircuitEvent.Configure new) ∷ []) c ≡ new))
    ⊎ ((d ≢ c) × (config_in first (events ++ Event.Given d (CircuitEvent.Configure new) ∷ []) c
    ≡ config_in first events c))
config-push first events c d new = search (rules, view-given, fold-append)

-- circuits up to this one are configured by the new configuration, and those behind it as they were
record AreUpTo (first : GatewayConfig) (events : List Event) (old new : GatewayConfig) (n : ℕ) : Type 0 where
  done : (c : ℕ) → 1 ≤ c → c ≤ n → config_in first events c ≡ config_of new c
  left : (c : ℕ) → n < c → c ≤ 30 → config_in first events c ≡ config_of old c

-- before the first event a circuit is configured as the gateway is
config-none : (config : GatewayConfig) (c : ℕ) → config_in config [] c ≡ config_of config c
unfolding view
config-none config c = refl

-- one circuit more is configured by the new configuration
up-next : (first : GatewayConfig) (events last : List Event) (old new : GatewayConfig) (n : ℕ)
    → AreUpTo first events old new n → n < 30
    → IsRenewal (suc n) (config_of old (suc n)) (config_of new (suc n)) last
    → AreUpTo first (events ++ last) old new (suc n)
up-next first events last old new n up less (inl same) = grind (arith, append-nil events)
up-next first events last old new n up less (inr other) = search (rules, config-push)

-- the first circuits are configured by the new configuration after what happens to them
all-up : (first : GatewayConfig) (events more : List Event) (old new : GatewayConfig) (n : ℕ)
    → AreUpTo first events old new 0 → n ≤ 30 → AreRenewals old new n more → AreUpTo first (events ++ more) old new n
all-up first events more old new zero up less are = rw (are, append-nil events) up
all-up first events more old new (suc n) up less (before, last, are, is, joined) =
    rw (joined, ← append_assoc events before last)
    (up-next first (events ++ before) last old new n (all-up first events before old new n up (omega arith) are)
    (omega arith) is)

-- a gateway that is reconfigured has the configuration of the new gateway
pub renewed : RenewalsConfigure
renewed first old new events more law alike are = record {
  law = alike.law ∙ law;
  each = λ c low high.
      (all-up first events more old new 30 (record {
        done = λ d some none. absurd (omega arith);
        left = λ d some high. alike.each d (omega arith) high ∙ config-none old d;
      }) (omega arith) are).done c low high ∙ sym (config-none new c);
}

-- a gateway that has taken events, and then others, has taken both
pub more-taken : (first now next : Gateway) (more last : List Event) → HasTaken first now more → HasTaken now next last
    → HasTaken first next (more ++ last)
more-taken first now next more last taken goes config events stands =
    rw append_assoc at (goes config (events ++ more) (taken config events stands))

-- with what happens to the next circuit that is what happens to one more
pub more-are : (old new : GatewayConfig) (n : ℕ) (more last : List Event) → AreRenewals old new n more
    → IsRenewal (suc n) (config_of old (suc n)) (config_of new (suc n)) last
    → AreRenewals old new (suc n) (more ++ last)
more-are old new n more last are is = (more, last, are, is, refl)

-- the configuration of the circuit behind the first n
pub config-behind : (config : GatewayConfig) (n : ℕ) (k : CircuitConfig) → n < length config.circuits
    → slice_index_or config.circuits n k ≡ config_of config (suc n)
config-behind config n k less = grind (arith, get_or_default config.circuits n k spare_config less)

-- the number of the circuit behind the first n
pub some-number : (found : Option ℕ) (n number : ℕ) → SomeIff found ((1 ≤ n + 1) × (n + 1 ≤ 30)) (n + 1)
    → found ≡ Some number → n < 30 → number ≡ suc n
some-number found n number is e less = search rules
