-- A gateway as octets, and back.
use Rattle.gw_switch.proofs.Common.{◌≡◌, ◌++◌, ◌+◌, ◌-◌, ◌<◌, ◌≤◌, ℕ, List, length, arith, sym, subst, append_assoc}
use Rattle.gw_switch.proofs.Common.{slice_index_or, GatewayConfig, BoxedCircuit, Gateway, Trunk, Event, octets, view}
use Rattle.gw_switch.proofs.Common.{HasHeard, HasHistory, CircuitsStand, saved_gateway, saved_trunk, saved_circuits}
use Rattle.gw_switch.proofs.Common.{GatewayFits, IsSame, AreAlike, AreConfiguredAlike, spare_config, config_after, life}

-- the octets of a gateway begin with those of its trunk
pub gateway-octets : (g : Gateway) (all rest : List ℕ) → all ≡ saved_gateway g ++ rest
    → all ≡ saved_trunk g.trunk ++ (saved_circuits g.circuits.channels.items ++ rest)
unfolding saved_gateway
gateway-octets g all rest e = rw append_assoc at e

-- a gateway with the same trunk and the same circuits has the same history
pub same-stands : (config : GatewayConfig) (g other : Gateway) (events : List Event) → g.trunk ≡ other.trunk
    → g.circuits.channels.items ≡ other.circuits.channels.items → HasHistory config other events
    → IsSame g other × HasHistory config g events
unfolding HasHistory
same-stands config g other events trunk circuits stands = (
  record { trunk = trunk; circuits = circuits },
  record {
    trunk = subst (λ (t : Trunk). HasHeard t (octets events)) (sym trunk) stands.trunk;
    circuits = subst (λ (cs : List BoxedCircuit). CircuitsStand config cs events) (sym circuits) stands.circuits;
  },
)

-- the circuits of two gateways that are configured alike have the same laws and configurations
pub are-alike : (config other : GatewayConfig) (mine saved : Gateway) (before events : List Event)
    → HasHistory config mine before → HasHistory other saved events → AreConfiguredAlike other events config before
    → GatewayFits saved → AreAlike mine.circuits.channels.items saved.circuits.channels.items
unfolding HasHistory
are-alike config other mine saved before events ours theirs alike fits = record {
  many = cc;
  each = λ i d e less.
      let last : i + 1 ≤ 30 = omega (arith, mine.circuits.thirty, mine.circuits.channels.ok.0) in
      let there : i < length saved.circuits.channels.items =
      omega (arith, saved.circuits.thirty, saved.circuits.channels.ok.0) in
      let number : i + 1 - 1 ≡ i = omega arith in
      record {
        law = config.law;
        config = config_after (slice_index_or config.circuits i spare_config) (view (i + 1) before);
        items = life (i + 1) events;
        before = life (i + 1) before;
        theirs = rw (alike.law, rw number at (alike.each (i + 1) (omega arith) last))
            at (rw number at (theirs.circuits (i + 1) (omega arith) last e));
        ours = rw number at (ours.circuits (i + 1) (omega arith) last d);
        fits = fits.circuits i e there;
      };
}
