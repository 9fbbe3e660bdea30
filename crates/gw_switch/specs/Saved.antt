-- The octets of a saved gateway. Its configuration is not among them: a gateway that is loaded has its own.
use Rattle.std.specs.Prelude.{◌≡◌, ◌<◌, ◌≤◌, ◌^◌, ℕ, List, [], ◌∷◌, ◌++◌, Option, Some, None, IfSome}
use Rattle.std.specs.Prelude.{All, flat_map, length, Bool, slice_index_or}
use Rattle.saved_octets.specs.Numbers.{two_octets, flag_octet}
use Rattle.g704_align.specs.Saved.{saved_aligner}
use Rattle.g704_cas.specs.Saved.{saved_mf_aligner}
use Rattle.e1_g711.specs.declared.Law.{Law}
use Rattle.gw_circuit.specs.declared.config.CircuitConfig.{CircuitConfig}
use Rattle.gw_circuit.specs.Items.{CircuitEvent}
use Rattle.gw_circuit.specs.Saved.{saved_circuit, CircuitFits}
use Rattle.gw_circuit.specs.Standing.{HasHistory}
use Rattle.gw_switch.specs.declared.GatewayConfig.{GatewayConfig}
use Rattle.gw_switch.specs.Events.{Event}
use Rattle.gw_switch.specs.Whole.{config_in}
use Rattle.gw_switch.specs.Standing as gateway
use Rattle.gw_switch.specs.declared.circuits.BoxedCircuit.{BoxedCircuit}
use Rattle.gw_switch.specs.declared.gateway.Gateway.{Gateway}
use Rattle.gw_switch.specs.declared.trunk.Trunk.{Trunk}
use Rattle.gw_switch.specs.declared.trunk.signalling.Signalling.{Signalling}

-- a slot of the frame buffer: 0 if nothing is fresh in it, else 1 and the octet
abbrev pub saved_slot : Option ℕ → List ℕ
saved_slot None = 0 ∷ []
saved_slot (Some octet) = 1 ∷ octet ∷ []

-- a nibble, or 16 if none is fresh
abbrev pub saved_nibble : Option ℕ → List ℕ
saved_nibble None = 16 ∷ []
saved_nibble (Some nibble) = nibble ∷ []

abbrev pub IsNibble : Option ℕ → Type 0
IsNibble nibble = IfSome nibble (λ n. n < 16)

abbrev pub saved_slots : List (Option ℕ) → List ℕ
saved_slots slots = flat_map saved_slot slots

abbrev pub saved_nibbles : List (Option ℕ) → List ℕ
saved_nibbles nibbles = flat_map saved_nibble nibbles

-- the alarms that the other end sends
abbrev pub saved_alarms : Bool → Bool → List ℕ
saved_alarms frame multiframe = flag_octet frame ∷ flag_octet multiframe ∷ []

-- the multiframe, the ABCD bits that are fresh, and the alarms of the other end
unfoldable pub saved_signalling : Signalling → List ℕ
saved_signalling s =
    saved_mf_aligner s.multiframe ++ saved_nibbles s.nibbles ++ saved_alarms s.remote_frame
    s.remote_multiframe

-- the frame alignment and how many octets were sent, the frame buffer, what is heard in the slots 0 and 16
unfoldable pub saved_trunk : Trunk → List ℕ
saved_trunk t =
    (saved_aligner t.aligner ++ two_octets t.position) ++ saved_slots t.octets ++ saved_signalling
    t.signalling

-- each array has its length, and each number its width, as in every trunk
pub record TrunkFits (t : Trunk) : Type 0 where
  pub position : t.position < 2 ^ 16
  pub slots : length t.octets ≡ 32
  pub nibbles : length t.signalling.nibbles ≡ 30
  pub each : All IsNibble t.signalling.nibbles

abbrev pub saved_channel : BoxedCircuit → List ℕ
saved_channel channel = saved_circuit channel.circuit

-- the circuits, the first one first
abbrev pub saved_circuits : List BoxedCircuit → List ℕ
saved_circuits channels = flat_map saved_channel channels

-- the trunk, then the circuits
unfoldable pub saved_gateway : Gateway → List ℕ
saved_gateway g = saved_trunk g.trunk ++ saved_circuits g.circuits.channels.items

abbrev pub ChannelFits : BoxedCircuit → Type 0
ChannelFits channel = CircuitFits channel.circuit

-- each number of the trunk and of the circuits has its width, as in every gateway
pub record GatewayFits (g : Gateway) : Type 0 where
  pub trunk : TrunkFits g.trunk
  pub circuits : All ChannelFits g.circuits.channels.items

-- both have the same trunk and the same circuits
pub record IsSame (g other : Gateway) : Type 0 where
  pub trunk : g.trunk ≡ other.trunk
  pub circuits : g.circuits.channels.items ≡ other.circuits.channels.items

-- the law of both gateways and the present configuration of each circuit are the same
pub record AreConfiguredAlike (config : GatewayConfig) (events : List Event) (other : GatewayConfig)
    (before : List Event) : Type 0 where
  pub law : config.law ≡ other.law
  pub each : (c : ℕ) → 1 ≤ c → c ≤ 30 → config_in config events c ≡ config_in other before c

-- a gateway in the state of another one has its history
abbrev pub SameStatesHaveOneHistory : Type 0
SameStatesHaveOneHistory = (config : GatewayConfig) (g other : Gateway) (events : List Event) → IsSame g other
    → gateway.HasHistory config other events → gateway.HasHistory config g events

-- A saved circuit has the law and the configuration of the one that reads it.
pub record IsAlike (mine saved : BoxedCircuit) : Type 0 where
  pub law : Law
  pub config : CircuitConfig
  pub items : List CircuitEvent
  pub before : List CircuitEvent
  pub theirs : HasHistory saved.circuit law config items
  pub ours : HasHistory mine.circuit law config before
  pub fits : ChannelFits saved

-- so does each of the saved circuits
pub record AreAlike (mine saved : List BoxedCircuit) : Type 0 where
  pub many : length saved ≡ length mine
  pub each : (i : ℕ) (d e : BoxedCircuit) → i < length mine
      → IsAlike (slice_index_or mine i d) (slice_index_or saved i e)
