-- The file of a state: a mark, the configuration that the state is of, the gateway, and a checksum over all
-- before it.
use Rattle.std.specs.Prelude.{◌≡◌, ◌<◌, ◌^◌, ℕ, List, [], ◌∷◌, ◌++◌, flat_map, length, All}
use Rattle.saved_octets.specs.Numbers.{two_octets, four_octets}
use Rattle.sha2.specs.Sha256.{sha256}
use Rattle.e1_g711.specs.declared.Law.{Law}
use Rattle.e1_g711.specs.declared.Law.TheVariants.{A, Mu}
use Rattle.q421_line.specs.declared.Role.{Role}
use Rattle.q421_line.specs.declared.Role.TheVariants.{Outgoing, Incoming}
use Rattle.gw_circuit.specs.declared.config.CircuitConfig.{CircuitConfig}
use Rattle.gw_circuit.specs.Saved.{kind_number}
use Rattle.gw_switch.specs.declared.GatewayConfig.{GatewayConfig}
use Rattle.gw_switch.specs.declared.gateway.Gateway.{Gateway}
use Rattle.gw_switch.specs.Saved.{saved_gateway}

-- the letters E1GS
abbrev pub mark : List ℕ
mark = 0x45 ∷ 0x31 ∷ 0x47 ∷ 0x53 ∷ []

abbrev pub law_octet : Law → ℕ
law_octet A = 0
law_octet Mu = 1

abbrev pub role_octet : Role → ℕ
role_octet Outgoing = 0
role_octet Incoming = 1

-- what a circuit sends at first
abbrev pub saved_start : ℕ → ℕ → ℕ → List ℕ
saved_start ssrc sequence timestamp = four_octets ssrc ++ two_octets sequence ++ four_octets timestamp

-- how a circuit is set up: 16 octets
unfoldable pub saved_settings : CircuitConfig → List ℕ
saved_settings c = role_octet c.role ∷ kind_number c.codec ∷ c.payload_type ∷ c.ptime
    ∷ two_octets c.prefill ++ saved_start c.ssrc c.sequence c.timestamp

-- how a circuit is set up, with each number in its width, as in every circuit
pub record SettingsFit (c : CircuitConfig) : Type 0 where
  pub ssrc : c.ssrc < 2 ^ 32
  pub sequence : c.sequence < 2 ^ 16
  pub timestamp : c.timestamp < 2 ^ 32

-- so are all thirty
abbrev pub ConfigFits : GatewayConfig → Type 0
ConfigFits config = (length config.circuits ≡ 30) × All SettingsFit config.circuits

-- the law, and how circuits 1 to 30 are set up
abbrev pub saved_config : GatewayConfig → List ℕ
saved_config config = law_octet config.law ∷ flat_map saved_settings config.circuits

-- the mark, version 1, the configuration
unfoldable pub state_head : GatewayConfig → List ℕ
state_head config = mark ++ 1 ∷ saved_config config

-- octets and their SHA-256 (FIPS 180-4)
abbrev pub summed : List ℕ → List ℕ
summed octets = octets ++ sha256 octets

-- the file of a gateway's state
unfoldable pub state_file : GatewayConfig → Gateway → List ℕ
state_file config gateway = summed (state_head config ++ saved_gateway gateway)
