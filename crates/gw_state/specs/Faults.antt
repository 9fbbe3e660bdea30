-- Why octets are not a state that can be loaded.
use Rattle.std.specs.Prelude.{◌≡◌, ◌≢◌, ◌⊎◌, ◌<◌, ◌≤◌, ◌+◌, ℕ, List, [], ◌∷◌, ◌++◌, length, take, slice_get}
use Rattle.std.specs.Prelude.{flat_map, All}
use Rattle.std.specs.Prelude.{Some, ⊤}
use Rattle.gw_circuit.specs.declared.config.CircuitConfig.{CircuitConfig}
use Rattle.gw_switch.specs.declared.GatewayConfig.{GatewayConfig}
use Rattle.gw_switch.specs.declared.gateway.Gateway.{Gateway}
use Rattle.gw_switch.specs.Events.{Event}
use Rattle.gw_switch.specs.Saved.{saved_gateway}
use Rattle.gw_state.specs.declared.fault.LoadFault.{LoadFault}
use Rattle.gw_state.specs.declared.fault.LoadFault.TheVariants.{OutOfMemory, Refused}
use Rattle.gw_state.specs.declared.fault.StateKind.{StateKind}
use Rattle.gw_state.specs.declared.fault.StateKind.TheVariants as kinds
use Rattle.gw_state.specs.Layout.{mark, law_octet, saved_config, summed, saved_settings, SettingsFit}
use Rattle.gw_state.specs.Layout.{ConfigFits}
use Rattle.gw_state.specs.Loaded.{StandsAs}
use Rattle.gw_state.specs.Memory.{MemoryIsRefused}

abbrev pub kind_number : StateKind → ℕ
kind_number kinds.Short = 1
kind_number kinds.NoState = 2
kind_number kinds.Version = 3
kind_number kinds.Sum = 4
kind_number kinds.Config = 5
kind_number kinds.Value = 6
kind_number kinds.Left = 7

-- the mark, the version, the configuration and the checksum have 4, 1, 481 and 32 octets
abbrev pub least_octets : ℕ
least_octets = 518

-- octets that are long enough begin so
pub record BeginsWith (front octets : List ℕ) : Type 0 where
  pub long : least_octets ≤ length octets
  pub front_is : take (length front) octets ≡ front

-- octets that are long enough begin with another mark
pub record HasNoMark (octets : List ℕ) : Type 0 where
  pub long : least_octets ≤ length octets
  pub other : take 4 octets ≢ mark

-- the mark is there, and another version than 1
pub record IsOfVersion (octets : List ℕ) : Type 0 where
  pub begins : BeginsWith mark octets
  pub other : slice_get octets 4 ≢ Some 1

-- mark and version are right, and the last 32 octets are not the SHA-256 of those before
pub record IsDamaged (octets : List ℕ) : Type 0 where
  pub begins : BeginsWith (mark ++ 1 ∷ []) octets
  pub other : (front : List ℕ) → octets ≢ summed front

-- what octets are refused for before their configuration is looked at
abbrev pub IsOutside : List ℕ → LoadFault → Type 0
IsOutside octets (Refused kinds.Short number) = length octets < least_octets
IsOutside octets (Refused kinds.NoState number) = HasNoMark octets
IsOutside octets (Refused kinds.Version number) = IsOfVersion octets
IsOutside octets (Refused kinds.Sum number) = IsDamaged octets
IsOutside octets _ = ⊥

-- octets begin with the settings of circuits; those of the circuit of this number are those of none
pub record HasNoSettings (octets : List ℕ) (number : ℕ) : Type 0 where
  pub before : List CircuitConfig
  pub left : List ℕ
  pub whole : octets ≡ flat_map saved_settings before ++ left
  pub fit : All SettingsFit before
  pub number_is : number ≡ length before + 1
  pub none : (c : CircuitConfig) (rest : List ℕ) → SettingsFit c → left ≢ saved_settings c ++ rest

-- The octet of another law, which has the number 0; or the settings of circuit `number` are those of none.
abbrev pub IsOther : GatewayConfig → List ℕ → ℕ → Type 0
IsOther config octets number =
    ((number ≡ 0) × ((rest : List ℕ) → octets ≢ law_octet config.law ∷ rest))
    ⊎ ((left : List ℕ) × (octets ≡ law_octet config.law ∷ left) × HasNoSettings left number)

-- a fault of a value
abbrev pub IsOfValue : LoadFault → Type 0
IsOfValue (Refused kinds.Value number) = ⊤
IsOfValue _ = ⊥

-- these octets do not begin with those of a gateway whose circuits are configured so
pub record IsOfNone (old : GatewayConfig) (state : List ℕ) : Type 0 where
  pub none : (first : GatewayConfig) (saved : Gateway) (events : List Event) (rest : List ℕ)
      → StandsAs first saved events old → state ≢ saved_gateway saved ++ rest

-- behind the octets of a gateway there are more
pub record HasMore (state : List ℕ) : Type 0 where
  pub gateway : Gateway
  pub left : List ℕ
  pub some : 0 < length left
  pub whole : state ≡ saved_gateway gateway ++ left

-- octets are not those of a gateway
abbrev pub IsNoGateway : GatewayConfig → List ℕ → LoadFault → Type 0
IsNoGateway old state (Refused kinds.Value number) = IsOfNone old state
IsNoGateway old state (Refused kinds.Left number) = HasMore state
IsNoGateway old state _ = ⊥

-- octets begin with a configuration of the same law; those behind it are not those of a gateway
pub record HasNoGateway (config : GatewayConfig) (octets : List ℕ) (fault : LoadFault) : Type 0 where
  pub old : GatewayConfig
  pub state : List ℕ
  pub law : old.law ≡ config.law
  pub fits : ConfigFits old
  pub whole : octets ≡ saved_config old ++ state
  pub is : IsNoGateway old state fault

-- why octets between the version and the checksum are refused: the first reason, or that memory was refused
abbrev pub IsNotRead : GatewayConfig → List ℕ → LoadFault → Type 0
IsNotRead config octets OutOfMemory = MemoryIsRefused
IsNotRead config octets (Refused kinds.Config number) = IsOther config octets number
IsNotRead config octets fault = HasNoGateway config octets fault

-- mark, version and checksum are right, and what is between them is refused
pub record IsInside (config : GatewayConfig) (octets : List ℕ) (fault : LoadFault) : Type 0 where
  pub inner : List ℕ
  pub whole : octets ≡ summed (mark ++ 1 ∷ inner)
  pub is : IsNotRead config inner fault

-- why octets are not a state that can be loaded: the first reason, or that memory was refused
abbrev pub Refuses : GatewayConfig → List ℕ → LoadFault → Type 0
Refuses config octets OutOfMemory = MemoryIsRefused
Refuses config octets (Refused kinds.Config number) = IsInside config octets (Refused kinds.Config number)
Refuses config octets (Refused kinds.Value number) = IsInside config octets (Refused kinds.Value number)
Refuses config octets (Refused kinds.Left number) = IsInside config octets (Refused kinds.Left number)
Refuses config octets fault = IsOutside octets fault
