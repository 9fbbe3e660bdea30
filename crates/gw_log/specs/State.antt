-- The state of a gateway in the octets of a file (module `state`).
use Rattle.std.specs.Prelude.{◌≡◌, ◌⊎◌, ◌≤◌, ℕ, List, [], ◌∷◌, take, drop, length}
use Rattle.gw_switch.specs.declared.GatewayConfig.{GatewayConfig}
use Rattle.gw_state.specs.declared.loading.Loaded.{Loaded}
use Rattle.gw_state.specs.Loaded.{IsLoaded}

-- the letters E1GC
abbrev pub checkpoint_mark : List ℕ
checkpoint_mark = 0x45 ∷ 0x31 ∷ 0x47 ∷ 0x43 ∷ []

-- octets begin with the mark and the place of a checkpoint
pub record IsCheckpoint (octets : List ℕ) : Type 0 where
  pub long : 12 ≤ length octets
  pub begins : take 4 octets ≡ checkpoint_mark

-- the state in the octets of a file: behind the place of a checkpoint, or all
abbrev pub IsStateIn : List ℕ → List ℕ → Type 0
IsStateIn octets state = (IsCheckpoint octets × (state ≡ drop 12 octets))
    ⊎ ((¬ IsCheckpoint octets) × (state ≡ octets))

-- a gateway was loaded from octets
pub record WasLoaded (octets : List ℕ) (config : GatewayConfig) (loaded : Loaded) : Type 0 where
  pub state : List ℕ
  pub inside : IsStateIn octets state
  pub is : IsLoaded config state loaded
