-- How many octets the head of a state has.
use Rattle.std.proofs.Common.{◌≡◌, ◌++◌, ◌∷◌, [], ◌+◌, ◌*◌, ℕ, List, length, flat_map, refl, arith}
use Rattle.std.proofs.lemmas.List.{length-append}
use Rattle.gw_circuit.specs.declared.config.CircuitConfig.{CircuitConfig}
use Rattle.gw_state.specs.Layout.{saved_settings}

-- the settings of a circuit have 16 octets
pub length-settings : (c : CircuitConfig) → length (saved_settings c) ≡ 16
unfolding saved_settings
length-settings c = refl

-- those of circuits have 16 each
pub length-all : (cs : List CircuitConfig) → length (flat_map saved_settings cs) ≡ 16 * length cs
length-all [] = refl
length-all (c ∷ cs) = omega (
  arith,
  length-append (saved_settings c) (flat_map saved_settings cs),
  length-settings c,
  length-all cs,
)

-- those of thirty have 480
pub thirty-have : (cs : List CircuitConfig) (octets : List ℕ) → length cs ≡ 30
    → length (octets ++ flat_map saved_settings cs) ≡ length octets + 480
thirty-have cs octets thirty =
    omega (arith, length-append octets (flat_map saved_settings cs), length-all cs, thirty)
