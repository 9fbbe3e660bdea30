use Rattle.std.proofs.Common.{◌≡◌, ◌++◌, ℕ, List, length, take, drop, flat_map, All}
use Rattle.gw_circuit.specs.declared.config.CircuitConfig.{CircuitConfig}
use Rattle.gw_state.specs.Layout.{saved_settings, SettingsFit}
use Rattle.gw_state.proofs.settings.read_circuits.Given as goal

abbrev pub invariant-loop-number : goal.invariant-loop-number
invariant-loop-number l = record {
  many : length l.circuits ≡ 30;
  read : l.initial.octets ≡ flat_map saved_settings (take l.number l.circuits) ++ l.octets;
  fit : All SettingsFit (take l.number l.circuits);
  next : (saved : List CircuitConfig) (rest : List ℕ) → length saved ≡ 30 → All SettingsFit saved
      → l.initial.octets ≡ flat_map saved_settings saved ++ rest
      → (take l.number l.circuits ≡ take l.number saved)
      × (l.octets ≡ flat_map saved_settings (drop l.number saved) ++ rest);
}
