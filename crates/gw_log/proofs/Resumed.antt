-- A gateway goes on from what was kept, and from the log that has it.
use Rattle.std.proofs.Common.{◌≡◌, ◌≢◌, ◌∙◌, ◌<◌, ◌-◌, inl, inr, ℕ, suc, length, get_or, arith}
use Rattle.std.proofs.lemmas.List.{get_or_default}
use Rattle.gw_circuit.specs.declared.config.CircuitConfig.{CircuitConfig}
use Rattle.gw_switch.specs.Whole.{spare_config}
use Rattle.gw_switch.specs.declared.GatewayConfig.{GatewayConfig}
use Rattle.gw_switch.specs.declared.gateway.Gateway.{Gateway}
use Rattle.gw_state.specs.declared.loading.Loaded.{Loaded}
use Rattle.log_files.specs.Loading.{IsLoadedOf, NamesNewer, kept_of}
use Rattle.log_files.specs.Pairs.{Contents, IsNewest, Kept}
use Rattle.log_files.specs.declared.loading.KeptContents.{KeptContents}
use Rattle.log_files.specs.declared.loading.Loaded as found
use Rattle.log_files.specs.declared.loading.Loaded.TheVariants.{First, Second}
use Rattle.gw_log.specs.Resuming.{GoesOnWith, HaveSameCircuits, IsReplayed, IsResumed}
use Rattle.gw_log.specs.State.{WasLoaded}

-- what is loaded of two pairs is the newest
pub is_newest : (first second : Contents) (loaded : found.Loaded) (kept : KeptContents)
    → NamesNewer first second loaded → IsLoadedOf loaded kept → IsNewest first second (kept_of kept)
is_newest first second (First l) kept newer same = inl (rw same newer)
is_newest first second (Second l) kept newer same = inr (rw same newer)

-- a gateway of what was kept, loaded with the configuration that it was kept with, goes on
pub resumed_with : (kept : Kept) (config : GatewayConfig) (found : Loaded) (before gateway : Gateway)
    → WasLoaded kept.state config found → (loaded : Loaded) × IsReplayed kept found.old loaded before
    → GoesOnWith found.old config before gateway → IsResumed kept config gateway
resumed_with kept config found before gateway was (loaded, is) goes = record {
  found = found;
  was = was;
  loaded = loaded;
  before = before;
  replayed = is;
  goes_on = goes;
}

-- configurations of which one circuit differs have not the same circuits
pub others_differ : (old config : GatewayConfig) (at : ℕ) (d e : CircuitConfig) → at < 30
    → length old.circuits ≡ 30 → length config.circuits ≡ 30
    → get_or old.circuits at d ≢ get_or config.circuits at e → ¬ HaveSameCircuits old config 30
others_differ old config at d e low long long' differ same =
    let number : suc at - 1 ≡ at = omega arith in
    let here : get_or old.circuits at spare_config ≡ get_or config.circuits at spare_config =
    rw number at (same (suc at) (omega arith) (omega arith)) in
    differ (get_or_default old.circuits at d spare_config (omega arith) ∙ here
    ∙ get_or_default config.circuits at spare_config e (omega arith))
