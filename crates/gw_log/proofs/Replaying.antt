-- What was kept of a gateway is resumed with its history and the events of the records behind it.
use Rattle.std.proofs.Common.{◌≡◌, ◌∙◌, ◌++◌, [], ℕ, List, refl, sym, ap, subst, drop}
use Rattle.std.proofs.Common.{inl, inr, flat_map}
use Rattle.std.specs.List.{AllByRecursion}
use Rattle.gw_switch.specs.Events.{Event}
use Rattle.gw_switch.specs.Saved.{AreConfiguredAlike, GatewayFits}
use Rattle.gw_switch.specs.Standing.{HasHistory}
use Rattle.gw_switch.specs.declared.GatewayConfig.{GatewayConfig}
use Rattle.gw_switch.specs.declared.gateway.Gateway.{Gateway}
use Rattle.gw_state.specs.Laws.{LoadedGatewaysGoOn}
use Rattle.gw_state.specs.Layout.{ConfigFits, state_file}
use Rattle.gw_state.specs.Loaded.{StandsAs}
use Rattle.gw_records.specs.declared.records.RecordsEnd.TheVariants as endings
use Rattle.gw_records.specs.Laws.{AtMostOneReading}
use Rattle.gw_records.specs.Records.{IsGood, Reads, Record, spelled}
use Rattle.gw_session.specs.Answers.{events}
use Rattle.gw_session.specs.Running.{all_kinds}
use Rattle.gw_session.proofs.ReadBack.{reads_all}
use Rattle.log_files.specs.Pairs.{Kept}
use Rattle.gw_log.proofs.CheckpointOctets.{checkpoint_begins, checkpoint_behind, checkpoint_long}
use Rattle.gw_log.specs.Logs.{kept_as}
use Rattle.gw_log.specs.Resuming.{GoesOnWith, IsResumed}
use Rattle.gw_log.specs.State.{IsCheckpoint, IsStateIn}

-- the state in octets that are a checkpoint is the one behind its head
state_in : (content state octets inside : List ℕ) → IsCheckpoint content → drop 12 content ≡ state
    → octets ≡ content → IsStateIn octets inside → inside ≡ state
state_in content state octets inside is behind same (inl there) = there.1 ∙ ap (drop 12) same ∙ behind
state_in content state octets inside is behind same (inr none) =
    absurd (none.0 (subst IsCheckpoint (sym same) is))

-- with the same configuration a gateway goes on as it is
goes_on_same : {old config : GatewayConfig} {before gateway : Gateway} → config ≡ old
    → GoesOnWith old config before gateway → gateway ≡ before
goes_on_same same (inl goes) = goes.1
goes_on_same same (inr other) = absurd (other.0 (λ c low high. rw same refl))

-- what was kept of a gateway is resumed with its history and the events of the records behind it
pub resumes : LoadedGatewaysGoOn → AtMostOneReading → (config : GatewayConfig) → ConfigFits config
    → (turn place : ℕ) (saved next : Gateway) (before : List Event) (records : List Record)
    → HasHistory config saved before → AreConfiguredAlike config before config [] → GatewayFits saved
    → AllByRecursion (IsGood all_kinds) records → (kept : Kept)
    → kept_as turn config place saved (flat_map spelled records) ≡ kept → IsResumed kept config next
    → HasHistory config next (before ++ events records)
resumes go_on one_reading config fits turn place saved next before records stands alike saved_fits good kept same r =
    let there : StandsAs config saved before config =
    record { stands = stands; configured = alike; fits = saved_fits } in
    let state = state_file config saved in
    let content = (kept_as turn config place saved []).state in
    let is : IsCheckpoint content =
    record { long = checkpoint_long place state; begins = checkpoint_begins place state } in
    let behind = checkpoint_behind place state in
    let kept-is : kept.state ≡ content = ap (λ (k : Kept). k.state) (sym same) in
    let found-is = state_in content state kept.state r.was.state is behind kept-is r.was.inside in
    let old : config ≡ r.found.old = (r.was.is.goes_on config config saved before there fits found-is).0 in
    let was = r.replayed.was in
    let again-is = state_in content state kept.state was.state is behind kept-is was.inside in
    let loaded = (go_on config config r.found.old saved before was.state r.loaded there fits again-is was.is).unchanged
    old in
    let given = r.replayed.given in
    let reads : Reads all_kinds kept.records records endings.End =
    subst (λ (octets : List ℕ). Reads all_kinds octets records endings.End) (ap (λ (k : Kept). k.records) same)
    (reads_all records good) in
    let records-are : given.records ≡ records =
    (one_reading all_kinds kept.records given.records records _ _ given.reads reads).0 in
    rw (goes_on_same old r.goes_on, ← records-are) (given.stands config before loaded)
