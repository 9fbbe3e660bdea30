-- Sessions that go on from a saved state.
use Rattle.std.proofs.Common.{◌++◌, List, refl}
use Rattle.gw_switch.specs.declared.GatewayConfig.{GatewayConfig}
use Rattle.gw_switch.specs.declared.gateway.Gateway.{Gateway}
use Rattle.gw_switch.specs.Events.{Event}
use Rattle.gw_switch.specs.Standing.{HasHistory}
use Rattle.gw_session.specs.Answers.{events}
use Rattle.gw_session.specs.Laws.{CutByHistory}
use Rattle.gw_session.specs.Serve.{events_through}
use Rattle.gw_session.specs.ServeLaws.{ServingIsCutAnywhere}
use Rattle.gw_state.specs.declared.loading.Loaded.{Loaded}
use Rattle.gw_state.specs.Laws.{ContinuesFrom, LoadedGatewaysGoOn}
use Rattle.gw_check.specs.Continuing.{IsSavedAndLoaded, LoadedServingsGoOn, LoadedSessionsRunOn}
use Rattle.gw_check.specs.Continuing.{SavedStatesRecover}

-- what was saved and loaded goes on from the history of what was saved
continues : LoadedGatewaysGoOn → (first old config : GatewayConfig) (saved : Gateway) (es : List Event)
    (loaded : Loaded) → HasHistory first saved es → IsSavedAndLoaded first old config saved es loaded
    → ContinuesFrom first old config es loaded
continues law first old config saved es loaded stands s = law first old config saved es s.octets loaded (record {
  stands = stands;
  configured = s.configured;
  fits = s.gateway_fits;
}) s.config_fits s.file s.loads

-- a run that begins with the state that another run has saved goes on where that one ended
pub run_on : LoadedGatewaysGoOn → CutByHistory → LoadedSessionsRunOn
run_on law cut first old config before one next loaded stands ran ran' begins s =
    let es = before ++ events one.records in
    let c = continues law first old config one.gateway' es loaded (ran first before stands).stands s in
    record {
      more = c.more;
      renewals = c.renewals;
      answers = ran' first (es ++ c.more) (rw begins c.stands);
      as_one = λ same whole ran_whole stands' all.
          cut first before one next whole ran ran' ran_whole (rw begins (c.unchanged same)) all stands stands';
    }

-- serving goes on likewise
pub serve_on : LoadedGatewaysGoOn → ServingIsCutAnywhere → LoadedServingsGoOn
serve_on law cut first config before a a' b b' gateway gateway' next_gateway next_gateway' totals others_totals
    records others loaded one next stands begins saved =
    let es = before ++ events_through one.inputs in
    let there = (one.follows.goes.hears first before stands).stands in
    let c = continues law first config config gateway' es loaded there saved in
    record {
      took = next.took first es (rw begins (c.unchanged refl));
      behind = (cut first before one.inputs next.inputs).0;
    }

-- a replay that begins with a state that was saved recovers the state of the live session
pub saved_recover : LoadedGatewaysGoOn → SavedStatesRecover
saved_recover law first config before a a' gateway live saved recovered end ended passed octets behind holds loaded
    source source' sink sink' served has stood there s replayed only =
    let c = continues law first config config saved (before ++ events passed) loaded there s in
    replayed.recovers a a' gateway live end passed octets behind first before served.1 has only stood (c.unchanged refl)
