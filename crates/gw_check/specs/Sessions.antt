-- What it means that a session of a gateway is done by a configuration.
use Rattle.std.specs.Prelude.{◌≡◌, ℕ, List, None, Result, Ok, Err, MatchResult, OnOk, IfErr, Bool}
use Rattle.std.specs.Io.KnownBytes.{Appends}
use Rattle.gw_switch.specs.declared.GatewayConfig.{GatewayConfig}
use Rattle.gw_switch.specs.declared.gateway.Gateway.{Gateway}
use Rattle.gw_switch.specs.Events.{Event}
use Rattle.gw_switch.specs.Standing.{HasHistory}
use Rattle.gw_records.specs.declared.outcome.Totals.{Totals}
use Rattle.gw_records.specs.declared.outcome.RunFault.{RunFault}
use Rattle.gw_records.specs.declared.outcome.RunFault.TheVariants as faults
use Rattle.gw_records.specs.Streams.{SourceState, SinkState, FailsAfterPrefix}
use Rattle.gw_session.specs.Recovery.{RecoversLive}
use Rattle.gw_session.specs.Running.{RunsAll, RunsUntil}
use Rattle.gw_session.specs.Serve.{SessionStreams, ServesAll, ServesUntil}
use Rattle.gw_check.specs.Listing.{listing}

-- Records of a source were acted on by a gateway, and this was the end. Octets of a live session's recording,
-- wherever it was cut, recover the state of that session.
pub record Runs (source source' : SourceState) (sink sink' : SinkState) (end : Result Totals RunFault)
    (gateway gateway' : Gateway) : Type 0 where
  pub ran : MatchResult end (RunsAll gateway gateway' source source' sink sink')
      (RunsUntil gateway gateway' source source' sink sink')
  pub recovers : RecoversLive source source' sink sink' gateway gateway'

-- the end of a session and of the listing after it: a fault of the session comes first
abbrev pub checked : Result Totals RunFault → Result (Unit {0}) RunFault → Result Totals RunFault
checked (Err fault) listed = Err fault
checked (Ok totals) (Err fault) = Err fault
checked (Ok totals) (Ok u) = Ok totals

-- what stands at the gateway's circuits was written, or a prefix of it where the sink failed
pub record Lists (gateway : Gateway) (ended : Result Totals RunFault) (sink sink' : SinkState)
    (end : Result Totals RunFault) : Type 0 where
  pub text : List ℕ
  pub text_is : (config : GatewayConfig) (events : List Event) → HasHistory config gateway events
      → text ≡ listing config events
  pub listed : Result (Unit {0}) RunFault
  pub wrote : OnOk listed (Appends sink.taken sink'.taken text)
  pub broke : IfErr listed (λ e. (e ≡ faults.Write) × FailsAfterPrefix sink sink' text)
  pub end_is : end ≡ checked ended listed

-- a sink that takes all octets and reports nothing
abbrev pub nowhere : SinkState
nowhere = record { failures = 0; taken = None }

-- records were acted on, whose answers went nowhere, and what stands at the gateway then was listed
pub record Checks (source source' : SourceState) (sink sink' : SinkState) (end : Result Totals RunFault)
    (gateway gateway' : Gateway) : Type 0 where
  pub ended : Result Totals RunFault
  pub ran : Runs source source' nowhere nowhere ended gateway gateway'
  pub lists : Lists gateway' ended sink sink' end

-- Records were acted on, datagrams came and went through ports, and what the gateway received was recorded.
-- Packets were held until their record was on the tape, or not.
abbrev pub Serves : Bool → SessionStreams → SessionStreams → Result Totals RunFault → Gateway → Gateway
    → Type 0
Serves holds a a' end gateway gateway' = (a.holds ≡ holds)
    × MatchResult end (ServesAll a a' gateway gateway') (ServesUntil a a' gateway gateway')
