-- A trunk that is served by a gateway: what comes and what goes (module `serving`).
use Rattle.std.specs.Prelude.{◌≡◌, ◌++◌, ◌∷◌, ℕ, List, [], flat_map, Some, Result, MatchResult, true}
use Rattle.gw_switch.specs.declared.GatewayConfig.{GatewayConfig}
use Rattle.gw_switch.specs.declared.gateway.Gateway.{Gateway}
use Rattle.gw_switch.specs.Events.{CircuitEvent, Event, octets}
use Rattle.gw_switch.specs.Standing.{HasHistory}
use Rattle.gw_switch.specs.Whole.{Reply, reply_to}
use Rattle.gw_records.specs.declared.outcome.Totals.{Totals}
use Rattle.gw_records.specs.declared.outcome.RunFault.{RunFault}
use Rattle.gw_records.specs.declared.outcome.RunFault.TheVariants.{Read, Write, OutOfMemory}
use Rattle.gw_records.specs.Octets.{octet_of_command, octet_of_codec}
use Rattle.gw_records.specs.Line.{Input, Output, Terms}
use Rattle.gw_records.specs.Ports.{PortsState}
use Rattle.gw_records.specs.Records.{Record}
use Rattle.gw_records.specs.Streams.{SourceState, SinkState}
use Rattle.gw_session.specs.Answers.{written_out, answers, events}
use Rattle.gw_session.specs.Serve.{SessionStreams, ServesAll, ServesUntil, around_log, octets_for}
use Rattle.gw_session.specs.ServeLaws.{without_datagrams}
use Rattle.gw_session.specs.Tape.{TapeState, Recorded}
use Rattle.gw_session.specs.World.{IsNew}
use Rattle.gw_trunk.specs.Pieces.{Woven, from_clients}

-- nothing was read of a source, and nothing written to a sink
abbrev pub IsUnread : SourceState → Type 0
IsUnread source = (source.failures ≡ 0) × (source.reads ≡ 0) × (source.given ≡ Some [])

abbrev pub IsUntaken : SinkState → Type 0
IsUntaken sink = (sink.failures ≡ 0) × (sink.taken ≡ Some [])

-- .. of a line, which holds nothing, and at which nothing waits
pub record IsUntouched (input : Input) (output : Output) (terms : Terms) : Type 0 where
  pub unread : IsUnread input.source
  pub untaken : IsUntaken output.sink
  pub new : IsNew input output terms

-- the streams of a session at a line
abbrev pub around_line : Input → Output → PortsState → TapeState → SessionStreams
around_line input output = around_log input.source output.sink

-- events but for octets and datagrams
abbrev pub commands_in : List Event → List Event
commands_in [] = []
commands_in (Event.Octet octet ∷ es) = commands_in es
commands_in (Event.Given circuit (CircuitEvent.Datagram bytes) ∷ es) = commands_in es
commands_in (event ∷ es) = event ∷ commands_in es

-- the R record that answers a command or a codec, by the gateway's reply to it; none answers other events
abbrev pub answer_in : Event → Reply → List ℕ
answer_in (Event.Given circuit (CircuitEvent.Command asked)) reply =
    flat_map written_out (answers (Record.Command circuit (octet_of_command asked)) (reply ∷ []))
answer_in (Event.Given circuit (CircuitEvent.Codec kind payload_type)) reply =
    flat_map written_out (answers (Record.Codec circuit (octet_of_codec kind) payload_type) (reply ∷ []))
answer_in event reply = []

-- the R records that answer events, after the events before them
abbrev pub answers_for : GatewayConfig → List Event → List Event → List ℕ
answers_for config before [] = []
answers_for config before (event ∷ es) =
    answer_in event (reply_to config before event) ++ answers_for config (before ++ event ∷ []) es

-- What passed between a trunk and its clients and the gateway: the octets that came from the trunk and what
-- clients asked, the octets that went to the trunk and the answers that clients were sent.
pub record Traffic : Type 0 where
  pub came : List ℕ
  pub asked : List ℕ
  pub went : List ℕ
  pub told : List ℕ

-- the same of its four parts
abbrev pub traffic : List ℕ → List ℕ → List ℕ → List ℕ → Traffic
traffic came asked went told = record { came = came; asked = asked; went = went; told = told }

-- Octets and records of clients, woven, and nothing but datagrams between them happened to the gateway after
-- what had happened before, and it stands after them. Its octets are those in their order, its commands those
-- of the records in theirs. The octets that are sent, one for each octet, and the answers to clients are
-- these. What happened was recorded.
pub record Carries (config : GatewayConfig) (before : List Event) (gateway' : Gateway)
    (tape tape' : TapeState) (t : Traffic) : Type 0 where
  pub happened : List Event
  pub stands : HasHistory config gateway' (before ++ happened)
  pub records : List Record
  pub woven : Woven t.came t.asked records
  pub weave_is : without_datagrams happened ≡ events records
  pub heard_are : octets happened ≡ t.came
  pub asked_are : commands_in happened ≡ events (from_clients records)
  pub sent_are : t.went ≡ octets_for config before happened
  pub told_are : t.told ≡ answers_for config before happened
  pub recorded : Recorded tape tape' happened

-- What came was heard and what was asked was obeyed, but for what is behind these. The device failed when the
-- first octets had gone of those that are sent for them, and the first of the answers.
pub record CarriesUntilWrite (config : GatewayConfig) (before : List Event) (gateway' : Gateway)
    (tape tape' : TapeState) (t : Traffic) : Type 0 where
  pub heard : List ℕ
  pub unheard : List ℕ
  pub came_are : t.came ≡ heard ++ unheard
  pub obeyed : List ℕ
  pub unobeyed : List ℕ
  pub asked_are : t.asked ≡ obeyed ++ unobeyed
  pub lost : List ℕ
  pub untold : List ℕ
  pub carries : Carries config before gateway' tape tape'
      (traffic heard obeyed (t.went ++ lost) (t.told ++ untold))

-- how a trunk ended before its end: where a read failed all that came was heard and answered; for want of
-- memory nothing came, was asked or went; no record was bad
abbrev pub CarriesUntil : GatewayConfig → List Event → Gateway → TapeState → TapeState → Traffic → RunFault
    → Type 0
CarriesUntil config before gateway' tape tape' t Read = Carries config before gateway' tape tape' t
CarriesUntil config before gateway' tape tape' t Write = CarriesUntilWrite config before gateway' tape tape' t
CarriesUntil config before gateway' tape tape' t OutOfMemory = t ≡ traffic [] [] [] []
CarriesUntil config before gateway' tape tape' t _ = ⊥

-- a trunk was served up to its end, or until a fault
abbrev pub Carried : GatewayConfig → List Event → Gateway → TapeState → TapeState → Traffic
    → Result Totals RunFault → Type 0
Carried config before gateway' tape tape' t end = MatchResult end
    (λ _. Carries config before gateway' tape tape' t) (CarriesUntil config before gateway' tape tape' t)

-- A gateway served a trunk and its clients, between whom this passed, and each record was logged before its
-- packets were sent. What went is what the definitions give after all that had happened to the gateway.
pub record CarriesTrunk (a a' : SessionStreams) (t : Traffic) (gateway gateway' : Gateway)
    (end : Result Totals RunFault) : Type 0 where
  pub holds : a.holds ≡ true
  pub served : MatchResult end (ServesAll a a' gateway gateway') (ServesUntil a a' gateway gateway')
  pub carried : (config : GatewayConfig) (before : List Event) → HasHistory config gateway before
      → ∥ Carried config before gateway' a.tape a'.tape t end ∥₁
