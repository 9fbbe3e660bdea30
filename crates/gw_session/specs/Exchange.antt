-- What the parts of a session do, for the private functions of modules `exchange`, `handling` and
-- `processing`.
use Rattle.std.specs.Prelude.{◌≡◌, ◌⊎◌, ◌<◌, ◌≤◌, ◌++◌, ℕ, List, [], ◌∷◌, length, map, drop, Option, Bool}
use Rattle.std.specs.Prelude.{Some, None, Result, MatchOption, MatchResult, flat_map, if◌then◌else◌, take, true, false}
use Rattle.gw_session.specs.Prelude.{GatewayConfig, Gateway, Event, octets, HasHistory, next_circuit, Totals}
use Rattle.gw_session.specs.Prelude.{RunFault, Record, SinkState, AppendsPrefix, AppendsBut, Waiting}
use Rattle.gw_session.specs.Prelude.{PortsState, IfKnown, Extends, counted}
use Rattle.gw_switch.specs.Whole.{reply_to, octet_reply}
use Rattle.gw_records.specs.declared.outcome.RunFault.TheVariants.{Write}
use Rattle.gw_records.specs.Streams.{TakesAllButWaiting, FailsAfterPrefix}
use Rattle.gw_session.specs.Answers.{code_of, packet_in}
use Rattle.gw_session.specs.PacketPorts.{PacketOutput}
use Rattle.gw_records.specs.Ports.{TakesOut, KeepsSends, KeepsReceives}
use Rattle.gw_session.specs.Serve.{SessionInput, Turn, input_record, octet_of, turns_of, events_in}
use Rattle.gw_session.specs.Serve.{events_of_turns, answer_to, TurnsTrace, SessionTrace, PortTrace, Stop}
use Rattle.gw_session.specs.Serve.{StopsSo, as_call, receives_of, HaveCalls, AreCalls, AreSends, are_held}
use Rattle.gw_session.specs.Serve.{of_circuit, coming, first_four, behind_four, LeavesOut}
use Rattle.gw_session.specs.Serve.{packets_for, octets_for, dropped_for, through, OfFirstInputs}
use Rattle.gw_session.specs.Tape.{TapeState, Recorded, Taping, RecordedBut, Gone, gone_to, answers_at}
use Rattle.gw_session.specs.Watch.{Shows, Look, shown_in, IsCalled, looks_at}
use Rattle.gw_records.specs.Line.{Output}
use Rattle.gw_records.specs.declared.records.FirstRecord.{FirstRecord}
use Rattle.gw_session.specs.World.{SessionState, World}
use Rattle.gw_session.specs.declared.held.HeldPacket.{HeldPacket}

-- the gateway took an event, and the number of its reply is this
abbrev pub TakesEvent : Gateway → Gateway → Event → ℕ → Type 0
TakesEvent gateway gateway' event code = (config : GatewayConfig) (before : List Event)
    → HasHistory config gateway before
    → HasHistory config gateway' (before ++ event ∷ []) × (code ≡ code_of (reply_to config before event))

-- what the packets of events put in front of the answer
unfoldable pub spelled_for : PacketOutput → GatewayConfig → List Event → List Event → List ℕ
spelled_for spells config before es = flat_map spells (packets_for config before es)

-- all that is put for an input
unfoldable pub written_for : PacketOutput → GatewayConfig → List Event → SessionInput → List ℕ
written_for spells config before input =
    spelled_for spells config before (events_in input) ++ answer_to config before input

-- .. for inputs, one after another
abbrev pub written_by : PacketOutput → GatewayConfig → List Event → List SessionInput → List ℕ
written_by spells = through (written_for spells)

-- records and their octets are counted as before
abbrev pub KeepsRecords : Totals → Totals → Type 0
KeepsRecords totals totals' = (totals'.records ≡ totals.records) × (totals'.octets ≡ totals.octets)

-- the gateway was given datagrams, and those that it refused are counted
abbrev pub IsGiven : Gateway → Gateway → Totals → Totals → List (ℕ × List ℕ) → Type 0
IsGiven gateway gateway' totals totals' arrived =
    (config : GatewayConfig) (before : List Event) → HasHistory config gateway before
    → (HasHistory config gateway' (before ++ coming arrived))
    × (totals'.dropped ≡ counted totals.dropped (dropped_for config before (coming arrived)))

-- the first four of what waits came, where it is known
abbrev pub FourCome : Option Waiting → Option Waiting → Option ℕ → List (List ℕ) → Type 0
FourCome old new circuit came = IfKnown old new
    (λ v w. (came ≡ first_four v circuit) × ((c : ℕ) → w c ≡ behind_four v circuit c))

-- Of octets that were heard the first ones are recorded or in the batch, as many as this says; datagrams
-- came, and so is all but for the octets that are still behind those.
pub record RecordsBehind (t t' : Taping) (heard : List ℕ) (recorded recorded' : ℕ)
    (happened : List Event) : Type 0 where
  pub within : recorded' ≤ length heard
  pub but : RecordedBut t t' (map Event.Octet (drop recorded heard) ++ happened) (drop recorded' heard)

-- a watch was shown the datagrams among events, and nothing else, when this many octets were heard before
-- them
pub record AreShown {W : Type 0} (shows : Shows W) (gateway : Gateway) (w w' : W) (heard : ℕ)
    (es : List Event)
    : Type 0 where
  pub looks : List Look
  pub calls : IsCalled shows w w' looks
  pub no_record : flat_map shown_in looks ≡ []
  pub looks_are : (config : GatewayConfig) (before : List Event) → HasHistory config gateway before
      → looks ≡ looks_at config before heard es

-- datagrams of the circuit whose slot the next octet sends came from the ports, were recorded or put into the
-- batch behind octets that were heard, were given to the gateway, and were shown so
pub record ComesInTurn (Shown : List Event → Type 0) (s s' : SessionState) (t t' : Taping) (heard : List ℕ)
    (recorded recorded' : ℕ) : Type 0 where
  pub circuit : Option ℕ
  pub came : List (List ℕ)
  pub few : length came ≤ 4
  pub stop : Stop
  pub stops : StopsSo circuit came stop
  pub calls : Extends s.ports.calls s'.ports.calls (receives_of circuit came stop)
  pub gave : Extends s.ports.given s'.ports.given (of_circuit circuit came)
  pub failed : ℕ
  pub receives : s'.ports.receive_failures ≡ counted s.ports.receive_failures failed
  pub firsts : failed ≡ 0 → FourCome s.ports.waiting s'.ports.waiting circuit came
  pub no_sends : KeepsSends s.ports s'.ports
  pub faults : s'.totals.port_faults ≡ counted s.totals.port_faults failed
  pub datagrams : s'.totals.datagrams ≡ s.totals.datagrams
  pub kept : KeepsRecords s.totals s'.totals
  pub given : IsGiven s.gateway s'.gateway s.totals s'.totals (of_circuit circuit came)
  pub records : RecordsBehind t t' heard recorded recorded' (coming (of_circuit circuit came))
  pub shown : Shown (coming (of_circuit circuit came))
  pub in_turn : (config : GatewayConfig) (before : List Event) → HasHistory config s.gateway before
      → circuit ≡ next_circuit (length (octets before))
  pub held : s'.held ≡ s.held

-- packets are silent: none puts anything in front of the answer
abbrev pub IsSilent : PacketOutput → Type 0
IsSilent spells = (p : ℕ × List ℕ) → spells p ≡ []

-- packets that are held, with their circuits
abbrev pub packets_held : List HeldPacket → List (ℕ × List ℕ)
packets_held packets = map (λ p. (p.circuit, p.octets.items)) packets

-- packets went to the ports, one after another
pub record GoToPorts (ports ports' : PortsState) (totals totals' : Totals) (packets : List (ℕ × List ℕ))
    : Type 0 where
  pub took : List (ℕ × List ℕ)
  pub takes : Extends ports.taken ports'.taken took
  pub failed : ℕ
  pub sends : ports'.send_failures ≡ counted ports.send_failures failed
  pub packets_are : LeavesOut failed took packets
  pub calls : HaveCalls ports ports' (AreSends packets)
  pub no_receives : KeepsReceives ports ports'
  pub faults : totals'.port_faults ≡ counted totals.port_faults failed
  pub datagrams : totals'.datagrams ≡ counted totals.datagrams (length took)
  pub dropped : totals'.dropped ≡ totals.dropped
  pub kept : KeepsRecords totals totals'

-- the gateway heard an octet and sends this one, the packet that it sends with it went to the packet ports,
-- or is held behind the others, and what that puts passes
pub record OctetTrace (holding : Bool) (spells : PacketOutput) (s s' : SessionState) (o o' : Output)
    (octet sent : ℕ) : Type 0 where
  pub packet : Option (ℕ × List ℕ)
  pub sends : GoToPorts s.ports s'.ports s.totals s'.totals (if holding then [] else packet_in packet)
  pub held : s'.held ≡ s.held ++ (if holding then packet_in packet else [])
  pub hears : (config : GatewayConfig) (before : List Event) → HasHistory config s.gateway before
      → HasHistory config s'.gateway (before ++ Event.Octet octet ∷ [])
      × (octet_reply config before octet ≡ record { octet = sent; packet = packet })
  pub passes : TakesAllButWaiting o.sink.taken o'.sink.taken o'.waiting
      (o.waiting ++ flat_map spells (packet_in packet))
  pub no_failure : o'.sink.failures ≡ o.sink.failures

-- the gateway heard an octet, and a write of what its packet puts failed
pub record PacketWriteError (spells : PacketOutput) (s s' : SessionState) (o o' : Output)
    (octet : ℕ) : Type 0 where
  pub packet : ℕ × List ℕ
  pub some : 0 < length (spells packet)
  pub kept : s'.ports ≡ s.ports
  pub hears : (config : GatewayConfig) (before : List Event) → HasHistory config s.gateway before
      → HasHistory config s'.gateway (before ++ Event.Octet octet ∷ [])
      × ((octet_reply config before octet).packet ≡ Some packet)
  pub breaks : FailsAfterPrefix o.sink o'.sink (o.waiting ++ spells packet)

-- The gateway heard an octet, and the one that it sends is behind the others of the answer. The packet that it
-- sends with it is held behind the others, if packets are held; if not, it is in the room, and its circuit is
-- named.
pub record HearsOctet (holding : Bool) (gateway gateway' : Gateway) (held held' : List (ℕ × List ℕ))
    (answer answer' : List ℕ) (octet : ℕ) (room : List ℕ) (named : Option ℕ) : Type 0 where
  pub sent : ℕ
  pub behind : answer' ≡ answer ++ sent ∷ []
  pub packet : Option (ℕ × List ℕ)
  pub hears : (config : GatewayConfig) (before : List Event) → HasHistory config gateway before
      → HasHistory config gateway' (before ++ Event.Octet octet ∷ [])
      × (octet_reply config before octet ≡ record { octet = sent; packet = packet })
  pub held_are : held' ≡ held ++ (if holding then packet_in packet else [])
  pub now : MatchOption named (holding ≡ false → packet ≡ None)
      (λ circuit. (holding ≡ false) × (packet ≡ Some (circuit, room)))

-- the octets of the first record, if it is the trunk's
abbrev pub body_of : FirstRecord → List ℕ → List ℕ
body_of first octets = drop 4 (take first.len octets)

-- The gateway heard octets, each after the datagrams that came before it, these were sent, and what the
-- packets put passes.
pub record Exchanges (spells : PacketOutput) (s s' : SessionState) (o o' : Output)
    (octets sent : List ℕ) : Type 0 where
  pub turns : List Turn
  pub heard : map octet_of turns ≡ octets
  pub lengths : length sent ≡ length octets
  pub goes : TurnsTrace s s' turns (events_of_turns turns)
  pub kept : KeepsRecords s.totals s'.totals
  pub sent_are : (config : GatewayConfig) (before : List Event) → HasHistory config s.gateway before
      → octets_for config before (events_of_turns turns) ≡ sent
  pub passes : (config : GatewayConfig) (before : List Event) → HasHistory config s.gateway before
      → TakesAllButWaiting o.sink.taken o'.sink.taken o'.waiting
      (o.waiting ++ spelled_for spells config before (events_of_turns turns))
  pub no_failure : o'.sink.failures ≡ o.sink.failures

-- A write of what a packet puts failed when the gateway had heard the first octets, and a prefix of what
-- waited and of what their packets put was taken.
pub record StopsAt (spells : PacketOutput) (s s' : SessionState) (o : Output) (sink' : SinkState)
    (octets : List ℕ)
    : Type 0 where
  pub turns : List Turn
  pub rest : List ℕ
  pub split : octets ≡ map octet_of turns ++ rest
  pub trades : PortTrace s.ports s'.ports turns
  pub stands : (config : GatewayConfig) (before : List Event) → HasHistory config s.gateway before
      → HasHistory config s'.gateway (before ++ events_of_turns turns)
  pub took : (config : GatewayConfig) (before : List Event) → HasHistory config s.gateway before
      → AppendsPrefix o.sink.taken sink'.taken
      (o.waiting ++ spelled_for spells config before (events_of_turns turns))
  pub failed : o.sink.failures < sink'.failures
  pub packet : ℕ × List ℕ
  pub some : 0 < length (spells packet)

-- A tape was told that a record of these turns is answered, when it had all of it. If its packets are held,
-- nothing had gone out since the record began.
pub record IsToldFirst (holds : Bool) (before : Gone) (tape tape' : TapeState) (ts : List Turn) : Type 0 where
  pub gone : Gone
  pub told : Extends tape.acts tape'.acts (answers_at tape' gone ∷ [])
  pub nothing : are_held holds ts ≡ true → gone ≡ before

-- octets, and those to send are the answer; they and the datagrams that came were recorded, before
-- the packets that were held were sent; and the datagrams were shown
abbrev pub ExchangingAll : PacketOutput → (List Event → Type 0) → World → World → List ℕ → List ℕ
    → Result (Unit {0}) RunFault → Type 0
ExchangingAll spells Shown w w' octets answer result = MatchResult result
    (λ _. (x : Exchanges spells w.state w'.state w.output w'.output octets answer)
    × Recorded w.tape w'.tape (events_of_turns x.turns)
    × HaveCalls w.state.ports w'.state.ports (AreCalls (are_held w.state.holds x.turns) x.turns)
    × IsToldFirst w.state.holds (gone_to w.state.ports w.output.sink) w.tape w'.tape x.turns
    × Shown (events_of_turns x.turns))
    (λ e. (e ≡ Write) × (x : StopsAt spells w.state w'.state w.output w'.output.sink octets)
    × Shown (events_of_turns x.turns))

-- datagrams came so far, with no failed receive
pub record Receiving (s s' : SessionState) (circuit : ℕ) (came : List (List ℕ)) : Type 0 where
  pub gave : Extends s.ports.given s'.ports.given (of_circuit (Some circuit) came)
  pub calls : Extends s.ports.calls s'.ports.calls (map as_call (of_circuit (Some circuit) came))
  pub waits : TakesOut s.ports.waiting s'.ports.waiting circuit came
  pub receives : s'.ports.receive_failures ≡ s.ports.receive_failures
  pub no_sends : KeepsSends s.ports s'.ports
  pub others : s'.totals ≡ record s.totals { dropped = s'.totals.dropped }
  pub given : IsGiven s.gateway s'.gateway s.totals s'.totals (of_circuit (Some circuit) came)
  pub held : s'.held ≡ s.held

-- a record was acted on: the gateway and the ports went through its input, which was recorded, and the totals
-- count it
pub record ActsOn (before : Gone) (s s' : SessionState) (tape tape' : TapeState) (r : Record) : Type 0 where
  pub input : SessionInput
  pub told_is : input_record input ≡ r
  pub goes : TurnsTrace s s' (turns_of input) (events_in input)
  pub records : s'.totals.records ≡ counted s.totals.records 1
  pub octets : s'.totals.octets ≡ counted s.totals.octets (length (turns_of input))
  pub recorded : Recorded tape tape' (events_in input)
  pub told : IsToldFirst s.holds before tape tape' (turns_of input)
  pub calls : HaveCalls s.ports s'.ports (AreCalls (are_held s.holds (turns_of input)) (turns_of input))
  pub same : s'.holds ≡ s.holds
  pub still : s'.held ≡ s.held

-- .. its datagrams were shown, and this is known of what waited and of all that is put for it
pub record InputTrace (spells : PacketOutput) (Shown : List Event → Type 0) (w w' : World) (r : Record)
    (Took : List ℕ → Type 0) : Type 0 where
  pub inputs : ActsOn (gone_to w.state.ports w.output.sink) w.state w'.state w.tape w'.tape r
  pub shown : Shown (events_in inputs.input)
  pub took : (config : GatewayConfig) (before : List Event) → HasHistory config w.state.gateway before
      → Took (w.output.waiting ++ written_for spells config before inputs.input)

-- A record was acted on; or a write failed in it, when it was done or when the first octets of a trunk record
-- were heard.
abbrev pub Inputs : PacketOutput → (List Event → Type 0) → World → World → Record
    → Result (Unit {0}) RunFault → Type 0
Inputs spells Shown w w' r result = MatchResult result
    (λ _. InputTrace spells Shown w w' r (TakesAllButWaiting w.output.sink.taken w'.output.sink.taken
    w'.output.waiting)
    × (w'.output.sink.failures ≡ w.output.sink.failures))
    (λ e. (e ≡ Write) × (w.output.sink.failures < w'.output.sink.failures)
    × (InputTrace spells Shown w w' r (AppendsPrefix w.output.sink.taken w'.output.sink.taken)
    ⊎ ((octets : List ℕ) × (r ≡ Record.Trunk octets)
    × (x : StopsAt spells w.state w'.state w.output w'.output.sink octets) × Shown
    (events_of_turns x.turns))))

-- a sink took octets, but for those that wait, at most this many
abbrev pub TookBut : ℕ → Option (List ℕ) → Option (List ℕ) → List ℕ → Type 0
TookBut late taken taken' octets =
    (waiting : List ℕ) × (length waiting ≤ late) × TakesAllButWaiting taken taken' waiting octets

-- A session but for the last record, in which a write failed when its first octets were received; at most
-- this many octets waited before it.
pub record CutTrace (late : ℕ) (spells : PacketOutput) (w w' : World) (begun : List Record) : Type 0 where
  pub records : List Record
  pub octets : List ℕ
  pub all : begun ≡ records ++ Record.Trunk octets ∷ []
  pub between : World
  pub trace : SessionTrace (written_by spells) (TookBut late w.output.sink.taken) w.state between.state w.tape
      between.tape (λ first. TakesAllButWaiting w.output.sink.taken between.output.sink.taken between.output.waiting)
      records
  pub few : length between.output.waiting ≤ late
  pub stops : StopsAt spells between.state w'.state between.output w'.output.sink octets

-- a session, and this is known of its inputs
abbrev pub WatchedTrace : (GatewayConfig → List Event → List SessionInput → List ℕ)
    → (Option (List ℕ) → List ℕ → Type 0) → SessionState → SessionState → TapeState → TapeState
    → (List ℕ → List ℕ → Type 0) → (List SessionInput → Type 0) → List Record → Type 0
WatchedTrace put Had s s' tape tape' Took Seen records =
    (t : SessionTrace put Had s s' tape tape' Took records) × Seen t.inputs

-- a session up to a write that failed, when this many octets waited at most, and this is known of its inputs:
-- of all, or of all but the last one and of the events of that which happened
abbrev pub TraceToWriteError : ℕ → PacketOutput → (List SessionInput → List Event → Type 0) → World
    → (Totals → World) → List Record → Type 0
TraceToWriteError late spells Seen w end records = (totals : Totals) × (((0 < length records)
    × WatchedTrace (written_by spells) (TookBut late w.output.sink.taken) w.state (end totals).state w.tape
    (end totals).tape (AppendsBut late w.output.sink.taken (end totals).output.sink.taken) (OfFirstInputs Seen) records)
    ⊎ ((c : CutTrace late spells w (end totals) records)
    × Seen c.trace.inputs (events_of_turns c.stops.turns)))
