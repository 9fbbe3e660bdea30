-- Octets that are heard one after another, while nothing is sent (`hear` of module `exchange`).
use Rattle.std.specs.Prelude.{◌≡◌, ◌<◌, ◌≤◌, ◌++◌, ◌∷◌, ℕ, Bool, false, List, [], length, take, drop, flat_map}
use Rattle.std.specs.Prelude.{Option, Some, MatchOption, Result, MatchResult, true, get_or, if◌then◌else◌}
use Rattle.gw_records.specs.Line.{Output}
use Rattle.gw_switch.specs.Whole.{octet_reply}
use Rattle.gw_session.specs.Prelude.{GatewayConfig, Gateway, Event, HasHistory, Extends, PortCall, RunFault}
use Rattle.gw_records.specs.declared.outcome.RunFault.TheVariants.{Write}
use Rattle.gw_session.specs.Exchange.{AreShown, ComesInTurn, Exchanges, StopsAt}
use Rattle.gw_session.specs.PacketPorts.{PacketOutput}
use Rattle.gw_session.specs.Serve.{Turn, events_of_turns, packets_of, receives_in, send_of}
use Rattle.gw_session.specs.Tape.{Taping, RecordedBut, taping, gone_to}
use Rattle.gw_session.specs.Watch.{Shows}
use Rattle.gw_session.specs.World.{SessionState, World}

-- the calls of ports in a turn, whose packet is sent later if it is held
abbrev pub calls_so : Bool → Turn → List PortCall
calls_so holding t = receives_in t ++ (if holding then [] else send_of t.packet t.went)

-- .. in turns, the packets of which are held now if they are to be
pub record CallsSo (holding : Bool) (a b : SessionState) (ts : List Turn) : Type 0 where
  pub calls : Extends a.ports.calls b.ports.calls (flat_map (calls_so holding) ts)
  pub held : b.held ≡ a.held ++ (if holding then packets_of ts else [])

-- the first i octets of a record were heard since its beginning, a watch was shown the datagrams before them,
-- and those of them that are neither recorded nor in the batch are the last ones
pub record HeardSo {W : Type 0} (shows : Shows W) (v v' : W) (holding : Bool) (spells : PacketOutput) (w w' : World)
    (batch octets : List ℕ) (i recorded : ℕ) (answer : List ℕ)
    : Type 0 where
  pub order : recorded ≤ i
  pub so : (x : Exchanges spells w.state w'.state w.output w'.output (take i octets) answer)
      × RecordedBut (taping w.tape []) (taping w'.tape batch) (events_of_turns x.turns) (drop recorded (take i octets))
      × CallsSo holding w.state w'.state x.turns × AreShown shows w.state.gateway v v' 0 (events_of_turns x.turns)

-- The first octets were heard, and one more, whose packet is this: it is to be sent before the next octet is
-- heard.
pub record IsPaused {W : Type 0} (shows : Shows W) (v v' : W) (spells : PacketOutput) (w w' : World)
    (batch octets : List ℕ) (recorded : ℕ) (answer : List ℕ) (packet : ℕ × List ℕ)
    : Type 0 where
  pub i : ℕ
  pub within : i < length octets
  pub between : World
  pub seen : W
  pub batch_then : List ℕ
  pub recorded_then : ℕ
  pub answer_then : List ℕ
  pub heard : HeardSo shows v seen false spells w between batch_then octets i recorded_then answer_then
  pub output_is : w'.output ≡ between.output
  pub gateway : Gateway
  pub comes : ComesInTurn (AreShown shows between.state.gateway seen v' (length (take i octets))) between.state
      (record w'.state { gateway = gateway }) (taping between.tape batch_then) (taping w'.tape batch)
      (take i octets) recorded_then recorded
  pub sent : ℕ
  pub behind : answer ≡ answer_then ++ sent ∷ []
  pub hears : (config : GatewayConfig) (before : List Event) → HasHistory config gateway before
      → HasHistory config w'.state.gateway (before ++ Event.Octet (get_or octets i 0) ∷ [])
      × (octet_reply config before (get_or octets i 0) ≡ record { octet = sent; packet = Some packet })

-- Whatever came before it in a record, octets were heard behind the first ones, and nothing was written: all
-- others; or up to one whose packet, of the circuit that is named, is in the room.
abbrev pub HearsOn : {W : Type 0} → Shows W → W → W → Bool → PacketOutput → SessionState → SessionState → Taping
    → Taping → List ℕ → ℕ → ℕ → List ℕ → List ℕ → List ℕ → Option ℕ → Type 0
HearsOn {W} shows v v' holding spells s s' t t' octets recorded recorded' answer answer' room named =
    (w : World) (begun : W) (o : Output) → w.state.held ≡ []
    → HeardSo shows begun v holding spells w (record { state = s; tape = t.tape; output = o }) t.batch octets
    (length answer) recorded answer
    → MatchOption named (HeardSo shows begun v' holding spells w (record { state = s'; tape = t'.tape; output = o })
    t'.batch octets (length octets) recorded' answer')
    (λ circuit. (holding ≡ false) × IsPaused shows begun v' spells w (record { state = s'; tape = t'.tape; output = o })
    t'.batch octets recorded' answer' (circuit, room))

-- All octets of a record were heard; or a write of what a packet puts failed, when the first ones were. Nothing
-- has gone out if packets are held.
abbrev pub HearsAll : {W : Type 0} → Shows W → W → W → Bool → PacketOutput → World → World → List ℕ → List ℕ → ℕ
    → List ℕ → Result (Unit {0}) RunFault → Type 0
HearsAll shows v v' holding spells w w' batch octets recorded answer result = MatchResult result
    (λ _. HeardSo shows v v' holding spells w w' batch octets (length octets) recorded answer
    × (holding ≡ true → gone_to w'.state.ports w'.output.sink ≡ gone_to w.state.ports w.output.sink))
    (λ e. (e ≡ Write) × (x : StopsAt spells w.state (record w'.state { held = [] }) w.output w'.output.sink octets)
    × AreShown shows w.state.gateway v v' 0 (events_of_turns x.turns))
