-- Where packets of a session go (module `packet_ports`).
use Rattle.std.specs.Prelude.{◌≡◌, ◌+◌, ℕ, Bool, true, false, List, [], ◌∷◌, Some, None}
use Rattle.gw_session.specs.Prelude.{at_most, record_of, PortsState, PortCall, Extends}

-- the octets that a packet of a circuit puts in front of the answer
abbrev pub PacketOutput : Type 0
PacketOutput = ℕ × List ℕ → List ℕ

-- none, where packets go to ports
abbrev pub silent : PacketOutput
silent p = []

-- its record, where they go to the sink
abbrev pub in_record : PacketOutput
in_record p = record_of 0x44 p.0 p.1

-- ports at which nothing waits and nothing fails
abbrev pub no_ports : PortsState
no_ports = record {
  receive_failures = 0;
  send_failures = 0;
  addresses = λ circuit. None;
  waiting = Some (λ circuit. []);
  given = None;
  taken = None;
  calls = None;
}

-- a packet went out, or its send failed
abbrev pub Went : PortsState → PortsState → ℕ → Bool → List ℕ → Type 0
Went old new circuit true packet =
    Extends old.taken new.taken ((circuit, packet) ∷ []) × (new.send_failures ≡ old.send_failures)
    × Extends old.calls new.calls (PortCall.Took circuit packet ∷ [])
Went old new circuit false packet =
    (new.taken ≡ old.taken) × (new.send_failures ≡ at_most (old.send_failures + 1))
    × Extends old.calls new.calls (PortCall.SendFailed circuit packet ∷ [])
