-- The sockets of circuits from call to call.
use Rattle.std.proofs.Common.{◌≡◌, ◌⊎◌, ℕ, ◌-◌, ◌≤◌, ◌++◌, ◌∷◌, [], List, Option, None, Some, Result, Ok, Err}
use Rattle.std.proofs.Common.{refl, inl, inr, arith}
use Rattle.std.specs.declared.net.socket_addr.SocketAddr.{SocketAddr}
use Rattle.std.proofs.lemmas.Bool.Decides.{eqb_tells}
use Rattle.std.specs.Prelude.{slice_index_or}
use Rattle.gw_records.specs.declared.ports.PortFault.{PortFault}
use Rattle.gw_records.specs.Ports.{PortCall, receive_call, send_call}
use Rattle.gw_udp.specs.Socket.{Received, Sent}
use Rattle.gw_udp.specs.Udp.{KeepsOthers, EndpointReceives, EndpointSends}
use Rattle.gw_udp.specs.Calls.{circuit_of, HasCalledOne, HasCalled, HasMadeAll, calls_for, EachHasItsSocket}
use Rattle.gw_udp.specs.declared.udp.Endpoint.{Endpoint}

-- calls were made at the sockets, and then one more
pub called_more : {S : Type 0} (receives : Received S) (sends : Sent S) (call : PortCall) (calls : List PortCall)
    (old between new : List (Option (Endpoint S))) → HasCalled receives sends calls old between
    → HasCalledOne receives sends call between new → HasCalled receives sends (calls ++ call ∷ []) old new
called_more receives sends call [] old between new none one = (new, rw none at one, refl)
called_more receives sends call (c ∷ calls) old between new some one =
    (some.0, some.1, called_more receives sends call calls some.0 between new some.2 one)

-- a receive for a circuit was a call at its own socket
asked_called : {S : Type 0} (receives : Received S) (sends : Sent S) (first : Option SocketAddr) (circuit : ℕ)
    (old new : List (Option (Endpoint S))) (r : Result (Option ℕ) PortFault) (room : List ℕ) → 1 ≤ circuit
    → EndpointReceives receives first circuit old new r room → KeepsOthers circuit old new
    → HasCalledOne receives sends (receive_call circuit r room) old new
asked_called receives sends first circuit old new (Ok (Some n)) room some own others = record {
  some = some;
  own = λ d. record { len = n; room = room; front = refl; first = first; received = own d };
  others = others;
}
asked_called receives sends first circuit old new (Ok None) room some own others =
    record { some = some; own = λ d. inl (room, first, own d); others = others }
asked_called receives sends first circuit old new (Err fault) room some own others =
    record { some = some; own = λ d. (fault, room, first, own d); others = others }

-- .. or it was held back, and found none
pub receive_called : {S : Type 0} (receives : Received S) (sends : Sent S) (first : Option SocketAddr)
    (circuit : ℕ) (old new : List (Option (Endpoint S))) (r : Result (Option ℕ) PortFault)
    (room : List ℕ) → 1 ≤ circuit
    → EndpointReceives receives first circuit old new r room ⊎ ((r ≡ Ok None) × (new ≡ old))
    → KeepsOthers circuit old new → HasCalledOne receives sends (receive_call circuit r room) old new
receive_called receives sends first circuit old new r room some (inl own) others =
    asked_called receives sends first circuit old new r room some own others
receive_called receives sends first circuit old new r room some (inr none) others =
    rw (none.0, none.1) (record { some = some; own = λ d. inr refl; others = λ i d other. refl })

-- a send of a circuit was a call at its own socket
pub send_called : {S : Type 0} (receives : Received S) (sends : Sent S) (circuit : ℕ)
    (old new : List (Option (Endpoint S))) (datagram : List ℕ) (r : Result (Unit {0}) PortFault) → 1 ≤ circuit
    → EndpointSends sends circuit old new datagram r → KeepsOthers circuit old new
    → HasCalledOne receives sends (send_call circuit datagram r) old new
send_called receives sends circuit old new datagram (Ok tt) some own others =
    record { some = some; own = own; others = others }
send_called receives sends circuit old new datagram (Err fault) some own others =
    record { some = some; own = λ d. (fault, own d); others = others }

-- what the socket of a circuit is came of the calls for this circuit
made_all : {S : Type 0} (receives : Received S) (sends : Sent S) (calls : List PortCall)
    (old new : List (Option (Endpoint S))) → HasCalled receives sends calls old new
    → (circuit : ℕ) → 1 ≤ circuit
    → HasMadeAll receives sends (calls_for circuit calls) (slice_index_or old (circuit - 1) None)
    (slice_index_or new (circuit - 1) None)
made_all receives sends [] old new none circuit some = rw none refl
made_all receives sends (call ∷ calls) old new has circuit some = elim (eqb_tells (circuit_of call) circuit) [
  | inl t ↦ rw (t.0) (
    slice_index_or has.0 (circuit - 1) None,
    rw (t.1) at (has.1.own None),
    made_all receives sends calls has.0 new has.2 circuit some,
  )
  | inr t ↦ rw (t.0, ← has.1.others (circuit - 1) None (λ same. t.1 (omega (arith, same, some, has.1.some))))
      (made_all receives sends calls has.0 new has.2 circuit some)
]

-- each circuit has its own socket, by what is true of all ports over sockets
pub each_has : {S : Type 0} (receives : Received S) (sends : Sent S) (calls : List PortCall)
    (opened endpoints : List (Option (Endpoint S))) → HasCalled receives sends calls opened endpoints
    → EachHasItsSocket receives sends calls opened endpoints
each_has receives sends calls opened endpoints called =
    λ circuit some. made_all receives sends calls opened endpoints called circuit some
