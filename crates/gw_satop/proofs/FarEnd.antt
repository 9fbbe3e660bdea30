-- The socket of a far end from call to call.
use Rattle.std.proofs.Common.{◌≡◌, ℕ, ◌++◌, ◌∷◌, [], List, take, Some, None, Result, Ok, Err, Bool, is_ok}
use Rattle.std.proofs.Common.{refl, sym, ap, ◌∙◌, append-nil}
use Rattle.std.proofs.lemmas.Grind.{flat_map-append}
use Rattle.std.specs.declared.net.socket_addr.SocketAddr.{SocketAddr}
use Rattle.gw_records.specs.declared.ports.PortFault.{PortFault}
use Rattle.gw_udp.specs.Socket.{ReceivesAny}
use Rattle.gw_satop.specs.declared.log.History.{History}
use Rattle.gw_satop.specs.FarEnd.{SocketCall, Relations, received_by, given_to, taken_of, IsCalled, AreCalled}
use Rattle.gw_satop.specs.FarEnd.{IsBySocket}

-- the socket was called, and then once more
called_more : {S : Type 0} (how : Relations S) (there : SocketAddr)
    (call : SocketCall) (calls : List SocketCall) (old between new : S)
    → AreCalled how there calls old between
    → IsCalled how there call between new
    → AreCalled how there (calls ++ call ∷ []) old new
called_more how there call [] old between new none one = (new, rw none at one, refl)
called_more how there call (c ∷ calls) old between new some one =
    (some.0, some.1, called_more how there call calls some.0 between new some.2 one)

-- .. so what came and was sent grows by what this call received and was given
by_one_more : {S : Type 0} (how : Relations S) (there : SocketAddr)
    (call : SocketCall) (opened between socket : S) (received : List (List ℕ)) (sent sent' : History)
    → IsBySocket how there opened between received sent
    → IsCalled how there call between socket
    → sent'.datagrams ≡ sent.datagrams ++ given_to call → sent'.flags ≡ sent.flags ++ taken_of call
    → IsBySocket how there opened socket (received ++ received_by call) sent'
by_one_more how there call opened between socket received sent sent' by one given taken = record {
  calls = by.calls ++ call ∷ [];
  called = called_more how there call by.calls opened between socket by.called one;
  received_are = rw (by.received_are, flat_map-append, append-nil) refl;
  sent_are = rw (given, by.sent_are, flat_map-append, append-nil) refl;
  taken_are = rw (taken, by.taken_are, flat_map-append, append-nil) refl;
}

-- the socket received a datagram
pub by_heard : {S : Type 0} (how : Relations S) (there : SocketAddr)
    (opened between socket : S) (received : List (List ℕ)) (sent : History) (n : ℕ) (room : List ℕ)
    → IsBySocket how there opened between received sent
    → ReceivesAny how.receives between socket (Ok (Some n)) room
    → IsBySocket how there opened socket (received ++ take n room ∷ []) sent
by_heard how there opened between socket received sent n room by got =
    by_one_more how there (SocketCall.Heard (take n room)) opened between socket received sent sent by
    (record { len = n; room = room; front = refl; received = got })
    (sym (append-nil sent.datagrams)) (sym (append-nil sent.flags))

-- a call after which as much came and was sent as before
by_nothing : {S : Type 0} (how : Relations S) (there : SocketAddr)
    (call : SocketCall) (opened between socket : S) (received : List (List ℕ)) (sent : History)
    → received_by call ≡ [] → given_to call ≡ [] → taken_of call ≡ []
    → IsBySocket how there opened between received sent
    → IsCalled how there call between socket
    → IsBySocket how there opened socket received sent
by_nothing how there call opened between socket received sent none given taken by one =
    let grown = by_one_more how there call opened between socket received sent sent by one
    (sym (append-nil sent.datagrams) ∙ ap (λ l. sent.datagrams ++ l) (sym given))
    (sym (append-nil sent.flags) ∙ ap (λ l. sent.flags ++ l) (sym taken)) in
    record {
      calls = grown.calls;
      called = grown.called;
      received_are = sym (append-nil received) ∙ ap (λ l. received ++ l) (sym none) ∙ grown.received_are;
      sent_are = grown.sent_are;
      taken_are = grown.taken_are;
    }

-- the socket found none
pub by_none : {S : Type 0} (how : Relations S) (there : SocketAddr)
    (opened between socket : S) (received : List (List ℕ)) (sent : History) (room : List ℕ)
    → IsBySocket how there opened between received sent
    → ReceivesAny how.receives between socket (Ok None) room
    → IsBySocket how there opened socket received sent
by_none how there opened between socket received sent room by got =
    by_nothing how there SocketCall.FoundNone opened between socket received sent refl refl refl by
    (room, got)

-- the receive failed
pub by_failed : {S : Type 0} (how : Relations S) (there : SocketAddr)
    (opened between socket : S) (received : List (List ℕ)) (sent : History) (fault : PortFault) (room : List ℕ)
    → IsBySocket how there opened between received sent
    → ReceivesAny how.receives between socket (Err fault) room
    → IsBySocket how there opened socket received sent
by_failed how there opened between socket received sent fault room by got =
    by_nothing how there SocketCall.Failed opened between socket received sent refl refl refl by
    (fault, room, got)

-- the socket was given a datagram, whatever it answered
pub by_sent : {S : Type 0} (how : Relations S) (there : SocketAddr)
    (opened between socket : S) (received : List (List ℕ)) (sent sent' : History) (octets : List ℕ)
    (taken : Bool) (answer : Result (Unit {0}) PortFault)
    → IsBySocket how there opened between received sent
    → how.sends between socket there octets answer → taken ≡ is_ok answer
    → sent'.datagrams ≡ sent.datagrams ++ octets ∷ [] → sent'.flags ≡ sent.flags ++ taken ∷ []
    → IsBySocket how there opened socket received sent'
by_sent how there opened between socket received sent sent' octets taken answer by one is given flags =
    let grown = by_one_more how there (SocketCall.Given octets taken) opened between socket received sent sent'
    by (answer, one, is) given flags in
    record {
      calls = grown.calls;
      called = grown.called;
      received_are = sym (append-nil received) ∙ grown.received_are;
      sent_are = grown.sent_are;
      taken_are = grown.taken_are;
    }
