use Rattle.std.proofs.Common.{◌≡◌, ◌≤◌, ◌∙◌, ◌++◌, ℕ, List, length, inl, inr, ap, sym, arith, refl}
use Rattle.gw_satop.specs.declared.line.Receiver.{Receiver}
use Rattle.gw_satop.specs.declared.pace.PlayClock.{PlayClock}
use Rattle.gw_satop.specs.declared.peer.UdpPeer.{UdpPeer}
use Rattle.gw_udp.specs.Socket.{Received}
use Rattle.gw_satop.specs.Doing.{HearsAll, PlaysDue}
use Rattle.gw_satop.proofs.Turning.{anyway}
use Rattle.gw_satop.proofs.circuit.SatopCircuit.turn.Goals as goal

-- Nothing more was received since all was.
hears-on : {S : Type 0} {s : _} (receives : Received S) (old old' new new' : UdpPeer S s) → old' ≡ old
    → new'.received.datagrams ≡ new.received.datagrams → HearsAll receives old' new → HearsAll receives old new'
hears-on receives old old' new new' first last k = record {
  heard = k.heard;
  received_are = last ∙ k.received_are ∙ ap (λ p. p.received.datagrams ++ k.heard) first;
  all = elim k.all [ inl many ↦ inl many | inr none ↦ inr (none.0, none.1, none.2 ∙ sym last) ];
}

-- Nothing more was played since what is due was.
plays-on : (receiver receiver' : Receiver) (pace pace' : PlayClock) (size size' : ℕ)
    (before before' after after' : List ℕ) → receiver' ≡ receiver → pace' ≡ pace → size ≡ size' → length before' ≤ length before → after' ≡ after
    → PlaysDue receiver pace size before after → PlaysDue receiver' pace' size' before' after'
plays-on receiver receiver' pace pace' size size' before before' after after' r p s less a k = elim k [
  | inl none ↦ inl (rw (r, p) none)
  | inr many ↦ inr (omega (arith, many, less, s, ap length a))
]

pub returns-clause-hears : goal.returns-clause-hears
returns-clause-hears g c = anyway c.take.result (hears-on _ _ _ _ _
    c.advance.ensures.peer (c.take.ensures.received
    ∙ ap (λ p. p.received.datagrams) (c.in_ok-play_due.ensures.only.peer ∙ c.listen.ensures.peer))
    c.in_ok-hear_all.ensures.hears)

pub returns-clause-plays : goal.returns-clause-plays
returns-clause-plays g c = anyway c.take.result (plays-on _ _ _ _ _ _ _ _ _ _
    c.take.ensures.receiver c.take.ensures.pace
    (ap (λ s. s.size) (c.listen.ensures.same.settings_are ∙ c.in_ok-hear_all.ensures.same.settings_are
    ∙ c.advance.ensures.same.settings_are))
    (rw (c.listen.ensures.outgoing, c.listen.ensures.left)
    (rw (c.advance.ensures.outgoing, c.advance.ensures.left) at c.in_ok-hear_all.ensures.grows))
    (rw (c.take.ensures.outgoing, c.take.ensures.left) refl) c.in_ok-play_due.ensures.plays)
