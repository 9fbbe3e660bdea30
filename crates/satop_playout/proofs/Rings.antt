-- The slots of a ring, and the packets in them.
use Rattle.std.proofs.Common.{rules, ◌≡◌, ◌≢◌, inl, inr, ℕ, ◌+◌, ◌<◌, List, [], ◌∷◌, ◌++◌, length, Some, None}
use Rattle.std.proofs.Common.{slice_set, sym, ap, ◌∙◌, arith}
use Rattle.std.proofs.lemmas.Bool.{cases_eq, cases_lt}
use Rattle.circular_buffer.proofs.Places.{slice_get-set_same, slice_get-set_other}
use Rattle.satop_playout.specs.declared.slot.PacketSlot.{PacketSlot}
use Rattle.satop_playout.specs.Plays.{PlacedPacket, packet_at}
use Rattle.satop_playout.specs.Standing.{Wraps, packet_in, packet_from, packet_of}
use Rattle.satop_playout.proofs.Placing.{placed_at, packet_at-free, packet_at-apart}

-- a place has one slot
pub wraps-same : (start k n p q : ℕ) → Wraps start k n p → Wraps start k n q → p ≡ q
wraps-same start k n p q h5 h6 = search rules

-- .. and a slot has one place
pub wraps-apart : (start k j n p q : ℕ) → k < n → j < n → k ≢ j → Wraps start k n p → Wraps start j n q → q ≢ p
wraps-apart start k j n p q h l other h9 h10 e = search rules

-- a place behind the next slot is one more behind this one
pub wraps-next : (start next k n q : ℕ) → start < n → k + 1 < n → Wraps start 1 n next → Wraps next k n q
    → Wraps start (k + 1) n q
wraps-next start next k n q s h h7 h8 = search rules

-- the last place behind the next slot is this slot
pub wraps-last : (start next k n q : ℕ) → start < n → k + 1 ≡ n → Wraps start 1 n next → Wraps next k n q → q ≡ start
wraps-last start next k n q s h h7 h8 = search rules

-- the packet in a slot that was written
pub packet-written : (size : ℕ) (slots : List PacketSlot) (p : ℕ) (slot : PacketSlot) → p < length slots
    → packet_of size (slice_set slots p slot) p ≡ packet_in size slot
packet-written size slots p slot h = ap (packet_from size) (slice_get-set_same slots p slot h)

-- .. and in another
pub packet-other : (size : ℕ) (slots : List PacketSlot) (p q : ℕ) (slot : PacketSlot) → q ≢ p
    → packet_of size (slice_set slots p slot) q ≡ packet_of size slots q
packet-other size slots p q slot other = ap (packet_from size) (slice_get-set_other slots p q slot other)

-- The slots hold the packets of the places from one on.
abbrev pub Holds : ℕ → ℕ → ℕ → List PacketSlot → List PlacedPacket → ℕ → Type 0
Holds size window head slots placed now = (k p : ℕ) → k < window → Wraps head k window p
    → packet_of size slots p ≡ packet_at placed (now + k)

-- a packet is put into the slot of its place, which is free
pub holds-put : (size window head now d p : ℕ) (slots : List PacketSlot) (placed : List PlacedPacket)
    (slot : PacketSlot)
    (octets : List ℕ) → Holds size window head slots placed now → length slots ≡ window → d < window
    → Wraps head d window p → packet_in size slot ≡ Some octets → packet_at placed (now + d) ≡ None
    → Holds size window head (slice_set slots p slot) (placed ++ placed_at (now + d) octets ∷ []) now
holds-put size window head now d p slots placed slot octets held room near at is free k q h wraps =
    elim (cases_eq k d) as (λ _. packet_of size (slice_set slots p slot) q
    ≡ packet_at (placed ++ placed_at (now + d) octets ∷ []) (now + k)) [
      | inl same ↦
          let here : q ≡ p = wraps-same head d window q p (let w = wraps in rw (sym same) w) at in
          let within : p < length slots = (let b = at.0 in omega arith) in
          ap (λ (n : ℕ). packet_of size (slice_set slots p slot) n) here
          ∙ packet-written size slots p slot within ∙ is
          ∙ sym (packet_at-free placed (now + d) octets free)
          ∙ ap (λ (n : ℕ). packet_at (placed ++ placed_at (now + d) octets ∷ []) (now + n)) (sym same)
      | inr other ↦
          packet-other size slots p q slot (wraps-apart head d k window p q near h (λ e. other (sym e)) at wraps)
          ∙ held k q h wraps
          ∙ sym (packet_at-apart placed (placed_at (now + d) octets) (now + k) (λ e. other (omega arith)))
    ]

-- the slot of the next packet is emptied, and the places move on by one
pub holds-next : (size window head next now : ℕ) (slots : List PacketSlot) (placed : List PlacedPacket)
    (slot : PacketSlot)
    → Holds size window head slots placed now → length slots ≡ window → head < window
    → Wraps head 1 window next → packet_in size slot ≡ None → packet_at placed (now + window) ≡ None
    → Holds size window next (slice_set slots head slot) placed (now + 1)
holds-next size window head next now slots placed slot held room start step is none k q h wraps =
    elim (cases_lt (k + 1) window)
    as (λ _. packet_of size (slice_set slots head slot) q ≡ packet_at placed (now + 1 + k)) [
      | inl l ↦
          let back : Wraps head (k + 1) window q = wraps-next head next k window q start l step wraps in
          let first : Wraps head 0 window head = (start, inl (omega arith)) in
          let at : now + (k + 1) ≡ now + 1 + k = omega arith in
          packet-other size slots head q slot
          (wraps-apart head 0 (k + 1) window head q (omega arith) l (λ e. omega arith) first back)
          ∙ held (k + 1) q l back ∙ ap (λ (n : ℕ). packet_at placed n) at
      | inr l ↦
          let last : q ≡ head = wraps-last head next k window q start (omega arith) step wraps in
          let at : now + window ≡ now + 1 + k = omega arith in
          ap (λ (n : ℕ). packet_of size (slice_set slots head slot) n) last
          ∙ packet-written size slots head slot (omega arith) ∙ is
          ∙ sym none ∙ ap (λ (n : ℕ). packet_at placed n) at
    ]
