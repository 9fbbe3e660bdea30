-- The packet of a place, how far the accepted ones reach, and the state one call later.
use Rattle.std.proofs.Common.{◌≡◌, ◌≢◌, ℕ, suc, ◌+◌, ◌-◌, Bool, true, false, cond, List, [], ◌∷◌, ◌++◌, Option, Some}
use Rattle.std.proofs.Common.{None, is_some, max, ◌==◌, refl, ap, arith, eq-eqb, Ok, Err}
use Rattle.std.proofs.lemmas.Bool.{ne_eqb}
use Rattle.std.proofs.lemmas.List.Sums.{fold_push}
use Rattle.satop_playout.specs.declared.ArrivalFault.{ArrivalFault}
use Rattle.satop_playout.specs.declared.ArrivalFault.TheVariants.{OtherSize, NotBegun, Late, TooFar, Repeat}
use Rattle.satop_playout.specs.declared.Settings.{Settings}
use Rattle.satop_playout.specs.Calls.{PlayoutCall, first_fault, answer_for}
use Rattle.satop_playout.specs.Plays.{PlacedPacket, PlayoutState, at_first, packet_at, reach_from, ahead, refusal}
use Rattle.satop_playout.specs.Plays.{after_arrival, after_call, stream}

-- one call more
pub stream-push : (settings : Settings) (calls : List PlayoutCall) (call : PlayoutCall)
    → stream settings (calls ++ call ∷ []) ≡ after_call settings (stream settings calls) call
unfolding stream
stream-push settings calls call = fold_push (after_call settings) at_first calls call

-- the packet at its own place
abbrev pub placed_at : ℕ → List ℕ → PlacedPacket
placed_at place octets = record { place = place; octets = octets }

-- a packet is that of the first entry, or one of the others
here-or : (b : Bool) (here was more : Option (List ℕ)) (octets : List ℕ) → (was ≡ Some octets → more ≡ Some octets)
    → cond b here was ≡ Some octets → cond b here more ≡ Some octets
here-or true here was more octets rest e = e
here-or false here was more octets rest e = rest e

-- a place that had no packet has the one that is added
free-or : (b : Bool) (here : List ℕ) (was more : Option (List ℕ)) (octets : List ℕ)
    → (was ≡ None → more ≡ Some octets) → cond b (Some here) was ≡ None → cond b (Some here) more ≡ Some octets
free-or true here was more octets rest e = cc
free-or false here was more octets rest e = rest e

-- a packet that is found stays the one of its place if another is accepted
pub packet_at-kept : (placed : List PlacedPacket) (p : PlacedPacket) (place : ℕ) (octets : List ℕ)
    → packet_at placed place ≡ Some octets → packet_at (placed ++ p ∷ []) place ≡ Some octets
packet_at-kept [] p place octets e = cc
packet_at-kept (q ∷ placed) p place octets e =
    here-or (q.place == place) (Some q.octets) (packet_at placed place) (packet_at (placed ++ p ∷ []) place) octets
    (packet_at-kept placed p place octets) e

-- an accepted packet is the one of its place if no other has it
pub packet_at-free : (placed : List PlacedPacket) (place : ℕ) (octets : List ℕ) → packet_at placed place ≡ None
    → packet_at (placed ++ placed_at place octets ∷ []) place ≡ Some octets
packet_at-free [] place octets e = rw (eq-eqb place place refl) refl
packet_at-free (q ∷ placed) place octets e =
    free-or (q.place == place) q.octets (packet_at placed place)
    (packet_at (placed ++ placed_at place octets ∷ []) place) octets (packet_at-free placed place octets) e

-- .. and changes nothing at another place
pub packet_at-apart : (placed : List PlacedPacket) (p : PlacedPacket) (place : ℕ) → p.place ≢ place
    → packet_at (placed ++ p ∷ []) place ≡ packet_at placed place
packet_at-apart [] p place other = rw (ne_eqb p.place place other) refl
packet_at-apart (q ∷ placed) p place other =
    ap (λ (o : Option (List ℕ)). cond (q.place == place) (Some q.octets) o) (packet_at-apart placed p place other)

-- how far the accepted ones reach with one packet more
pub reach-push : (placed : List PlacedPacket) (p : PlacedPacket) (place : ℕ)
    → reach_from (placed ++ p ∷ []) place ≡ max (reach_from placed place) (suc p.place - place)
reach-push [] p place = omega arith
reach-push (q ∷ placed) p place = let rest = reach-push placed p place in omega arith

-- .. and from the next place on
pub reach-next : (placed : List PlacedPacket) (place : ℕ) → reach_from placed (place + 1) ≡ reach_from placed place - 1
reach-next [] place = refl
reach-next (q ∷ placed) place = let rest = reach-next placed place in omega arith

-- the fault of five causes
abbrev pub told : Bool → Bool → Bool → Bool → Bool → Option ArrivalFault
told o n l t r = first_fault
    ((o, OtherSize) ∷ (n, NotBegun) ∷ (l, Late) ∷ (t, TooFar) ∷ (r, Repeat) ∷ [])

abbrev pub with_packet : PlayoutState → ℕ → List ℕ → PlayoutState
with_packet s place octets = record s { placed = s.placed ++ placed_at place octets ∷ [] }

-- the state after a packet with this fault, or with none
abbrev pub chosen : Option ArrivalFault → PlayoutState → PlayoutState → PlayoutState
chosen r s t = cond (is_some r) s t

-- an accepted packet has its place from then on
pub after-accepted : (settings : Settings) (s : PlayoutState) (sequence : ℕ) (octets : List ℕ)
    → refusal settings s sequence octets ≡ None
    → after_arrival settings s sequence octets ≡ with_packet s (s.now + ahead s sequence) octets
after-accepted settings s sequence octets e =
    ap (λ r. chosen r s (with_packet s (s.now + ahead s sequence) octets)) e

-- a refused one changes nothing
pub after-refused : (settings : Settings) (s : PlayoutState) (sequence : ℕ) (octets : List ℕ) (fault : ArrivalFault)
    → refusal settings s sequence octets ≡ Some fault → after_arrival settings s sequence octets ≡ s
after-refused settings s sequence octets fault e =
    ap (λ r. chosen r s (with_packet s (s.now + ahead s sequence) octets)) e

-- an answer shows whether there is a fault
pub not-refused : (r : Option ArrivalFault) → answer_for r ≡ Ok tt → r ≡ None
not-refused None e = refl
not-refused (Some fault) e = cc

-- a packet that is answered by a fault is refused for it
pub refused-by : (r : Option ArrivalFault) (fault : ArrivalFault) → answer_for r ≡ Err fault → r ≡ Some fault
refused-by None fault e = cc
refused-by (Some other) fault e = cc
