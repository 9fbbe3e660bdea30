-- Whether the packet of a number is held, and what follows for one that arrives.
use Rattle.std.proofs.Common.{◌≡◌, ℕ, ◌+◌, ◌-◌, ◌^◌, ◌<◌, true, cond, List, length, Some, None, is_some, get_or, sym}
use Rattle.std.proofs.Common.{ap, ◌∙◌, arith}
use Rattle.satop_playout.specs.declared.ArrivalFault.TheVariants.{Repeat}
use Rattle.satop_playout.specs.declared.playout.SatopPlayout.{SatopPlayout}
use Rattle.satop_playout.specs.declared.slot.PacketSlot.{PacketSlot}
use Rattle.satop_playout.specs.Plays.{PlayoutState, packet_at, ahead, refusal}
use Rattle.satop_playout.specs.Standing.{Wraps, packet_in, Represents}
use Rattle.satop_playout.proofs.Keeping.{slot-read}

-- what was asked of a packet that arrives: its number of octets, its place and its slot
pub record Asked (playout : SatopPlayout) (s : PlayoutState) (sequence : ℕ) (octets : List ℕ) (place : ℕ) : Type 0 where
  pub size_is : length octets ≡ playout.settings.size
  pub begun : is_some s.first ≡ true
  pub place_is : place ≡ ahead s sequence
  pub on_time : place < 2 ^ 15
  pub near : place < playout.settings.window

-- whether the packet of the place is held says whether it is a repeat
pub repeats : (playout : SatopPlayout) (s : PlayoutState) (sequence : ℕ) (octets : List ℕ) (place p : ℕ)
    (slot : PacketSlot)
    → Represents playout playout.settings s → Asked playout s sequence octets place
    → Wraps playout.head place playout.settings.window p → slot ≡ get_or playout.slots.items p slot
    → refusal playout.settings s sequence octets
    ≡ cond (is_some (packet_in playout.settings.size slot)) (Some Repeat) None
repeats playout s sequence octets place p slot k a at is =
    let room = k.room in
    let within = at.0 in
    let held : packet_in playout.settings.size slot ≡ packet_at s.placed (s.now + ahead s sequence) =
    sym (slot-read playout.settings.size playout.slots.items p slot is (omega arith)) ∙ k.held place p a.near at
    ∙ ap (λ (n : ℕ). packet_at s.placed (s.now + n)) a.place_is in
    let on_time : ahead s sequence < 2 ^ 15 = (let e = a.place_is in let l = a.on_time in omega arith) in
    let near : ahead s sequence < playout.settings.window = (let e = a.place_is in let l = a.near in omega arith) in
    grind arith
