-- A playout with a history, one call later.
use Rattle.std.proofs.Common.{rules, ◌≡◌, ℕ, zero, suc, ◌+◌, ◌-◌, ◌^◌, ◌≤◌, ◌<◌, Bool, true, cond, List, [], ◌∷◌, ◌++◌}
use Rattle.std.proofs.Common.{length, take, drop, min, max, Option, Some, None, is_some, slice_set, get_or, refl, sym}
use Rattle.std.proofs.Common.{ap, subst, ◌∙◌, arith, length-set, length-drop, length-append, append_assoc}
use Rattle.std.proofs.lemmas.Grind.{common_steps}
use Rattle.std.proofs.lemmas.Bool.{cases_lt}
use Rattle.std.proofs.lemmas.List.{take-append-drop, length-take-le}
use Rattle.std.proofs.lemmas.Option.{slice_get-get_or, slice_get_past}
use Rattle.std.proofs.Math.Seq.{drop-append-add, take-append_seam}
use Rattle.circular_buffer.specs.Buffer.{Buffer, buffer, keep_last}
use Rattle.satop_playout.specs.declared.ArrivalFault.{ArrivalFault}
use Rattle.satop_playout.specs.declared.Settings.{Settings}
use Rattle.satop_playout.specs.declared.playout.SatopPlayout.{SatopPlayout}
use Rattle.satop_playout.specs.declared.slot.PacketSlot.{PacketSlot}
use Rattle.satop_playout.specs.Calls.{PlayoutCall, Begins, Arrives, Plays}
use Rattle.satop_playout.specs.Replacement.{fill_of}
use Rattle.satop_playout.specs.Plays.{PlacedPacket, PlayoutState, packet_at, number_after, ahead, refusal}
use Rattle.satop_playout.specs.Plays.{after_beginning, after_play, due_now, octets_or_fill, octets_now, filled_for}
use Rattle.satop_playout.specs.Plays.{stream, is_there, play_octets}
use Rattle.satop_playout.specs.Standing.{Wraps, packet_in, packet_from, packet_of, IsNext, Represents, HasHistory}
use Rattle.satop_playout.proofs.Placing.{stream-push, with_packet, reach-push, reach-next, placed_at, packet_at-apart}
use Rattle.satop_playout.proofs.Placing.{after-accepted, after-refused}
use Rattle.satop_playout.proofs.Turns.{accepted}
use Rattle.satop_playout.proofs.Rings.{holds-put, holds-next}

-- what holds at the settings of the playout holds at those of its history
pub at_own : (playout : SatopPlayout) (calls : List PlayoutCall) (P : Settings → Type 0)
    → (HasHistory playout playout.settings calls → P playout.settings) → (settings : Settings)
    → HasHistory playout settings calls → P settings
unfolding HasHistory
at_own playout calls P own settings k = grind (arith, common_steps)

-- .. and of its state
pub keeps_own : (playout : SatopPlayout) (s : PlayoutState) (P : Settings → Type 0)
    → (Represents playout playout.settings s → P playout.settings) → (settings : Settings)
    → Represents playout settings s → P settings
keeps_own playout s P own settings k =
    subst P k.settings_are (own (subst (λ (t : Settings). Represents playout t s) (sym k.settings_are) k))

-- the packet in a slot that was read
pub slot-read : (size : ℕ) (slots : List PacketSlot) (p : ℕ) (slot : PacketSlot) → slot ≡ get_or slots p slot
    → p < length slots
    → packet_of size slots p ≡ packet_in size slot
slot-read size slots p slot e h = ap (packet_from size) (slice_get-get_or slots p slot h ∙ ap Some (sym e))

-- slots that hold nothing
abbrev pub AllEmpty : List PacketSlot → Type 0
AllEmpty slots = (size p : ℕ) → packet_of size slots p ≡ None

-- with one more that holds nothing they hold nothing
pub empty-push : (slots : List PacketSlot) (slot : PacketSlot) → ((size : ℕ) → packet_in size slot ≡ None)
    → AllEmpty slots → AllEmpty (slots ++ slot ∷ [])
empty-push [] slot none all size zero = none size
empty-push [] slot none all size (suc p) = refl
empty-push (first ∷ slots) slot none all size zero = all size 0
empty-push (first ∷ slots) slot none all size (suc p) =
    empty-push slots slot none (λ n q. all n (suc q)) size p

-- .. and so do those that were emptied one by one
pub emptied-all : (slots : List PacketSlot) (i : ℕ) → length slots ≤ i
    → ((size p : ℕ) → p < i → packet_of size slots p ≡ None) → AllEmpty slots
emptied-all slots i all before size p = search (rules, cases_lt, slice_get_past)

-- slots that are all written anew are those that were written
pub rewritten : (count : ℕ) (slots was : List PacketSlot) → length slots ≡ count
    → take count (slots ++ drop (length slots) was) ≡ slots
rewritten count slots was size = cc (take-append_seam slots (drop (length slots) was))

-- a playout whose stream begins with this number
pub keeps-begun : (playout after : SatopPlayout) (s : PlayoutState) (sequence : ℕ)
    → Represents playout playout.settings s
    → after.settings ≡ playout.settings → length after.slots.items ≡ playout.settings.window
    → AllEmpty after.slots.items → after.head ≡ playout.head → sequence < 2 ^ 16 → after.next ≡ Some sequence
    → after.reach ≡ 0 → after.given ≡ playout.given → after.filled ≡ playout.filled
    → Represents after playout.settings (after_beginning s sequence)
keeps-begun playout after s sequence k settings room empty head fits next reach given filled =
    grind (arith, common_steps)

-- a packet more leaves the number of the next one
next-kept : (was next first : Option ℕ) (placed : List PlacedPacket) (now : ℕ) (q : PlacedPacket)
    → IsNext was first placed now
    → next ≡ was → is_some first ≡ true → IsNext next first (placed ++ q ∷ []) now
next-kept was next None placed now q is e begun = cc
next-kept was next (Some first) placed now q is e begun = e ∙ is

-- a playout with a packet more
pub keeps-put : (playout after : SatopPlayout) (s : PlayoutState) (place p : ℕ) (slot : PacketSlot) (octets : List ℕ)
    → Represents playout playout.settings s → after.settings ≡ playout.settings
    → after.slots.items ≡ slice_set playout.slots.items p slot → after.head ≡ playout.head
    → after.next ≡ playout.next → after.reach ≡ max playout.reach (place + 1) → after.given ≡ playout.given
    → after.filled ≡ playout.filled → place < playout.settings.window
    → Wraps playout.head place playout.settings.window p → packet_in playout.settings.size slot ≡ Some octets
    → packet_at s.placed (s.now + place) ≡ None → is_some s.first ≡ true
    → Represents after playout.settings (with_packet s (s.now + place) octets)
keeps-put playout after s place p slot octets k settings slots head next reach given filled near at is free begun =
    let size = length-set playout.slots.items p slot in
    let room = k.room in
    let start = k.start in
    let more = reach-push s.placed (placed_at (s.now + place) octets) s.now in
    let far : suc (s.now + place) - s.now ≡ place + 1 = omega arith in
    record {
      settings_are = settings;
      room = ap length slots ∙ size ∙ room;
      start = omega arith;
      held = rw (slots, head) (holds-put playout.settings.size playout.settings.window playout.head s.now place p
          playout.slots.items s.placed slot octets k.held room near at is free);
      none = λ other h.
          packet_at-apart s.placed (placed_at (s.now + place) octets) other (λ e. omega (arith, e, near, h))
          ∙ k.none other h;
      next_is = next-kept playout.next after.next s.first s.placed s.now (placed_at (s.now + place) octets) k.next_is
          next begun;
      reach_is = omega arith;
      recent = ap (λ (b : Buffer ℕ). b.items) given ∙ k.recent;
      filled_is = filled ∙ k.filled_is;
    }

-- the number of the next packet after a play
next-moved : (next first : Option ℕ) (placed : List PlacedPacket) (now : ℕ) → IsNext next first placed now
    → IsNext (number_after next) first placed (now + 1)
next-moved next first placed now is = search rules

-- to keep the last of what was kept and more is to keep the last of all
keep-more : (n : ℕ) (xs ys : List ℕ) → keep_last n (keep_last n xs ++ ys) ≡ keep_last n (xs ++ ys)
keep-more n xs ys =
    let d = length xs - n in
    let before = take d xs in
    let kept = drop d xs in
    let many : length before ≡ d = length-take-le d xs (omega arith) in
    let whole : xs ++ ys ≡ before ++ (kept ++ ys) =
    ap (λ (zs : List ℕ). zs ++ ys) (sym (take-append-drop d xs)) ∙ append_assoc before kept ys in
    let size = length-drop d xs in
    let sum = length-append xs ys in
    let rest = length-append kept ys in
    let cut : length (xs ++ ys) - n ≡ length before + (length (kept ++ ys) - n) = omega arith in
    sym (grind (arith, drop-append-add before (kept ++ ys) (length (kept ++ ys) - n)))

-- a playout after a play
pub keeps-play : (playout after : SatopPlayout) (s : PlayoutState) (slot : PacketSlot)
    → Represents playout playout.settings s
    → after.settings ≡ playout.settings → after.slots.items ≡ slice_set playout.slots.items playout.head slot
    → packet_in playout.settings.size slot ≡ None → Wraps playout.head 1 playout.settings.window after.head
    → after.next ≡ number_after playout.next → after.reach ≡ playout.reach - 1
    → after.given ≡ buffer (keep_last playout.given.capacity (playout.given.items ++ octets_now playout.settings s))
    playout.given.capacity
    → after.filled ≡ min (filled_for (due_now s) playout.settings.size s.filled) 2048
    → Represents after playout.settings (after_play playout.settings s)
keeps-play playout after s slot k settings slots empty moved next reach given filled =
    let size = length-set playout.slots.items playout.head slot in
    let room = k.room in
    let start = k.start in
    let was = k.reach_is in
    let nearer = reach-next s.placed s.now in
    record {
      settings_are = settings;
      room = ap length slots ∙ size ∙ room;
      start = moved.0;
      held = rw slots (holds-next playout.settings.size playout.settings.window playout.head after.head s.now
          playout.slots.items s.placed slot k.held room start moved empty
          (k.none (s.now + playout.settings.window) (omega arith)));
      none = λ place h. k.none place (omega arith);
      next_is = rw next (next-moved playout.next s.first s.placed s.now k.next_is);
      reach_is = omega arith;
      recent = grind (arith, keep-more 512 s.given (octets_now playout.settings s));
      filled_is = filled;
    }

-- after a beginning the playout has the longer history
pub stands-begun : (playout after : SatopPlayout) (settings : Settings) (calls : List PlayoutCall) (sequence : ℕ)
    → HasHistory playout settings calls → after.settings ≡ playout.settings
    → length after.slots.items ≡ playout.settings.window → AllEmpty after.slots.items → after.head ≡ playout.head
    → sequence < 2 ^ 16 → after.next ≡ Some sequence → after.reach ≡ 0 → after.given ≡ playout.given
    → after.filled ≡ playout.filled → HasHistory after settings (calls ++ Begins sequence ∷ [])
unfolding HasHistory
stands-begun playout after settings calls sequence k is room empty head fits next reach given filled =
    search (rules, at_own, stream-push, keeps-begun)

-- .. and after a packet that is refused
pub stands-refused : (playout : SatopPlayout) (settings : Settings) (calls : List PlayoutCall) (sequence : ℕ)
    (octets : List ℕ) (fault : ArrivalFault) → HasHistory playout settings calls
    → refusal settings (stream settings calls) sequence octets ≡ Some fault
    → HasHistory playout settings (calls ++ Arrives sequence octets ∷ [])
unfolding HasHistory
stands-refused playout settings calls sequence octets fault k why = search (rules, stream-push, after-refused)

-- .. and after one that is accepted and put into its slot
pub stands-put : (playout after : SatopPlayout) (settings : Settings) (calls : List PlayoutCall) (sequence : ℕ)
    (octets : List ℕ) (place p : ℕ) (slot : PacketSlot) → HasHistory playout settings calls
    → ((s : PlayoutState) → Represents playout playout.settings s
    → (refusal playout.settings s sequence octets ≡ None) × (place ≡ ahead s sequence))
    → after.settings ≡ playout.settings → after.slots.items ≡ slice_set playout.slots.items p slot
    → after.head ≡ playout.head → after.next ≡ playout.next → after.reach ≡ max playout.reach (place + 1)
    → after.given ≡ playout.given → after.filled ≡ playout.filled → place < playout.settings.window
    → Wraps playout.head place playout.settings.window p → packet_in playout.settings.size slot ≡ Some octets
    → HasHistory after settings (calls ++ Arrives sequence octets ∷ [])
unfolding HasHistory
stands-put playout after settings calls sequence octets place p slot k told is slots head next reach given full near at
    put =
    at_own playout calls (λ (t : Settings). HasHistory after t (calls ++ Arrives sequence octets ∷ []))
    (λ own.
    let s = stream playout.settings calls in
    let why = told s own in
    let a = accepted playout.settings s sequence octets why.0 in
    let free : packet_at s.placed (s.now + place) ≡ None =
    ap (λ (n : ℕ). packet_at s.placed (s.now + n)) why.1 ∙ a.free in
    subst (λ (t : PlayoutState). Represents after playout.settings t)
    (sym (stream-push playout.settings calls (Arrives sequence octets)
    ∙ after-accepted playout.settings s sequence octets why.0
    ∙ ap (λ (n : ℕ). with_packet s (s.now + n) octets) (sym why.1)))
    (keeps-put playout after s place p slot octets own is slots head next reach given full near at put free a.begun))
    settings k

-- the packet whose turn it is, in the slot of the next one
due-in : (playout : SatopPlayout) (s : PlayoutState) (slot : PacketSlot) → Represents playout playout.settings s
    → slot ≡ get_or playout.slots.items playout.head slot → packet_in playout.settings.size slot ≡ due_now s
due-in playout s slot k is =
    grind (arith, slot-read playout.settings.size playout.slots.items playout.head slot is (omega arith))

-- the octets of a packet that is there, or those that replace it
either-octets : (o : Option (List ℕ)) (there : Bool) (room taken given fill : List ℕ) → there ≡ is_some o
    → taken ≡ octets_or_fill o room → given ≡ cond there taken fill → given ≡ octets_or_fill o fill
either-octets None there room taken given fill b t g = g ∙ ap (λ (v : Bool). cond v taken fill) b
either-octets (Some octets) there room taken given fill b t g = g ∙ ap (λ (v : Bool). cond v taken fill) b ∙ t

-- how many octets in a row are filled if a packet is there, or if not
either-filled : (o : Option (List ℕ)) (there : Bool) (size filled : ℕ) → there ≡ is_some o
    → cond there 0 (filled + size) ≡ filled_for o size filled
either-filled None there size filled b = ap (λ (v : Bool). cond v 0 (filled + size)) b
either-filled (Some octets) there size filled b = ap (λ (v : Bool). cond v 0 (filled + size)) b

-- What a play has given: whether the packet was in its slot, and its octets or those that replace it.
pub record Played (playout : SatopPlayout) (slot : PacketSlot) (there : Bool) (given : List ℕ)
    (filled : ℕ) : Type 0 where
  pub room : List ℕ
  pub taken : List ℕ
  pub read : slot ≡ get_or playout.slots.items playout.head slot
  pub size : length room ≡ playout.settings.size
  pub taken_size : length taken ≡ length room
  pub told : there ≡ is_some (packet_in (length room) slot)
  pub octets : taken ≡ octets_or_fill (packet_in (length room) slot) room
  pub replaced : (all : List ℕ) (count : ℕ) → playout.given.items ≡ keep_last 512 all → playout.filled ≡ min count 2048
      → given ≡ cond there taken (fill_of playout.settings.fill (length taken) all count)
  pub filled_is : (count : ℕ) → playout.filled ≡ min count 2048
      → filled ≡ min (cond there 0 (count + length taken)) 2048

-- whether the packet was there
played-there : (playout : SatopPlayout) (slot : PacketSlot) (there : Bool) (given : List ℕ) (filled : ℕ)
    (s : PlayoutState)
    → Played playout slot there given filled → Represents playout playout.settings s → there ≡ is_some (due_now s)
played-there playout slot there given filled s p k =
    p.told ∙ ap (λ (n : ℕ). is_some (packet_in n slot)) p.size ∙ ap is_some (due-in playout s slot k p.read)

-- .. and the octets of the play
played-octets : (playout : SatopPlayout) (slot : PacketSlot) (there : Bool) (given : List ℕ) (filled : ℕ)
    (s : PlayoutState)
    → Played playout slot there given filled → Represents playout playout.settings s
    → given ≡ octets_now playout.settings s
played-octets playout slot there given filled s p k = search (rules, due-in, either-octets, played-there)

-- what a play answers
pub there-answer : (playout : SatopPlayout) (settings : Settings) (calls : List PlayoutCall) (slot : PacketSlot)
    (there : Bool)
    (given : List ℕ) (filled : ℕ) → Played playout slot there given filled → HasHistory playout settings calls
    → there ≡ is_there settings calls
unfolding HasHistory is_there
there-answer playout settings calls slot there given filled p k =
    at_own playout calls (λ (t : Settings). there ≡ is_there t calls)
    (λ own. played-there playout slot there given filled (stream playout.settings calls) p own) settings k

-- what a play gives
pub octets-answer : (playout : SatopPlayout) (settings : Settings) (calls : List PlayoutCall) (slot : PacketSlot)
    (there : Bool)
    (given : List ℕ) (filled : ℕ) → Played playout slot there given filled → HasHistory playout settings calls
    → given ≡ play_octets settings calls
unfolding HasHistory play_octets
octets-answer playout settings calls slot there given filled p k =
    at_own playout calls (λ (t : Settings). given ≡ play_octets t calls)
    (λ own. played-octets playout slot there given filled (stream playout.settings calls) p own) settings k

-- after a play the playout has the longer history
pub stands-play : (playout after : SatopPlayout) (settings : Settings) (calls : List PlayoutCall)
    (slot emptied : PacketSlot)
    (there : Bool) (given : List ℕ) (filled : ℕ) → Played playout slot there given filled
    → HasHistory playout settings calls → after.settings ≡ playout.settings
    → after.slots.items ≡ slice_set playout.slots.items playout.head emptied
    → ((size : ℕ) → packet_in size emptied ≡ None) → Wraps playout.head 1 playout.settings.window after.head
    → after.next ≡ number_after playout.next → after.reach ≡ playout.reach - 1
    → after.given ≡ buffer (keep_last playout.given.capacity (playout.given.items ++ given)) playout.given.capacity
    → after.filled ≡ filled → HasHistory after settings (calls ++ Plays ∷ [])
unfolding HasHistory
stands-play playout after settings calls slot emptied there given filled p k is slots empty moved next reach kept full =
    at_own playout calls (λ (t : Settings). HasHistory after t (calls ++ Plays ∷ []))
    (λ own.
    let s = stream playout.settings calls in
    let octets = played-octets playout slot there given filled s p own in
    let here = played-there playout slot there given filled s p own in
    subst (λ (t : PlayoutState). Represents after playout.settings t) (sym (stream-push playout.settings calls Plays))
    (keeps-play playout after s emptied own is slots (empty playout.settings.size) moved next reach
    (kept ∙ ap (λ (xs : List ℕ). buffer (keep_last playout.given.capacity (playout.given.items ++ xs))
    playout.given.capacity) octets)
    (grind (arith, either-filled (due_now s) there playout.settings.size s.filled here))))
    settings k
