-- A receiver of the slots of a device, one octet more.
use Rattle.std.proofs.lemmas.Grind.{common_steps}
use Rattle.std.proofs.Common.{◌≡◌, ◌+◌, ◌%◌, ◌<◌, ◌++◌, ◌∷◌, ◌∙◌, ℕ, List, [], length, take, get_or, sym, ap, arith}
use Rattle.std.proofs.Common.{length-append}
use Rattle.e1_g711.specs.declared.Law.{Law}
use Rattle.e1_g711.specs.Law.{idle_code}
use Rattle.g704_slots.specs.Mover.{HasHistory}
use Rattle.g704_slots.specs.Shown.{slots_reply}
use Rattle.g704_framing.specs.Replies.{replies_after}
use Rattle.g704_slots.specs.declared.mover.SlotMover.{SlotMover}
use Rattle.trunk_filters.specs.Frames.{first_of, whole_trunk, with_slot_0}
use Rattle.trunk_filters.specs.Receiving.{HasMadeWhole, begun_by}
use Rattle.trunk_filters.specs.declared.receiving.SlotReceiver.{SlotReceiver}
use Rattle.trunk_filters.proofs.Frames.{whole-next}

-- Before the first octet.
pub made-none : (receiver : SlotReceiver) (law : Law) (place first : ℕ) → HasHistory receiver.mover first []
    → first ≡ first_of place → receiver.mover.idle ≡ idle_code law → receiver.place ≡ place % 64
    → HasMadeWhole receiver law place [] []
unfolding with_slot_0 replies_after
made-none receiver law place first history begins idle at = grind (arith, history)

-- The octet that is shown comes behind slot 0, if a frame begins.
pub made-next : (a b : SlotReceiver) (mover : SlotMover) (law : Law) (place : ℕ) (taken made : List ℕ)
    (octet shown at : ℕ) → HasMadeWhole a law place taken made → mover ≡ a.mover
    → ((first : ℕ) (history : List ℕ) → HasHistory mover first history
    → shown ≡ slots_reply mover.idle first history octet)
    → ((first : ℕ) (history : List ℕ) → HasHistory mover first history
    → HasHistory b.mover first (history ++ octet ∷ []))
    → b.mover.idle ≡ mover.idle → at % 64 ≡ (a.place + length (begun_by a.place)) % 64 → b.place ≡ (at + 1) % 64
    → HasMadeWhole b law place (taken ++ octet ∷ []) (made ++ (begun_by a.place ++ shown ∷ []))
made-next a b mover law place taken made octet shown at h same reply stands idle behind next = record {
  history = stands (first_of place) taken history;
  idle = silent;
  place_is = omega (
    arith,
    next,
    behind,
    h.place_is,
    length-append made added,
    length-append (begun_by a.place) (shown ∷ []),
  );
  made_are = ap (λ xs. xs ++ added) h.made_are
      ∙ ap (λ y. whole_trunk law place taken ++ (begun_by a.place ++ y ∷ []))
      (reply (first_of place) taken history
      ∙ ap (λ i. slots_reply i (first_of place) taken octet) (ap (λ (m : SlotMover). m.idle) same ∙ h.idle))
      ∙ sym (whole-next law place a.place taken octet
      (h.place_is ∙ ap (λ xs. (place + length xs) % 64) h.made_are));
}
  where
    added : List ℕ
    added = begun_by a.place ++ shown ∷ []

    history : HasHistory mover (first_of place) taken
    history = rw same h.history

    silent : b.mover.idle ≡ idle_code law
    silent = idle ∙ ap (λ (m : SlotMover). m.idle) same ∙ h.idle

-- The next octet of a slice is taken.
pub taken-next : (taken octets : List ℕ) (i : ℕ) → i < length octets
    → (taken ++ take i octets) ++ get_or octets i 0 ∷ [] ≡ taken ++ take (i + 1) octets
taken-next taken octets i lt = grind (arith, common_steps)

-- The same octets.
pub made-same : (receiver : SlotReceiver) (law : Law) (place : ℕ) (taken taken' made made' : List ℕ) → taken ≡ taken'
    → made ≡ made' → HasMadeWhole receiver law place taken made → HasMadeWhole receiver law place taken' made'
made-same receiver law place taken taken' made made' e f h = rw (← e, ← f) h
