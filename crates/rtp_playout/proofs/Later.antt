-- The answers to takes before which there is no offer.
use Rattle.std.proofs.Common.{rules, ◌≡◌, ◌+◌, ◌<◌, ℕ, zero, suc, List, [], ◌∷◌, Option, Some, None, refl, ap, ◌∙◌}
use Rattle.std.proofs.Common.{arith, fold, replicate, All, length, slice_get, slice_index_or}
use Rattle.std.specs.Prelude.{slice_index}
use Rattle.std.specs.Option.{option_flatten}
use Rattle.std.proofs.lemmas.List.Sums.{fold-append}
use Rattle.std.proofs.lemmas.List.Elements.{All-from_get_or}
use Rattle.rtp_playout.specs.declared.playout.Playout.{Playout}
use Rattle.rtp_playout.specs.Calls.{PlayoutCall, Takes}
use Rattle.rtp_playout.specs.Due.{PlacedOffer, word_due, after_call, due, take_answer, later_answer}
use Rattle.rtp_playout.specs.Standing.{HasHistory, IsBelow}

-- the word that is due after takes is that of a later place
after-takes : (prefill : ℕ) (placed : List PlacedOffer) (now k : ℕ)
    → (let t = fold (after_call prefill) (record { placed = placed; now = now }) (replicate k Takes) in
    word_due t.placed t.now) ≡ word_due placed (now + k)
after-takes prefill placed now zero = let e : now ≡ now + 0 = omega arith in ap (word_due placed) e
after-takes prefill [] now (suc k) = after-takes prefill [] now k
after-takes prefill (p ∷ placed) now (suc k) = grind (arith, after-takes prefill (p ∷ placed) (now + 1) k)

-- so the answer is what the later place holds
pub later-held : (playout : Playout) (prefill : ℕ) (calls : List PlayoutCall) (k : ℕ)
    → HasHistory playout prefill calls
    → later_answer prefill calls k ≡ slice_index_or playout.window.items k None
unfolding later_answer take_answer due
later-held playout prefill calls k h = search (rules, fold-append, after-takes)

-- what is got of a place, as what it holds
pub got-is-held : (items : List (Option ℕ)) (i : ℕ) → option_flatten (slice_get items i) ≡ slice_index_or items i None
got-is-held [] i = refl
got-is-held (x ∷ items) zero = refl
got-is-held (x ∷ items) (suc i) = got-is-held items i

-- the words of the first places are the next answers
pub words-later : (playout : Playout) (prefill : ℕ) (calls : List PlayoutCall) (words : List ℕ)
    → HasHistory playout prefill calls
    → ((k : ℕ) → k < length words → slice_index_or playout.window.items k None ≡ Some (slice_index words k))
    → (k : ℕ) → k < length words → later_answer prefill calls k ≡ Some (slice_index words k)
words-later playout prefill calls words h held k within = later-held playout prefill calls k h ∙ held k within

-- if one of them holds nothing, so does its take
pub none-later : (playout : Playout) (prefill : ℕ) (calls : List PlayoutCall) (words : List ℕ)
    → HasHistory playout prefill calls
    → (k : ℕ) × (k < length words) × (slice_index_or playout.window.items k None ≡ None)
    → (k : ℕ) × (k < length words) × (later_answer prefill calls k ≡ None)
none-later playout prefill calls words h (k, within, none) = grind (arith, later-held playout prefill calls k h)

-- each of these words is below a bound, if the queued ones are
pub words-below : (playout : Playout) (bound : ℕ) (words : List ℕ) → IsBelow bound playout
    → ((k : ℕ) → k < length words → slice_index_or playout.window.items k None ≡ Some (slice_index words k))
    → All (λ word. word < bound) words
words-below playout bound words below held =
    All-from_get_or (λ word. word < bound) words 0
    (λ i within. below.each i (slice_index words i) (held i within))
