-- Places as octets, and back.
use Rattle.std.proofs.Common.{rules, ◌≡◌, ℕ, ◌-◌, ◌≤◌, ◌<◌, List, length, Option, Some, None, arith, slice_index_or}
use Rattle.std.proofs.Common.{All, IfSome}
use Rattle.std.proofs.lemmas.Grind.{common_steps}
use Rattle.std.proofs.Props.{props}
use mathlib.Core.HLevel.{is_prop→PathP}
use Rattle.rtp_playout.specs.declared.playout.Playout.{Playout}
use Rattle.circular_buffer.specs.Buffer.{Buffer, buffer, keep_last}
use Rattle.rtp_playout.specs.Saved.{saved_place}
use Rattle.saved_octets.proofs.Items.{Tells}

-- the octets of a place and of what is behind it determine both
pub place-tells : (P : Option ℕ → Type 0) → Tells P saved_place
place-tells P h1 h2 r s p q e = search rules

-- no more items than there is room for are all kept
pub keep-all : (n : ℕ) (xs : List (Option ℕ)) → length xs ≤ n → keep_last n xs ≡ xs
keep-all n xs less = grind (arith, common_steps)

-- a buffer by its items and its capacity
pub is-buffer : (b : Buffer (Option ℕ)) (xs : List (Option ℕ)) (n : ℕ) → b.items ≡ xs → b.capacity ≡ n
    → b ≡ buffer xs n
is-buffer b xs n e f = grind (arith, common_steps)

-- a place within the list is the same whatever the default beyond it
within-same : (items : List (Option ℕ)) (k : ℕ) (d : Option ℕ) → k < length items
    → slice_index_or items k d ≡ slice_index_or items k None
within-same items k d less = grind (arith, common_steps)

-- a word, if there is one, is below the bound
if-below : (bound : ℕ) (place : Option ℕ) → ((word : ℕ) → place ≡ Some word → word < bound)
    → IfSome place (λ word. word < bound)
if-below bound place below = search rules

-- places whose words are below a bound, as a list of them
pub each-below : (bound : ℕ) (items : List (Option ℕ))
    → ((k word : ℕ) → slice_index_or items k None ≡ Some word → word < bound)
    → All (λ place. IfSome place (λ word. word < bound)) items
each-below bound items below = search (rules, if-below, within-same)

-- a playout by its parts
pub same-playout : (one other : Playout) → one.stream ≡ other.stream → one.window ≡ other.window
    → one.prefill ≡ other.prefill → one ≡ other
same-playout one other stream window prefill = λ i. record {
  window = window i;
  prefill = prefill i;
  stream = stream i;
  memory = is_prop→PathP (λ j. (window j).capacity ≡ 3200) (λ j. Prim.hlevel props) one.memory other.memory i;
}
