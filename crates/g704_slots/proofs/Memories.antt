-- The octets that are kept.
use Rattle.std.proofs.Common.{rules, ◌≡◌, ℕ, ◌+◌, ◌-◌, ◌*◌, ◌<◌, ◌≤◌, ◌%◌, List, [], ◌∷◌, ◌++◌, length, sym, ap, ◌∙◌}
use Rattle.std.proofs.Common.{true, arith, inl, inr}
use Rattle.std.specs.Prelude.{slice_index, slice_set}
use Rattle.g704_cas.specs.Search.{is_mfas}
use Rattle.g704_slots.specs.Search.{is_right, is_whole}
use Rattle.g704_slots.proofs.Wholes.{parts-whole}
use Rattle.std.proofs.lemmas.Bool.{cases_eq, cases_lt}
use Rattle.std.proofs.lemmas.List.{length_push, get_or_append_left, get_or_push, get_or-set_same, get_or-set_other}

-- with one more
pub kept-octet : (memory history : List ℕ) (octet at : ℕ) → length memory ≡ 2048 → at ≡ length history % 2048
    → ((position : ℕ) → position < length history → length history ≤ position + 2048
    → slice_index memory (position % 2048) ≡ slice_index history position)
    → (position : ℕ) → position < length (history ++ octet ∷ []) → length (history ++ octet ∷ []) ≤ position + 2048
    → slice_index (slice_set memory at octet) (position % 2048) ≡ slice_index (history ++ octet ∷ []) position
kept-octet memory c x at room is kept p lt le =
    search (rules, cases_eq, get_or-set_same, get_or_push, length_push, get_or-set_other, get_or_append_left)

-- the octet of slot 16 in a frame of three multiframes that end with the last octet
pub kept-frame : (memory history : List ℕ) (octet at start frame : ℕ) → at % 2048 ≡ length history % 2048
    → ((position : ℕ) → position < length history → length history ≤ position + 2048
    → slice_index memory (position % 2048) ≡ slice_index history position)
    → 1488 ≤ length history → start ≡ (at + 560) % 65536 → frame < 48
    → slice_index memory ((start + 31 * frame) % 65536 % 2048)
    ≡ slice_index (history ++ octet ∷ []) (length history - 1488 + 31 * frame)
kept-frame memory c x at start f is kept long from lt = search (rules, get_or_append_left)

-- and the signal behind them
pub right-last : (history : List ℕ) (octet : ℕ) → 1488 ≤ length history
    → is_right 48 (slice_index (history ++ octet ∷ []) (length history - 1488 + 31 * 48)) ≡ is_mfas octet
right-last c x long = ap is_mfas (get_or_push c x 0 (length c - 1488 + 31 * 48) (omega arith))

-- so three multiframes are whole if what is kept says so
pub kept-whole : (memory history : List ℕ) (octet at start : ℕ) → at % 2048 ≡ length history % 2048
    → ((position : ℕ) → position < length history → length history ≤ position + 2048
    → slice_index memory (position % 2048) ≡ slice_index history position)
    → 1488 ≤ length history → start ≡ (at + 560) % 65536 → is_mfas octet ≡ true
    → ((frame : ℕ) → frame < 48 → is_right frame (slice_index memory ((start + 31 * frame) % 65536 % 2048)) ≡ true)
    → is_whole (history ++ octet ∷ []) (length history - 1488) ≡ true
kept-whole memory c x at start is kept long from signal right =
    parts-whole (c ++ x ∷ []) (length c - 1488) (let l = length_push c x in omega arith) (λ f lt. elim (cases_lt f 48) [
      | inl less ↦
          ap (is_right f) (sym (kept-frame memory c x at start f is kept long from less)) ∙ right f less
      | inr ge ↦
          let e : f ≡ 48 = omega arith in
          ap (λ n. is_right n (slice_index (c ++ x ∷ []) (length c - 1488 + 31 * n))) e ∙ right-last c x long ∙ signal
    ])
