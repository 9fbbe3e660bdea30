-- Octets of a slice that are coded in place, one after another.
use Rattle.std.proofs.Common.{◌≡◌, ◌+◌, ◌<◌, ◌≤◌, ◌++◌, ◌∷◌, ◌∙◌, ℕ, suc, List, [], length, take, drop, get_or, arith}
use Rattle.std.proofs.Common.{slice_set, refl, sym, ap, drop-drop}
use Rattle.std.proofs.Math.Seq.{take-suc, take-suc-set}
use Rattle.std.proofs.lemmas.List.{drop-set-lt, get_or-drop, length-set, take_all}
use Rattle.e1_g711.specs.declared.Law.{Law}
use Rattle.e1_g711.specs.Samples.{expand}
use Rattle.g726_quant.specs.Tables.{RateTables}
use Rattle.g726_codec.specs.Codec.{Variables, word_for, stepped, words_from, state_after}
use Rattle.g726_codec.proofs.Histories.{words_from_more, state_after_more}

-- what is not yet coded stays
pub rest_kept : (now old : List ℕ) (i word : ℕ) → drop i now ≡ drop i old
    → drop (i + 1) (slice_set now i word) ≡ drop (i + 1) old
rest_kept now old i word e =
    drop-set-lt (i + 1) now i word (omega arith) ∙ sym (drop-drop 1 i now) ∙ ap (drop 1) e ∙ drop-drop 1 i old

-- the next octet to code is unchanged
pub same_octet : (now old : List ℕ) (i : ℕ) → drop i now ≡ drop i old → get_or now i 0 ≡ get_or old i 0
same_octet now old i e =
    let none : i + 0 ≡ i = omega arith in
    ap (λ (n : ℕ). get_or now n 0) (sym none) ∙ sym (get_or-drop i now 0 0) ∙ ap (λ (xs : List ℕ). get_or xs 0 0) e
    ∙ get_or-drop i old 0 0
    ∙ ap (λ (n : ℕ). get_or old n 0) none

-- an encoder went from one state to another by the octets of a slice before a place: their words are there now
pub record IsCodedTo (r : RateTables) (law : Law) (first s : Variables) (old now : List ℕ) (i : ℕ) : Type 0 where
  pub len : length now ≡ length old
  pub rest : drop i now ≡ drop i old
  pub words : take i now ≡ words_from r law first (take i old)
  pub state : s ≡ state_after r first (take i now)

-- one octet more is coded
pub coded_one_more : (r : RateTables) (law : Law) (first s s' : Variables) (old now : List ℕ) (i word : ℕ)
    → IsCodedTo r law first s old now i → i < length now
    → word ≡ word_for r s (expand law (get_or now i 0)) → s' ≡ stepped r s word
    → IsCodedTo r law first s' old (slice_set now i word) (i + 1)
coded_one_more r law first s s' old now i word so within word_is moved =
    let next : i + 1 ≡ suc i = omega arith in
    let now_more : take (i + 1) (slice_set now i word) ≡ take i now ++ word ∷ [] =
    ap (λ (n : ℕ). take n (slice_set now i word)) next ∙ take-suc-set now i word within in
    let old_more : take (i + 1) old ≡ take i old ++ get_or now i 0 ∷ [] =
    ap (λ (n : ℕ). take n old) next ∙ take-suc old i 0 (omega (arith, so.len))
    ∙ ap (λ (o : ℕ). take i old ++ o ∷ []) (sym (same_octet now old i so.rest)) in
    let words = words_from_more r law first (take i old) (get_or now i 0 ∷ []) in
    record {
      len = length-set now i word ∙ so.len;
      rest = rest_kept now old i word so.rest;
      words = rw (now_more, old_more, words, ← so.words, ← so.state, ← word_is) refl;
      state = rw (now_more, state_after_more r first (take i now) (word ∷ []), ← so.state) moved;
    }

-- all of them are
pub all_coded : (r : RateTables) (law : Law) (first s : Variables) (old now : List ℕ) (i : ℕ)
    → IsCodedTo r law first s old now i → length now ≤ i
    → (now ≡ words_from r law first old) × (s ≡ state_after r first now)
all_coded r law first s old now i so end =
    let now_all : take i now ≡ now = take_all i now (omega (arith, so.len)) in
    let old_all : take i old ≡ old = take_all i old (omega (arith, so.len)) in
    (rw (now_all, old_all) at so.words, rw now_all at so.state)
