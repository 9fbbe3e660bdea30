-- Frames of eight circuits that are coded one after another, by the octets and words of one circuit.
use Rattle.g726_lanes.proofs.Common.{◌≡◌, ◌<◌, ◌+◌, ◌++◌, ◌∷◌, ◌∙◌, ℕ, suc, List, [], length, take, drop, get_or, arith}
use Rattle.g726_lanes.proofs.Common.{slice_set, refl, sym, ap, ◌^◌, All, replicate, pow_pos, length-set, length-take}
use Rattle.g726_lanes.proofs.Common.{Law, RateTables, Variables, sync, rest_kept, same_octet, row_at}
use Rattle.std.proofs.lemmas.List.Elements.{All-replicate, All-take}
use Rattle.std.proofs.Math.Seq.{take-suc, take-suc-set}
use Rattle.std.proofs.lemmas.List.{get_or-replicate, get_or-take}
use Rattle.g726_codec.specs.Codec as codec
use Rattle.g726_codec.proofs.Histories.{octets_from_more, state_after_more}

-- what holds of the first numbers holds of each of them
pub fits-at : (P : ℕ → Type 0) (numbers : List ℕ) (count i : ℕ) → All P (take count numbers) → i < count
    → i < length numbers → P (get_or numbers i 0)
fits-at P numbers count i all few within =
    rw (← get_or-take count numbers i 0 few) (all i 0 (rw length-take (omega (arith, few, within))))

-- a decoder went from one state to another by the words of a list before a place: their octets are there now
pub record IsDecodedTo (r : RateTables) (law : Law) (first s : Variables) (old now : List ℕ) (i : ℕ) : Type 0 where
  pub len : length now ≡ length old
  pub rest : drop i now ≡ drop i old
  pub octets : take i now ≡ codec.octets_from r law first (take i old)
  pub state : s ≡ codec.state_after r first (take i old)

-- one word more is decoded
pub decoded_one_more : (r : RateTables) (law : Law) (first s s' : Variables) (old now : List ℕ) (i octet : ℕ)
    → IsDecodedTo r law first s old now i → i < length now
    → octet ≡ sync r law s (get_or now i 0) → s' ≡ codec.stepped r s (get_or now i 0)
    → IsDecodedTo r law first s' old (slice_set now i octet) (i + 1)
decoded_one_more r law first s s' old now i octet so within octet_is moved =
    let next : i + 1 ≡ suc i = omega arith in
    let now_more : take (i + 1) (slice_set now i octet) ≡ take i now ++ octet ∷ [] =
    ap (λ (n : ℕ). take n (slice_set now i octet)) next ∙ take-suc-set now i octet within in
    let old_more : take (i + 1) old ≡ take i old ++ get_or now i 0 ∷ [] =
    ap (λ (n : ℕ). take n old) next ∙ take-suc old i 0 (omega (arith, so.len))
    ∙ ap (λ (o : ℕ). take i old ++ o ∷ []) (sym (same_octet now old i so.rest)) in
    let octets = octets_from_more r law first (take i old) (get_or now i 0 ∷ []) in
    record {
      len = length-set now i octet ∙ so.len;
      rest = rest_kept now old i octet so.rest;
      octets = rw (now_more, old_more, octets, ← so.octets, ← so.state, ← octet_is) refl;
      state = rw (old_more, state_after_more r first (take i old) (get_or now i 0 ∷ []), ← so.state) moved;
    }

-- numbers that are 0 are words of each number of bits
pub zeros-fit : (bits count k : ℕ) → k < 8
    → All (λ word. word < 2 ^ bits) (take count (row_at (replicate 8 (replicate 32 0)) k))
zeros-fit bits count k h =
    let zeros : row_at (replicate 8 (replicate 32 0)) k ≡ replicate 32 0 = get_or-replicate 8 k (replicate 32 0) [] h in
    rw zeros (All-take (λ word. word < 2 ^ bits) count (replicate 32 0)
    (All-replicate (λ word. word < 2 ^ bits) 32 0 (pow_pos bits)))
