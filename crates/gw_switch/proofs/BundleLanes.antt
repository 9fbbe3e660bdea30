-- Circuits in the lanes of a bundle.
use Rattle.gw_switch.proofs.Common.{◌≡◌, ◌≢◌, ◌<◌, ℕ, List, [], ◌∷◌, ◌++◌, length, inl, inr, arith, slice_index, rules}
use Rattle.gw_switch.proofs.Common.{get_or-append_seam, cases_eq, get_or_append_left, BoxedCircuit}
use Rattle.std.proofs.Common.{length-append}
use Rattle.std.specs.Prelude.{slice_index_or}
use Rattle.g726_codec.specs.Kinds.{rate_tables, words_by, octets_by, after_by}
use Rattle.g726_lanes.specs.Bundles.{lane_octets, lane_words, AllFit}
use Rattle.g726_lanes.specs.Lanes.{EachLane}
use Rattle.g726_lanes.specs.States.{variables}
use Rattle.g726_lanes.specs.declared.bundle.Bundle.{Bundle}
use Rattle.gw_circuit.specs.Coder.{CodedPacket}
use Rattle.gw_switch.specs.Together.{EachPlace, AreLoaded, AreCoded, AreDecoders, AreDecoded}

-- what holds of each place, once it holds of one
pub each-goes : {P Q : CodedPacket → Bundle → ℕ → Type 0} {circuits : List BoxedCircuit} {places : List ℕ}
    {b b' : Bundle} → EachPlace P circuits places b
    → ((c : CodedPacket) (j : ℕ) → j < length places → j < 8 → P c b j → Q c b' j) → EachPlace Q circuits places b'
each-goes loaded goes =
    let few = loaded.few in
    grind arith

-- with one more place the others stay
place-before : (places : List ℕ) (number j : ℕ) → j < length places
    → slice_index (places ++ number ∷ []) j ≡ slice_index places j
place-before places number j h = get_or_append_left places (number ∷ []) 0 j h

-- and the last is the new one
place-last : (places : List ℕ) (number : ℕ) → slice_index (places ++ number ∷ []) (length places) ≡ number
place-last places number = get_or-append_seam places number [] 0

-- and what holds of one more holds of each
pub one-more : {P : CodedPacket → Bundle → ℕ → Type 0} (circuits : List BoxedCircuit) (places : List ℕ) (number : ℕ)
    (b : Bundle) → EachPlace P circuits places b → length places < 8 → number < 30
    → ((d : BoxedCircuit) → P (slice_index_or circuits number d).circuit.speech.coder b (length places))
    → EachPlace P circuits (places ++ number ∷ []) b
one-more circuits places number b loaded few low own =
    let more = length-append places (number ∷ []) in
    record {
      few = omega (arith, more, few);
      within = λ j h. elim (cases_eq j (length places)) [
        | inl same ↦ rw (same, place-last places number) low
        | inr other ↦ rw (place-before places number j (omega (arith, more, h, other)))
            (loaded.within j (omega (arith, more, h, other)))
      ];
      each = λ j d h. elim (cases_eq j (length places)) [
        | inl same ↦ rw (same, place-last places number) (own d)
        | inr other ↦ rw (place-before places number j (omega (arith, more, h, other)))
            (loaded.each j d (omega (arith, more, h, other)))
      ];
    }

-- where the next lane is written the others stay loaded
pub still-loaded : {circuits : List BoxedCircuit} (places : List ℕ) {b b' : Bundle} → AreLoaded circuits places b
    → (b'.law ≡ b.law) × (b'.kind ≡ b.kind)
    → EachLane (λ j. j ≢ length places → variables b'.lanes j ≡ variables b.lanes j)
    → EachLane (λ j. j ≢ length places → lane_octets b' j ≡ lane_octets b j) → AreLoaded circuits places b'
still-loaded places loaded kept states frames = search (rules, each-goes)

-- once the lanes are coded each circuit's work is done
pub all-coded : {circuits : List BoxedCircuit} {places : List ℕ} {b b' : Bundle} → AreLoaded circuits places b
    → EachLane (λ k. lane_octets b' k
    ≡ words_by (rate_tables b.kind) b.law (variables b.lanes k) (lane_octets b k))
    → EachLane (λ k. variables b'.lanes k
    ≡ after_by (rate_tables b.kind) (variables b.lanes k) (lane_octets b' k)) → AreCoded circuits places b'
all-coded loaded words states = search (rules, each-goes)

-- where the next lane is written the others keep their decoders
pub still-decoders : {circuits : List BoxedCircuit} (places : List ℕ) {b b' : Bundle} → AreDecoders circuits places b
    → (b'.law ≡ b.law) × (b'.kind ≡ b.kind) → (AllFit b → AllFit b')
    → EachLane (λ j. j ≢ length places → variables b'.lanes j ≡ variables b.lanes j) → AreDecoders circuits places b'
still-decoders places decoders kept fit states = search (rules, each-goes)

-- once the words are decoded each circuit has its next ones
pub all-decoded : {circuits : List BoxedCircuit} {places : List ℕ} {b b' : Bundle} → AreDecoders circuits places b
    → EachLane (λ k. lane_octets b' k
    ≡ octets_by (rate_tables b.kind) b.law (variables b.lanes k) (lane_words b' k))
    → EachLane (λ k. variables b'.lanes k
    ≡ after_by (rate_tables b.kind) (variables b.lanes k) (lane_words b' k))
    → EachLane (λ k. lane_words b' k ≡ lane_octets b k) → AreDecoded circuits places b'
all-decoded decoders octets states words =
    each-goes decoders.loaded (λ c j within low h. record {
      fit = rw (h.kind, words j low) (decoders.fit j low);
      octets = rw (h.kind, h.law, h.decoder) (octets j low);
      state = rw (h.kind, h.decoder) (states j low);
    })
