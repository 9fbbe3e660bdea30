-- Decoders that are ahead of the words that were played.
use Rattle.gw_circuit.proofs.Common.{◌≡◌, ◌≤◌, ◌<◌, ◌+◌, ℕ, List, [], ◌∷◌, length, take, refl, sym, ap, ◌∙◌, arith}
use Rattle.gw_circuit.proofs.Common.{slice_index, take_all, Law, Variables, CodecKind, CodecState, rate_tables}
use Rattle.gw_circuit.proofs.Common.{octet_by, after_by, after_decoding, DecodersContinue}
use Rattle.std.proofs.Common.{inl, inr}
use Rattle.std.proofs.lemmas.Bool.{lt-ltb, le-ltb, cases_lt}
use Rattle.gw_circuit.specs.Ahead.{as_played, IsAhead}

-- decoders continue what they decoded
abbrev pub Continue : Type 0
Continue = (kind : CodecKind) (law : Law) (s : Variables) → DecodersContinue (rate_tables kind) law s

-- while words are left, the decoder is that after the played ones
pub some-left : (codec : CodecState) (base : Variables) (words : List ℕ) (played : ℕ) → played < length words
    → as_played codec base words played
    ≡ record codec { decoder = after_by (rate_tables codec.kind) base (take played words) }
some-left codec base words played left = cc (lt-ltb played (length words) left)

-- once none is left, nothing is ahead
pub none-left : (codec : CodecState) (base : Variables) (words : List ℕ) (played : ℕ) → length words ≤ played
    → as_played codec base words played ≡ codec
none-left codec base words played all = cc (le-ltb played (length words) all)

-- the octet that is kept of the next word is its octet
pub kept-octet : Continue → (codec : CodecState) (base : Variables) (words octets : List ℕ) (played word : ℕ)
    → IsAhead codec base words octets → played < length words → slice_index words played ≡ word
    → slice_index octets played
    ≡ octet_by (rate_tables codec.kind) codec.law (as_played codec base words played).decoder word
kept-octet continue codec base words octets played word ahead left same =
    let t = rate_tables codec.kind in
    let now : (as_played codec base words played).decoder ≡ after_by t base (take played words) =
    ap (λ (c : CodecState). c.decoder) (some-left codec base words played left) in
    ap (λ (os : List ℕ). slice_index os played) ahead.decoded
    ∙ (continue codec.kind codec.law base).octets words played left
    ∙ rw (now, same) refl

-- and the decoder behind it is that after one word more
pub one-more-played : Continue → (codec : CodecState) (base : Variables) (words octets : List ℕ) (played word : ℕ)
    → IsAhead codec base words octets → played < length words → slice_index words played ≡ word
    → as_played codec base words (played + 1) ≡ after_decoding (as_played codec base words played) (word ∷ [])
one-more-played continue codec base words octets played word ahead left same =
    let t = rate_tables codec.kind in
    let more : after_by t base (take (played + 1) words)
    ≡ after_by t (after_by t base (take played words)) (word ∷ []) =
    (continue codec.kind codec.law base).states words played left
    ∙ ap (λ (w : ℕ). after_by t (after_by t base (take played words)) (w ∷ [])) same in
    let now = some-left codec base words played left in
    let then : as_played codec base words (played + 1)
    ≡ record codec { decoder = after_by t base (take (played + 1) words) } =
    elim (cases_lt (played + 1) (length words)) [
      | inl some ↦ some-left codec base words (played + 1) some
      | inr none ↦ none-left codec base words (played + 1) none
          ∙ ap (λ (s : Variables). record codec { decoder = s }) (ahead.decoder
          ∙ ap (after_by t base) (sym (take_all (played + 1) words none)))
    ] in
    grind arith

-- a decoder that begins from a state, before the first of its words
pub none-decoded : Continue → (codec : CodecState) (base start : Variables) → start ≡ base
    → record codec { decoder = start } ≡ record codec { decoder = after_by (rate_tables codec.kind) base [] }
none-decoded continue codec base start same =
    ap (λ (s : Variables). record codec { decoder = s }) (same ∙ sym (continue codec.kind codec.law base).none)

-- and behind one word more
pub one-more-decoded : Continue → (codec now : CodecState) (base : Variables) (words : List ℕ) (i : ℕ)
    → now ≡ record codec { decoder = after_by (rate_tables codec.kind) base (take i words) } → i < length words
    → after_decoding now (slice_index words i ∷ [])
    ≡ record codec { decoder = after_by (rate_tables codec.kind) base (take (i + 1) words) }
one-more-decoded continue codec now base words i is within =
    ap (λ (c : CodecState). after_decoding c (slice_index words i ∷ [])) is
    ∙ ap (λ (s : Variables). record codec { decoder = s })
    (sym ((continue codec.kind codec.law base).states words i within))

-- and behind the last
pub all-decoded : (codec now : CodecState) (base : Variables) (words : List ℕ) (i : ℕ)
    → now ≡ record codec { decoder = after_by (rate_tables codec.kind) base (take i words) } → length words ≤ i
    → now ≡ record codec { decoder = after_by (rate_tables codec.kind) base words }
all-decoded codec now base words i is all = cc (take_all i words all)
