-- Octets that wait behind the words of a packet.
use Rattle.gw_circuit.proofs.Common.{◌≡◌, ◌≤◌, ◌+◌, ℕ, List, [], ◌∷◌, ◌++◌, length, take, drop, refl, sym, ap, ◌∙◌}
use Rattle.gw_circuit.proofs.Common.{rules, common_steps, append_assoc, append-nil, length-append, length-drop, arith}
use Rattle.gw_circuit.proofs.Common.{drop-append-le, take_all, length-take-le, Law, Variables, CodecKind, CodecState}
use Rattle.gw_circuit.proofs.Common.{rate_tables, word_by, after_by, after_encoding, EncodersContinue, next_word}
use Rattle.gw_circuit.proofs.Common.{with_word}
use Rattle.std.proofs.Math.Seq.{take-append_seam, drop-append_seam}
use Rattle.std.specs.List.{refill}
use Rattle.std.proofs.lemmas.List.{take-append-le, drop_all, take-append-drop}
use Rattle.gw_circuit.specs.Coder.{next_words, as_coded, IsWork}

-- encoders continue what they coded
abbrev pub Continue : Type 0
Continue = (kind : CodecKind) (law : Law) (s : Variables) → EncodersContinue (rate_tables kind) law s

-- an octet more that waits is a word more
pub one-more-waits : Continue → (codec : CodecState) (items : List ℕ) (count octet : ℕ) → count ≤ length items
    → as_coded codec (items ++ octet ∷ []) count
    ≡ with_word (as_coded codec items count) (next_word (as_coded codec items count).codec octet)
one-more-waits continue codec items count octet few =
    let t = rate_tables codec.kind in
    let words = next_words codec (drop count items) in
    let word = word_by t codec.law (after_by t codec.encoder words) octet in
    let before = continue codec.kind codec.law codec.encoder in
    let more : next_words codec (drop count items ++ octet ∷ []) ≡ words ++ word ∷ [] =
    before.words (drop count items) (octet ∷ [])
    ∙ ap (λ (ws : List ℕ). words ++ ws) ((continue codec.kind codec.law (after_by t codec.encoder words)).one octet) in
    rw (
      take-append-le count items (octet ∷ []) few,
      drop-append-le count items (octet ∷ []) few,
      more,
      before.states words (word ∷ []),
      ← append_assoc (take count items) words (word ∷ []),
    ) refl

-- where nothing is in the packet nothing waits
pub none-waits : Continue → (codec : CodecState) → as_coded codec [] 0 ≡ record { codec = codec; packet = [] }
none-waits continue codec = grind (arith, common_steps)

-- once all is coded nothing waits
pub all-coded : Continue → (codec : CodecState) (items : List ℕ) (count : ℕ) → length items ≤ count
    → as_coded codec items count ≡ record { codec = codec; packet = items }
all-coded continue codec items count all = grind (arith, common_steps)

-- what waits is the work of a lane
pub loaded-is : (codec : CodecState) (items : List ℕ) (count : ℕ) (kind : CodecKind) (law : Law) (s : Variables)
    (octets : List ℕ) → kind ≡ codec.kind → law ≡ codec.law → s ≡ codec.encoder → octets ≡ drop count items
    → IsWork (as_coded codec items count) kind law s octets
loaded-is codec items count kind law s octets k l e o =
    record { front = take count items; packet = rw (k, l, e, o) refl; encoder = rw (k, l, e, o) refl }

-- the words at the end of two lists that are equal, if they are as many
same-end : (xs ys us vs : List ℕ) → xs ++ ys ≡ us ++ vs → length ys ≡ length vs → vs ≡ ys
same-end xs ys us vs e n =
    grind (arith, length-append xs ys, length-append us vs, drop-append_seam us vs, drop-append_seam xs ys)

-- a state and words from a lane that say what the codec was to code change nothing
pub stored-is : Continue → (codec codec' : CodecState) (items items' words front : List ℕ) (s : Variables)
    (count count' : ℕ) → count ≤ length items → length items ≡ count + length words
    → (as_coded codec items count).packet ≡ front ++ words → (as_coded codec items count).codec.encoder ≡ s
    → codec' ≡ record codec { encoder = s } → items' ≡ take count items ++ words → length items' ≤ count'
    → as_coded codec' items' count' ≡ as_coded codec items count
stored-is continue codec codec' items items' words front s count count' few many packet encoder is put all =
    search (rules, length-drop, same-end, all-coded)

-- the words of octets in the middle, and the octets behind them, say the same
pub part-coded : Continue → (codec codec' : CodecState) (front middle last words items' : List ℕ) (count end : ℕ)
    → length front ≡ count → length (front ++ middle) ≡ end → words ≡ next_words codec middle
    → codec' ≡ after_encoding codec words → items' ≡ front ++ (words ++ last)
    → as_coded codec' items' end ≡ as_coded codec (front ++ (middle ++ last)) count
part-coded continue codec codec' front middle last words items' count end begins ends coded is put =
    let before = continue codec.kind codec.law codec.encoder in
    let counted = before.counted middle in
    let many = length-append front middle in
    let many' = length-append front words in
    let same : length words ≡ length middle = ap length coded ∙ counted in
    let seam : length (front ++ words) ≡ end = omega (arith, same, many, many', ends) in
    rw (
      put,
      is,
      ← append_assoc front words last,
      ← begins,
      ← seam,
      take-append_seam (front ++ words) last,
      drop-append_seam (front ++ words) last,
      take-append_seam front (middle ++ last),
      drop-append_seam front (middle ++ last),
      before.words middle last,
      ← coded,
      append_assoc front words,
      before.states words,
    ) refl

-- so where the octets before a place are coded nothing is changed
pub front-coded : Continue → (codec codec' : CodecState) (items octets : List ℕ) (count end : ℕ) → count ≤ end
    → end ≤ length items → codec' ≡ after_encoding codec (next_words codec (drop count (take end items)))
    → octets
    ≡ take count (take end items) ++ (next_words codec (drop count (take end items)) ++ drop end items)
    → length octets ≡ length items
    → as_coded codec' (refill (length items) items octets) end ≡ as_coded codec items count
front-coded continue codec codec' items octets count end few within is put same =
    let front = take count (take end items) in
    let middle = drop count (take end items) in
    let ends : length (take end items) ≡ end = length-take-le end items within in
    let begins : length front ≡ count = length-take-le count (take end items) (omega (arith, few, ends)) in
    let join : front ++ middle ≡ take end items = take-append-drop count (take end items) in
    let whole : front ++ (middle ++ drop end items) ≡ items =
    sym (append_assoc front middle (drop end items)) ∙ ap (λ (xs : List ℕ). xs ++ drop end items) join
    ∙ take-append-drop end items in
    let kept : refill (length items) items octets ≡ octets =
    ap (λ (xs : List ℕ). take (length items) (octets ++ xs)) (drop_all (length octets) items (omega (arith, same)))
    ∙ ap (take (length items)) (append-nil octets) ∙ take_all (length items) octets (omega (arith, same)) in
    part-coded continue codec codec' front middle (drop end items) (next_words codec middle) _ count end begins
    (ap length join ∙ ends) refl is (kept ∙ put)
    ∙ ap (λ (xs : List ℕ). as_coded codec xs count) whole
