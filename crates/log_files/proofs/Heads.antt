-- What octets that begin with a head read as, and that they tell what it says.
use Rattle.std.proofs.Common.{◌≡◌, ◌∙◌, ◌≤◌, ◌++◌, [], ℕ, List, length, take, drop, refl, sym, ap, arith}
use Rattle.std.proofs.Common.{length-append}
use Rattle.std.proofs.lemmas.List.{length-take-le, take-append-drop, take_at}
use Rattle.byteorder.specs.Endian.{big_number}
use Rattle.byteorder.specs.Numbers.{big_number-reads_back}
use Rattle.log_files.specs.Area.{HasHead, IsArea, IsNoArea, head_of}
use Rattle.log_files.proofs.Checksums.{adler_fits}
use Rattle.log_files.specs.Adler.{adler}

-- what octets that begin with a head read as
pub record ReadsAs (content : List ℕ) (turn len sum : ℕ) : Type 0 where
  pub turn_is : big_number 8 (take 8 (drop 4 content)) ≡ turn
  pub len_is : big_number 4 (take 4 (drop 12 content)) ≡ len
  pub sum_is : big_number 4 (take 4 (drop 16 content)) ≡ sum
  pub head_is : take 24 content ≡ head_of turn len sum
  pub long : 24 ≤ length content

-- octets that begin with a head are read so
pub reads_as : {content : List ℕ} {turn len sum : ℕ} → HasHead content turn len sum → ReadsAs content turn len sum
unfolding head_of
reads_as {content = content} {turn = turn} {len = len} {sum = sum} h = record {
  turn_is = rw h.content_is (big_number-reads_back 8 turn [] h.turn_fits);
  len_is = rw h.content_is (big_number-reads_back 4 len [] h.len_fits);
  sum_is = rw h.content_is (big_number-reads_back 4 sum [] h.sum_fits);
  head_is = rw h.content_is refl;
  long = rw h.content_is (omega arith);
}

-- an area begins with the head of its octets
pub area_head : {content : List ℕ} {turn : ℕ} {octets : List ℕ} → (a : IsArea content turn octets)
    → HasHead content turn (length octets) (adler octets)
area_head {octets = octets} a = record {
  behind = octets ++ a.behind;
  content_is = a.content_is;
  turn_fits = a.turn_fits;
  len_fits = a.len_fits;
  sum_fits = adler_fits octets;
}

-- two heads that the same octets begin with say the same
pub record AreSameHead (turn turn' len len' sum sum' : ℕ) (behind behind' : List ℕ) : Type 0 where
  pub turns : turn ≡ turn'
  pub lens : len ≡ len'
  pub sums : sum ≡ sum'
  pub rests : behind ≡ behind'

-- what is behind a head
behind_is : {content : List ℕ} {turn len sum : ℕ} → (h : HasHead content turn len sum) → drop 24 content ≡ h.behind
unfolding head_of
behind_is h = rw h.content_is refl

-- .. so they do
pub same_head : {content : List ℕ} {turn turn' len len' sum sum' : ℕ} → (h : HasHead content turn len sum)
    → (h' : HasHead content turn' len' sum') → AreSameHead turn turn' len len' sum sum' h.behind h'.behind
same_head h h' =
    let r = reads_as h in
    let r' = reads_as h' in
    record {
      turns = sym r.turn_is ∙ r'.turn_is;
      lens = sym r.len_is ∙ r'.len_is;
      sums = sym r.sum_is ∙ r'.sum_is;
      rests = sym (behind_is h) ∙ behind_is h';
    }

-- octets that a head counts and sums up are those of an area
pub area_of : (content : List ℕ) (turn len sum : ℕ) → HasHead content turn len sum → len ≤ length (drop 24 content)
    → adler (take len (drop 24 content)) ≡ sum → IsArea content turn (take len (drop 24 content))
area_of content turn len sum h long same =
    let rest = drop 24 content in
    let count : length (take len rest) ≡ len = length-take-le len rest long in
    record {
      behind = drop len rest;
      content_is = h.content_is ∙ ap (λ (xs : List ℕ). head_of turn len sum ++ xs)
          (sym (behind_is h) ∙ sym (take-append-drop len rest))
          ∙ ap (λ (n : ℕ). head_of turn n sum ++ (take len rest ++ drop len rest)) (sym count)
          ∙ ap (λ (n : ℕ). head_of turn (length (take len rest)) n ++ (take len rest ++ drop len rest)) (sym same);
      turn_fits = h.turn_fits;
      len_fits = let fits = h.len_fits in omega arith;
    }

-- what a head says of an area
pub record IsOfHead (content octets : List ℕ) (len sum : ℕ) : Type 0 where
  pub long : len ≤ length (drop 24 content)
  pub octets_are : take len (drop 24 content) ≡ octets
  pub same : adler (take len (drop 24 content)) ≡ sum

-- the octets of an area are those that its head counts
pub of_head : {content octets : List ℕ} {turn turn' len sum : ℕ} → HasHead content turn len sum
    → IsArea content turn' octets → IsOfHead content octets len sum
unfolding area_head
of_head {content = content} {octets = octets} {len = len} {sum = sum} h a =
    let both = same_head h (area_head a) in
    let rest : drop 24 content ≡ octets ++ a.behind = behind_is (area_head a) in
    let is : take len (drop 24 content) ≡ octets =
    ap (take len) rest ∙ take_at octets a.behind len (sym both.lens) in
    record {
      long = omega (arith, ap length rest, length-append octets a.behind, both.lens);
      octets_are = is;
      same = ap adler is ∙ sym both.sums;
    }

-- where no head is, there is no area
pub none_without_head : {content : List ℕ} → ((turn len sum : ℕ) → HasHead content turn len sum → ⊥)
    → IsNoArea content
none_without_head none turn octets a = none turn (length octets) (adler octets) (area_head a)

-- an area is of one turn
pub one_turn : {content octets octets' : List ℕ} {turn turn' : ℕ} → IsArea content turn octets
    → IsArea content turn' octets' → turn ≡ turn'
one_turn a b = (same_head (area_head a) (area_head b)).turns

-- .. and so are its octets
pub one_content : {content octets octets' : List ℕ} {turn turn' : ℕ} → IsArea content turn octets
    → IsArea content turn' octets' → octets ≡ octets'
one_content a b =
    sym (of_head (area_head a) a).octets_are ∙ (of_head (area_head a) b).octets_are
