-- What is read of an area has it.
use Rattle.std.proofs.Common.{◌≡◌, ◌∙◌, ◌++◌, [], ℕ, List, length, take, refl, sym, ap}
use Rattle.std.proofs.Common.{append_assoc, append-nil, IfSome, Option, Some, None}
use Rattle.std.specs.Io.KnownBytes.{Consumes}
use Rattle.std.proofs.lemmas.List.{append_cancel_left, take_at}
use Rattle.log_files.specs.Adler.{adler}
use Rattle.log_files.specs.Area.{HasAreaOf, HasHead, IsArea, head_of}
use Rattle.log_files.proofs.Heads.{area_head, reads_as}

-- the first octets of two equal lists are equal
same_first : (xs ys more more' : List ℕ) (len : ℕ) → xs ++ more ≡ ys ++ more' → length xs ≡ len
    → length ys ≡ len → xs ≡ ys
same_first xs ys more more' len same long long' =
    sym (take_at xs more len long) ∙ ap (take len) same ∙ take_at ys more' len long'

-- octets that are the head of an area and what it says
area_read : (content octets behind rest : List ℕ) (n : ℕ) → content ≡ octets ++ (behind ++ rest)
    → length octets ≡ 24 → ((turn len sum : ℕ) → HasHead octets turn len sum → n ≡ len) → length behind ≡ n
    → (turn : ℕ) (written : List ℕ) → IsArea content turn written → IsArea (octets ++ behind) turn written
area_read content octets behind rest n whole long says counted turn written a =
    let front = area_head a in
    let is : octets ≡ head_of turn (length written) (adler written) =
    sym (take_at octets (behind ++ rest) 24 long) ∙ ap (take 24) (sym whole) ∙ (reads_as front).head_is in
    let h : HasHead octets turn (length written) (adler written) = record {
      behind = [];
      content_is = rw append-nil is;
      turn_fits = front.turn_fits;
      len_fits = front.len_fits;
      sum_fits = front.sum_fits;
    } in
    let same : octets ++ (behind ++ rest) ≡ octets ++ (written ++ a.behind) =
    sym whole ∙ a.content_is ∙ ap (λ (xs : List ℕ). xs ++ (written ++ a.behind)) (sym is) in
    let behind-is : behind ≡ written = same_first behind written rest a.behind (length written)
    (append_cancel_left octets (behind ++ rest) (written ++ a.behind) same) (counted ∙ says _ _ _ h) refl in
    record {
      behind = [];
      content_is = rw (append-nil, behind-is) (ap (λ (xs : List ℕ). xs ++ written) is);
      turn_fits = a.turn_fits;
      len_fits = a.len_fits;
    }

-- a reader that has an area gives it: its head, and then as many octets as this says
pub some_read : (old between new : Option (List ℕ)) (octets behind : List ℕ) (n : ℕ) → Consumes old between octets
    → Consumes between new behind → length octets ≡ 24
    → ((turn len sum : ℕ) → HasHead octets turn len sum → n ≡ len) → length behind ≡ n
    → IfSome old (λ content. HasAreaOf content (octets ++ behind))
some_read None between new octets behind n first then long says counted = tt
some_read (Some content) None new octets behind n first then long says counted = elim first [ ]
some_read (Some content) (Some xs) None octets behind n first then long says counted = elim then [ ]
some_read (Some content) (Some xs) (Some rest) octets behind n first then long says counted =
    let whole = first ∙ ap (λ (ys : List ℕ). octets ++ ys) then in
    record {
      behind = rest;
      content_is = whole ∙ sym (append_assoc octets behind rest);
      area = area_read content octets behind rest n whole long says counted;
    }
