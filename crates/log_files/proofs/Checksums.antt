-- The sums of Adler-32 behind one more octet, and how large they are.
use Rattle.std.proofs.Common.{◌≡◌, ◌∙◌, ◌+◌, ◌%◌, ◌<◌, ◌^◌, ◌++◌, ◌∷◌, [], ℕ, List, sum, sym, ap}
use Rattle.std.proofs.Common.{append_assoc, arith, get_or, length, take}
use Rattle.std.proofs.Math.Nat.{mod-add-mod}
use Rattle.std.proofs.lemmas.List.{take_more}
use Rattle.std.proofs.lemmas.List.Sums.{sum_by-append}
use Rattle.log_files.specs.Adler.{Sums, s1_values, sums_of, adler}

-- the sum of an octet and of those behind
sum_front : (x : ℕ) (xs : List ℕ) → sum (x ∷ xs) ≡ x + sum xs
sum_front x xs = let e = sum_by-append (λ (n : ℕ). n) (x ∷ []) xs in omega arith

-- the values of s1 behind octets, and behind one more
values_push : (first : ℕ) (xs : List ℕ) (x : ℕ)
    → s1_values first (xs ++ x ∷ []) ≡ s1_values first xs ++ (first + sum xs + x) % 65521 ∷ []
values_push first [] x = ap (λ (n : ℕ). (n + x) % 65521 ∷ []) (omega arith)
values_push first (y ∷ xs) x =
    let same : first + y + sum xs + x ≡ first + sum (y ∷ xs) + x = omega (arith, sum_front y xs) in
    ap (λ (values : List ℕ). (first + y) % 65521 ∷ values) (rw same at (values_push (first + y) xs x))

-- .. and their sum
values_sum : (xs : List ℕ) (x : ℕ)
    → sum (s1_values 1 (xs ++ x ∷ [])) ≡ sum (s1_values 1 xs) + (1 + sum xs + x) % 65521
values_sum xs x =
    let all = ap sum (values_push 1 xs x) in
    let parts = sum_by-append (λ (n : ℕ). n) (s1_values 1 xs) ((1 + sum xs + x) % 65521 ∷ []) in
    omega arith

-- the sums behind one more octet
pub sums_push : (xs : List ℕ) (x : ℕ)
    → sums_of (xs ++ x ∷ []) ≡ record {
      s1 = ((sums_of xs).s1 + x) % 65521;
      s2 = ((sums_of xs).s2 + ((sums_of xs).s1 + x) % 65521) % 65521;
    }
unfolding sums_of
sums_push xs x =
    let parts = sum_by-append (λ (n : ℕ). n) xs (x ∷ []) in
    let all : 1 + sum (xs ++ x ∷ []) ≡ 1 + sum xs + x = omega arith in
    let one : (1 + sum (xs ++ x ∷ [])) % 65521 ≡ ((1 + sum xs) % 65521 + x) % 65521 =
    ap (λ (n : ℕ). n % 65521) all ∙ sym (mod-add-mod (1 + sum xs) 65521 x) in
    let two : sum (s1_values 1 (xs ++ x ∷ [])) % 65521
    ≡ (sum (s1_values 1 xs) % 65521 + ((1 + sum xs) % 65521 + x) % 65521) % 65521 =
    ap (λ (n : ℕ). n % 65521) (values_sum xs x)
    ∙ sym (mod-add-mod (sum (s1_values 1 xs)) 65521 ((1 + sum xs + x) % 65521))
    ∙ ap (λ (n : ℕ). (sum (s1_values 1 xs) % 65521 + n) % 65521) (sym (mod-add-mod (1 + sum xs) 65521 x)) in
    cc

-- the sums behind octets of which one more was taken
pub sums_more : (before octets : List ℕ) (i : ℕ) (s : Sums) (a b : ℕ) → i < length octets
    → s ≡ sums_of (before ++ take i octets) → a ≡ (s.s1 + get_or octets i 0) % 65521 → b ≡ (s.s2 + a) % 65521
    → record { s1 = a; s2 = b } ≡ sums_of (before ++ take (i + 1) octets)
sums_more before octets i s a b within so one two =
    let pushed = sums_push (before ++ take i octets) (get_or octets i 0) in
    let list : before ++ take (i + 1) octets ≡ (before ++ take i octets) ++ get_or octets i 0 ∷ [] =
    ap (λ (xs : List ℕ). before ++ xs) (take_more octets i 0 within)
    ∙ sym (append_assoc before (take i octets) (get_or octets i 0 ∷ [])) in
    let whole = ap sums_of list in
    cc

-- a checksum has 32 bits
pub adler_fits : (octets : List ℕ) → adler octets < 2 ^ 32
unfolding sums_of
adler_fits octets =
    let one : (1 + sum octets) % 65521 < 65521 = omega arith in
    let two : sum (s1_values 1 octets) % 65521 < 65521 = omega arith in
    omega arith
