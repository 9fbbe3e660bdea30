-- The checksum Adler-32 (RFC 1950, 8.2).
use Rattle.std.specs.Prelude.{◌+◌, ◌*◌, ◌%◌, ℕ, List, [], ◌∷◌, sum}

-- s1 and s2 of RFC 1950, 8.2
pub record Sums : Type 0 where
  pub s1 : ℕ
  pub s2 : ℕ

-- the values of s1 behind each of these octets, where before them 1 and the sum of all octets is `first`
abbrev pub s1_values : ℕ → List ℕ → List ℕ
s1_values first [] = []
s1_values first (octet ∷ octets) = (first + octet) % 65521 ∷ s1_values (first + octet) octets

-- s1 is 1 and the sum of all octets, s2 is the sum of all values of s1; both are modulo 65521
unfoldable pub sums_of : List ℕ → Sums
sums_of octets = record { s1 = (1 + sum octets) % 65521; s2 = sum (s1_values 1 octets) % 65521 }

-- s2 * 65536 + s1
abbrev pub sum_of : Sums → ℕ
sum_of sums = sums.s2 * 65536 + sums.s1

abbrev pub adler : List ℕ → ℕ
adler octets = sum_of (sums_of octets)
