-- The blocks of the quantiser in one lane.
use Rattle.g726_lanes.proofs.Common.{◌≡◌, ◌<◌, ◌≤◌, ℕ, zero, suc, ◌+◌, ◌-◌, ◌*◌, ◌/◌, ◌%◌, ◌^◌, cond, ℤ, common_steps}
use Rattle.g726_lanes.proofs.Common.{pos, negsuc, ◌+ℤ◌, ◌≤ℤ◌, Bool, true, false, to_z, w16, arith, refl, ◌∙◌, nat_le}
use Rattle.g726_lanes.proofs.Common.{nat_lt, bit_and, List, [], ◌∷◌, length, take, get_or, ◌==◌, IsTrue, ints, int_le}
use Rattle.g726_lanes.proofs.Common.{count_by, length-take, nat_tests, RateTables, magnitudes, is_in_range, adda}
use Rattle.g726_lanes.proofs.Common.{word_magnitude, word_is_negative, quan_word, subtb, least}
use Rattle.std.proofs.lemmas.List.Sums.{sum_by-cons, count_by-le-length}
use Rattle.g726_lanes.proofs.PoleLanes.{chosen}

-- RECONST: the magnitude of a word with few bits
magnitude_for : (bits half word : ℕ) → 2 ^ bits ≡ 2 * half → half ≤ 16 → magnitudes bits ≡ half → word < 2 ^ bits
    → (least word ((2 ^ bits - 1 + (65536 - word)) % 65536) ≡ word_magnitude bits word)
    × (least word ((2 ^ bits - 1 + (65536 - word)) % 65536) < magnitudes bits)
magnitude_for bits half word whole few same below = grind (arith, common_steps)

-- the parts of a number of bits
pub record FewBits (bits : ℕ) : Type 0 where
  pub whole : 2 ^ bits ≡ 2 * magnitudes bits
  pub few : magnitudes bits ≤ 16
  pub some : 2 ≤ magnitudes bits

-- these are known for words of 2 to 5 bits
pub few_bits : (bits : ℕ) → 2 ≤ bits → bits ≤ 5 → FewBits bits
few_bits zero low high = absurd (omega arith)
few_bits (suc zero) low high = absurd (omega arith)
few_bits (suc (suc zero)) low high = record { whole = refl; few = omega arith; some = omega arith }
few_bits (suc (suc (suc zero))) low high = record { whole = refl; few = omega arith; some = omega arith }
few_bits (suc (suc (suc (suc zero)))) low high = record { whole = refl; few = omega arith; some = omega arith }
few_bits (suc (suc (suc (suc (suc zero))))) low high = record { whole = refl; few = omega arith; some = omega arith }
few_bits (suc (suc (suc (suc (suc (suc n)))))) low high = absurd (omega arith)

-- so is that of each word
pub magnitude_is : (bits word : ℕ) → 2 ≤ bits → bits ≤ 5 → word < 2 ^ bits
    → (least word ((2 ^ bits - 1 + (65536 - word)) % 65536) ≡ word_magnitude bits word)
    × (least word ((2 ^ bits - 1 + (65536 - word)) % 65536) < magnitudes bits)
magnitude_is bits word low high below =
    let f = few_bits bits low high in magnitude_for bits (magnitudes bits) word f.whole f.few refl below

-- DQS
pub sign_is : (bits word : ℕ) → 2 ≤ bits → bits ≤ 5 → word < 2 ^ bits
    → (nat_lt 0 (word / magnitudes bits) ≡ word_is_negative bits word) × (word / magnitudes bits < 2)
sign_is bits word low high below = grind (arith, common_steps)

-- ADDA
abbrev pub lane_added : ℕ → ℕ → ℕ
lane_added level y = bit_and ((level + y / 4) % 65536) 4095

-- it is ADDA of the numbers: below 1920, or with its top bit set
pub added_is : (level y : ℕ) → level < 65536 → negsuc 2047 ≤ℤ to_z w16 level → to_z w16 level ≤ℤ pos 566
    → 544 ≤ y → y ≤ 5120
    → (lane_added level y ≡ adda (to_z w16 level) y)
    × ((lane_added level y < 4096) × (lane_added level y < 2048 → lane_added level y < 1920))
added_is level y below low high y_low y_high = grind (arith, common_steps)

-- QUAN: the word
pub word_is : (bits magnitude negative : ℕ) → 2 ≤ bits → bits ≤ 5 → magnitude < magnitudes bits
    → chosen (chosen (negative == 0) magnitude (cond (nat_lt 2 bits) 0 65535) == cond (nat_lt 2 bits) 0 65535)
    ((2 ^ bits - 1 + (65536 - magnitude)) % 65536) magnitude
    ≡ quan_word bits (nat_lt 0 negative) magnitude
word_is bits magnitude zero low high below = grind (arith, few_bits bits low high)
word_is bits magnitude (suc n) low high below =
    let f = few_bits bits low high in
    let rest : (2 ^ bits - 1 + (65536 - magnitude)) % 65536 ≡ 2 ^ bits - 1 - magnitude = omega (
      arith,
      f.whole,
      f.few,
    ) in
    let some : (suc n == 0) ≡ false = grind (arith, nat_tests) in
    let set : nat_lt 0 (suc n) ≡ true = grind (arith, nat_tests) in
    rw (rest, some, set) (by (nat_lt 2 bits))
  where
    by : (more : Bool)
        → chosen (cond more 0 65535 == cond more 0 65535) (2 ^ bits - 1 - magnitude) magnitude ≡ 2 ^ bits - 1 -
        magnitude
    by true = refl
    by false = refl

-- a power of few bits fits a lane
pub power : (bits : ℕ) → 2 ≤ bits → bits ≤ 5 → 1 * 2 ^ bits % 65536 ≡ 2 ^ bits
power bits low high = let f = few_bits bits low high in omega (arith, f.whole, f.few)

-- the same, with the word of all ones as it was computed
pub magnitude_by : (bits word all : ℕ) → all ≡ 2 ^ bits - 1 → 2 ≤ bits → bits ≤ 5 → word < 2 ^ bits
    → (least word ((all + (65536 - word)) % 65536) ≡ word_magnitude bits word)
    × (least word ((all + (65536 - word)) % 65536) < magnitudes bits)
magnitude_by bits word all e low high below = rw e (magnitude_is bits word low high below)

-- the same for the word of all ones and the excepted magnitude as they were computed
pub word_by : (bits magnitude negative all none : ℕ) → all ≡ 2 ^ bits - 1 → none ≡ cond (nat_lt 2 bits) 0 65535
    → 2 ≤ bits → bits ≤ 5 → magnitude < magnitudes bits
    → chosen (chosen (negative == 0) magnitude none == none) ((all + (65536 - magnitude)) % 65536) magnitude
    ≡ quan_word bits (nat_lt 0 negative) magnitude
word_by bits magnitude negative all none e f low high below =
    rw (e, f) (word_is bits magnitude negative low high below)

-- the count of thresholds grows by one that is passed
pub count_next : (p : ℤ → Bool) (xs : List ℤ) (i : ℕ) → i < length xs
    → count_by p (take (suc i) xs) ≡ count_by p (take i xs) + cond (p (get_or xs i (pos 0))) 1 0
count_next p [] i h = absurd (omega arith)
count_next p (x ∷ xs) zero h = sum_by-cons (λ y. cond (p y) 1 0) x [] ∙ omega arith
count_next p (x ∷ xs) (suc i) h =
    let rest = count_next p xs i (omega arith) in
    sum_by-cons (λ y. cond (p y) 1 0) x (take (suc i) xs)
    ∙ rw (rest, sum_by-cons (λ y. cond (p y) 1 0) x (take i xs)) (omega arith)

-- and so does a lane's
pub lane_counts : (count level dln : ℕ) (t z : ℤ) → count < 65535 → pos level ≡ t +ℤ pos 2048 → pos dln ≡ z +ℤ
    pos 2048
    → (count + chosen (nat_le level dln) 1 0) % 65536 ≡ count + cond (int_le t z) 1 0
lane_counts count level dln t z few e f = grind (arith, common_steps)

-- fewer than 16 thresholds are counted in 16 bits
pub counts_few : (p : ℤ → Bool) (xs : List ℤ) (i : ℕ) → length xs < 16 → count_by p (take i xs) < 65535
counts_few p xs i few = omega (arith, count_by-le-length p (take i xs), length-take i xs)

-- SUBTB
pub less_is : (dl y : ℕ) → dl < 1920 → y ≤ 5120
    → pos (((dl + 2048) % 65536 + (65536 - y / 4)) % 65536) ≡ subtb dl y +ℤ pos 2048
less_is dl y dl_few y_few = omega (arith, ints)

-- the thresholds of a rate are within twelve bits
pub thresholds_within : (r : RateTables) → IsTrue (is_in_range r) → (i : ℕ) → i < length r.thresholds
    → (negsuc 2047 ≤ℤ get_or r.thresholds i (pos 0)) × (get_or r.thresholds i (pos 0) ≤ℤ pos 2047)
thresholds_within r h i few = grind (arith, common_steps)

-- the word of a lane has the bits of a word
pub word_below : (bits magnitude negative all none : ℕ) → all ≡ 2 ^ bits - 1 → none ≡ cond (nat_lt 2 bits) 0 65535
    → 2 ≤ bits → bits ≤ 5 → magnitude < magnitudes bits
    → chosen (chosen (negative == 0) magnitude none == none) ((all + (65536 - magnitude)) % 65536) magnitude < 2
    ^ bits
word_below bits magnitude negative all none e f low high below = grind (arith, common_steps)
