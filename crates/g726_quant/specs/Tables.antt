-- The tables of ITU-T G.726 at each rate, by the magnitude of a code word.
use Rattle.std.specs.Prelude.{ℕ, ◌+◌, ◌-◌, ◌^◌, ℤ, pos, negsuc, Bool, true, ◌&&◌, ◌==◌, nat_le, List, [], ◌∷◌}
use Rattle.std.specs.Prelude.{length}
use Rattle.std.specs.List.{list_all}
use Rattle.std.specs.Int.RustNames.{int_le, int_lt}

-- a rate's tables in the Recommendation: the bits of a code word; the thresholds of block QUAN; DQLN, the
-- logarithms of the quantised differences; W, the multipliers of the scale factor (block FUNCTW); F, the
-- values of the speed control (block FUNCTF); and k, the shift of the leak (block UPB)
pub record RateTables : Type 0 where
  pub bits : ℕ
  pub thresholds : List ℤ
  pub log_levels : List ℤ
  pub multipliers : List ℤ
  pub speed_values : List ℕ
  pub leak : ℕ

-- 16 kbit/s
abbrev pub tables16 : RateTables
tables16 = record {
  bits = 2;
  thresholds = pos 261 ∷ [];
  log_levels = pos 116 ∷ pos 365 ∷ [];
  multipliers = negsuc 21 ∷ pos 439 ∷ [];
  speed_values = 0 ∷ 7 ∷ [];
  leak = 8;
}

-- 24 kbit/s
abbrev pub tables24 : RateTables
tables24 = record {
  bits = 3;
  thresholds = pos 8 ∷ pos 218 ∷ pos 331 ∷ [];
  log_levels = negsuc 2047 ∷ pos 135 ∷ pos 273 ∷ pos 373 ∷ [];
  multipliers = negsuc 3 ∷ pos 30 ∷ pos 137 ∷ pos 582 ∷ [];
  speed_values = 0 ∷ 1 ∷ 2 ∷ 7 ∷ [];
  leak = 8;
}

-- 32 kbit/s
abbrev pub tables32 : RateTables
tables32 = record {
  bits = 4;
  thresholds = negsuc 123 ∷ pos 80 ∷ pos 178 ∷ pos 246 ∷ pos 300 ∷ pos 349 ∷ pos 400 ∷ [];
  log_levels = negsuc 2047 ∷ pos 4 ∷ pos 135 ∷ pos 213 ∷ pos 273 ∷ pos 323 ∷ pos 373 ∷ pos 425 ∷ [];
  multipliers = negsuc 11 ∷ pos 18 ∷ pos 41 ∷ pos 64 ∷ pos 112 ∷ pos 198 ∷ pos 355 ∷ pos 1122 ∷ [];
  speed_values = 0 ∷ 0 ∷ 0 ∷ 1 ∷ 1 ∷ 1 ∷ 3 ∷ 7 ∷ [];
  leak = 8;
}

-- 40 kbit/s
abbrev pub tables40 : RateTables
tables40 = record {
  bits = 5;
  thresholds =
      negsuc 121 ∷ negsuc 15 ∷ pos 68 ∷ pos 139 ∷ pos 198 ∷ pos 250 ∷ pos 298 ∷ pos 339 ∷ pos 378 ∷ pos 413
      ∷ pos 445 ∷ pos 475 ∷ pos 502 ∷ pos 528 ∷ pos 553 ∷ [];
  log_levels =
      negsuc 2047 ∷ negsuc 65 ∷ pos 28 ∷ pos 104 ∷ pos 169 ∷ pos 224 ∷ pos 274 ∷ pos 318 ∷ pos 358 ∷ pos 395
      ∷ pos 429 ∷ pos 459 ∷ pos 488 ∷ pos 514 ∷ pos 539 ∷ pos 566 ∷ [];
  multipliers =
      pos 14 ∷ pos 14 ∷ pos 24 ∷ pos 39 ∷ pos 40 ∷ pos 41 ∷ pos 58 ∷ pos 100 ∷ pos 141 ∷ pos 179 ∷ pos 219
      ∷ pos 280 ∷ pos 358 ∷ pos 440 ∷ pos 529 ∷ pos 696 ∷ [];
  speed_values = 0 ∷ 0 ∷ 0 ∷ 0 ∷ 0 ∷ 1 ∷ 1 ∷ 1 ∷ 1 ∷ 1 ∷ 2 ∷ 3 ∷ 4 ∷ 5 ∷ 6 ∷ 6 ∷ [];
  leak = 9;
}

-- the number of magnitudes of a word with a number of bits
abbrev pub magnitudes : ℕ → ℕ
magnitudes bits = 2 ^ (bits - 1)

-- a word has 2 to 5 bits, each table has an entry for each magnitude, and thresholds lie between magnitudes
abbrev pub has_its_places : RateTables → Bool
has_its_places r = nat_le 2 r.bits && nat_le r.bits 5 && (length r.thresholds + 1 == magnitudes r.bits)
    && (length r.log_levels == magnitudes r.bits) && (length r.multipliers == magnitudes r.bits)
    && (length r.speed_values == magnitudes r.bits)

-- each threshold is below the next
abbrev pub is_rising_after : ℤ → List ℤ → Bool
is_rising_after x [] = true
is_rising_after x (y ∷ ys) = int_lt x y && is_rising_after y ys

abbrev pub is_rising : List ℤ → Bool
is_rising [] = true
is_rising (x ∷ xs) = is_rising_after x xs

-- the entries of the tables are in range
abbrev pub is_within : ℤ → ℤ → ℤ → Bool
is_within low high z = int_le low z && int_le z high

abbrev pub is_in_range : RateTables → Bool
is_in_range r = list_all (is_within (negsuc 2047) (pos 2047)) r.thresholds
    && list_all (is_within (negsuc 2047) (pos 566)) r.log_levels
    && list_all (is_within (negsuc 21) (pos 1122)) r.multipliers
    && list_all (λ f. nat_le f 7) r.speed_values
    && nat_le 8 r.leak && nat_le r.leak 9
