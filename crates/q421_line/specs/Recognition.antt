-- Recognition of pairs of signalling bits (ITU-T Q.421, bits a and b).
use Rattle.std.specs.Prelude.{ℕ, ◌/◌, ◌==◌, nat_le, if◌then◌else◌, List, [], ◌∷◌, reverse, Option, Some, None}
use Rattle.std.specs.List.{prefix_len}

-- bits a and b of a nibble ABCD as the number 2a + b; bits c and d are not used (ITU-T Q.421)
abbrev pub pair_of : ℕ → ℕ
pair_of nibble = nibble / 4

-- the number of pairs equal to this one at the end of a list
abbrev pub run_of : ℕ → List ℕ → ℕ
run_of pair pairs = prefix_len (λ other. other == pair) (reverse pairs)

-- the first pair that at least nine equal ones follow at once
abbrev pub first_of_ten : List ℕ → Option ℕ
first_of_ten [] = None
first_of_ten (pair ∷ pairs) =
    if nat_le 9 (prefix_len (λ other. other == pair) pairs) then Some pair else first_of_ten pairs

-- The pair recognised after a list of known pairs: that of the last run of ten equal neighbours, the first
-- from the end; none without such a run. (Our choice: ten signals, one every 2 ms, take 20 ms.)
unfoldable pub recognised : List ℕ → Option ℕ
recognised pairs = first_of_ten (reverse pairs)
