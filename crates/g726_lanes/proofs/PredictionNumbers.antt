-- The prediction that has sixteen numbers, as it is put into a lane and taken from it.
use Rattle.g726_lanes.proofs.Common.{◌≡◌, ◌<◌, ◌+◌, ◌-◌, ℕ, Bool, List, ◌∷◌, w16, arith, sym, rules, common_steps}
use Rattle.g726_lanes.proofs.Common.{nat_lt, to_z, get_or, is_negative, cases_lt}
use Rattle.g726_predict.specs.Saved.{PredictionFits}
use Rattle.g726_predict.specs.Saved as saved
use Rattle.g726_predict.proofs.Saved.{numbered, saved-numbered, first, of-six, of-two, unpacked-fits}
use Rattle.g726_lanes.proofs.Numbers.{number_fits, sign_is}

-- it fits the widths of the variables
pub numbered-fits : (n : ℕ → ℕ) (pk1 pk2 : Bool) → ((i : ℕ) → i < 8 → n i < 65536)
    → PredictionFits (numbered n pk1 pk2)
numbered-fits n pk1 pk2 few = search (rules, number_fits, of-six, unpacked-fits, of-two)

-- eight numbers of 16 bits, whatever follows
pub few-of : (a b c d e f g h : ℕ) (rest : List ℕ) → a < 65536 → b < 65536 → c < 65536 → d < 65536 → e < 65536
    → f < 65536 → g < 65536 → h < 65536 → (i : ℕ) → i < 8
    → get_or (a ∷ b ∷ c ∷ d ∷ e ∷ f ∷ g ∷ h ∷ rest) i 0 < 65536
few-of a b c d e f g h rest p q r s t u v w = grind (arith, common_steps)

-- its numbers are these, if the last eight are words
pub numbers-again : (n : ℕ → ℕ) (pk1 pk2 : Bool) → ((i : ℕ) → i < 8 → n i < 65536)
    → ((i : ℕ) → i < 8 → n (8 + i) < 2048) → first 16 n ≡ saved.saved_numbers (numbered n pk1 pk2)
numbers-again n pk1 pk2 few words =
    sym (saved-numbered n pk1 pk2 few (grind (arith, common_steps)))

-- a number above 32767 is negative in two's complement
pub negative_is : (n : ℕ) → n < 65536 → nat_lt 32767 n ≡ is_negative (to_z w16 n)
negative_is n below = grind (arith, sign_is n below, cases_lt 32767 n)
