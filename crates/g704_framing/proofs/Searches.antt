-- What searches find in a stream, and when it goes on.
use Rattle.std.proofs.Common.{rules, ◌≡◌, ℕ, suc, ◌≤◌, Option, Some, None}
use Rattle.g704_framing.proofs.Common.{later, IsFoundAfter}

-- found in a stream, also when it goes on
abbrev pub StaysFound : Option ℕ → Option ℕ → Type 0
StaysFound found more = (position : ℕ) → found ≡ Some position → more ≡ Some position

-- also if positions are counted from one further back
pub later-found : (found more : Option ℕ) → StaysFound found more → StaysFound (later found) (later more)
later-found found r h p e = search rules

-- if nothing is found in this many octets, a longer stream's find is by a later one
abbrev pub FoundAfter : ℕ → ℕ → Option ℕ → Option ℕ → Type 0
FoundAfter found_at count found more = found ≡ None → IsFoundAfter count found_at more

-- also if positions are counted from one further back
pub later-after : (found_at count : ℕ) (found more : Option ℕ) → FoundAfter found_at count found more
    → FoundAfter found_at (suc count) (later found) (later more)
later-after at count found r h e = search rules

-- what is found is found by an octet after the first so few
pub few-after : (found_at count : ℕ) (found : Option ℕ) → count ≤ found_at → IsFoundAfter count found_at found
few-after at count found le = search rules
