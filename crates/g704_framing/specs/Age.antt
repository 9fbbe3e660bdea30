-- The alignment at an octet, and the octet's place in it.
use Rattle.std.specs.Prelude.{ℕ, ◌+◌, ◌-◌, Bool, true, ◌&&◌, nat_lt, nat_le, if◌then◌else◌}
use Rattle.std.specs.Prelude.{List, [], ◌∷◌, Option, Some, None}
use Rattle.g704_framing.specs.Alignment.{AlignmentSpan}

-- a position comes before the loss, if there is one
abbrev pub is_before_loss : ℕ → Option ℕ → Bool
is_before_loss position None = true
is_before_loss position (Some lost) = nat_lt position lost

-- an octet is at least this far from the first of the alignment, and before its loss
abbrev pub is_standing : ℕ → AlignmentSpan → ℕ → Bool
is_standing after alignment position =
    nat_le (alignment.start + after) position && is_before_loss position alignment.lost

-- The age of an octet: the number of octets of its alignment before it; none without an alignment. An
-- alignment counts from this age.
abbrev pub age_in : ℕ → List AlignmentSpan → ℕ → Option ℕ
age_in after [] position = None
age_in after (alignment ∷ others) position =
    if is_standing after alignment position
    then Some (position - alignment.start)
    else age_in after others position
