-- The least number that passes a test.
use Rattle.std.specs.Prelude.{ℕ, zero, suc, Bool, if◌then◌else◌, Option, Some, None}

-- the least number below a limit that passes
unfoldable pub least : (ℕ → Bool) → ℕ → Option ℕ
least passes zero = None
least passes (suc limit) = elim (least passes limit) [
  | Some found ↦ Some found
  | None ↦ if passes limit then Some limit else None
]
