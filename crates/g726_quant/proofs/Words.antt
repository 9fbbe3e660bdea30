-- The words that are sent.
use Rattle.std.proofs.lemmas.Grind.{common_steps}
use Rattle.std.proofs.Common.{◌≢◌, ℕ, ◌<◌, ℤ, arith}
use Rattle.std.specs.Prelude.{IsTrue}
use Rattle.g726_quant.specs.Tables.{RateTables, has_its_places}
use Rattle.g726_quant.specs.Blocks.{quantised}

-- the word of a difference is not all zeros if it has more than two bits
pub never_all_zeros : (r : RateTables) (d : ℤ) (y : ℕ) → IsTrue (has_its_places r) → 2 < r.bits → quantised r d y ≢ 0
unfolding quantised
never_all_zeros r d y places more = grind (arith, common_steps)
