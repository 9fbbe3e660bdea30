use Rattle.std.proofs.Common.{rules, ◌≡◌, ◌<◌, ◌∷◌, [], ℕ, zero, suc, List, Option, None, length, arith, append_assoc}
use Rattle.std.proofs.Common.{refl, slice_get, slice_index_or}
use Rattle.std.proofs.lemmas.Grind.{take_at_read}
use Rattle.std.specs.Option.{option_flatten}
use Rattle.saved_octets.proofs.Items.{saved-push}
use Rattle.rtp_playout.proofs.playout.saving.save_places.Goals as goal

-- what is got of a place, as what it holds
flat : (items : List (Option ℕ)) (i : ℕ) → i < length items
    → option_flatten (slice_get items i) ≡ slice_index_or items i None
flat [] i less = absurd (omega arith)
flat (x ∷ items) zero less = refl
flat (x ∷ items) (suc i) less = flat items i (omega arith)

pub loop-i-preserved : goal.loop-i-preserved
loop-i-preserved c = search (rules, flat, append_assoc, saved-push, take_at_read)
