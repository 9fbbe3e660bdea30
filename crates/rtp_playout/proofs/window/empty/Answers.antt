use Rattle.std.proofs.Common.{rules, ◌≡◌, ◌+◌, ◌-◌, ◌*◌, ◌++◌, ℕ, List, Option, length, take, min, ap, ◌∙◌, arith}
use Rattle.std.proofs.lemmas.List.{take-replicate, replicate-append-replicate}
use Rattle.circular_buffer.specs.Buffer.{Buffer, buffer}
use Rattle.rtp_playout.proofs.Places.{no_words, length-no_words}
use Rattle.rtp_playout.proofs.window.empty.Goals as goal

-- up to 64 places more are empty
filled : (window after : Buffer (Option ℕ)) (capacity n count : ℕ)
    → window ≡ buffer (no_words (min (64 * n) capacity)) capacity
    → count ≡ min 64 (window.capacity - length window.items)
    → after ≡ buffer (window.items ++ take count (no_words 64)) window.capacity
    → after ≡ buffer (no_words (min (64 * (n + 1)) capacity)) capacity
filled window after capacity n count was more is =
    let m = min (64 * n) capacity in
    let room : window.capacity ≡ capacity = ap (λ (b : Buffer (Option ℕ)). b.capacity) was in
    let size : length window.items ≡ m =
    ap (λ (b : Buffer (Option ℕ)). length b.items) was ∙ length-no_words m in
    let next : m + count ≡ min (64 * (n + 1)) capacity = omega arith in
    is ∙ ap (λ (b : Buffer (Option ℕ)). buffer (b.items ++ take count (no_words 64)) b.capacity) was
    ∙ ap (λ (xs : List (Option ℕ)). buffer (no_words m ++ xs) capacity) (take-replicate count 64 _ (omega arith))
    ∙ ap (λ (xs : List (Option ℕ)). buffer xs capacity) (replicate-append-replicate m count _)
    ∙ ap (λ (k : ℕ). buffer (no_words k) capacity) next

pub loop-preserved : goal.loop-preserved
loop-preserved c = search (rules, filled)
