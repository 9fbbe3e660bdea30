-- Octets between two of slot 0, all at once.
use Rattle.std.proofs.Common.{◌≡◌, ℕ, zero, suc, ◌+◌, ◌<◌, ◌≤◌, ◌%◌, List, [], ◌∷◌, ◌++◌, length, None, refl, ◌∙◌}
use Rattle.std.proofs.Common.{subst, arith}
use Rattle.std.specs.Prelude.{◌≢◌}
use Rattle.std.proofs.lemmas.List.{length_push, append_assoc, append-nil}
use Rattle.g704_framing.specs.Restart.{last_of}
use Rattle.g704_framing.proofs.Standings.{place-history, since-more}
use Rattle.g704_align.specs.declared.alignment.SyncState.TheVariants.{Aligned}
use Rattle.g704_align.specs.Loss.{frame_alignment}
use Rattle.g704_align.specs.Placing.{number_of, frames, place}
use Rattle.g704_align.specs.Aligner.{HasHistory}
use Rattle.g704_align.proofs.Callers.{place_append}
use Rattle.g704_align.proofs.Standing.{place-aligned}
use Rattle.g704_align.proofs.Steps.{between-signals}

-- An octet of another slot than 0, and others after it.
begins-rest : (history octets : List ℕ) (x n : ℕ) → n ≤ length octets
    → 0 < number_of (place (history ++ x ∷ []) (length history))
    → ((k : ℕ) → k < n → 0 < number_of (place ((history ++ x ∷ []) ++ octets) (length (history ++ x ∷ []) + k)))
    → (k : ℕ) → k < suc n → 0 < number_of (place (history ++ x ∷ octets) (length history + k))
begins-rest history octets x n le first later zero lt =
    let l = length_push history x in
    let here : length history + 0 ≡ length history = omega arith in
    let settled = (place_append (history ++ x ∷ []) octets (length history) (omega arith)).0 in
    rw (here, ← append_assoc history (x ∷ []) octets, settled) first
begins-rest history octets x n le first later (suc k) lt =
    let here : length (history ++ x ∷ []) + k ≡ length history + suc k = omega (arith, length_push history x) in
    rw (← append_assoc history (x ∷ []) octets, ← here) (later k (omega arith))

-- The aligner after such octets, each of which has a slot.
pub rest-passes : (age ws wd : ℕ) (history octets : List ℕ) → HasHistory (record { phase = Aligned age ws wd }) history
    → (0 < length octets → age % 32 ≢ 0) → age % 32 + length octets ≤ 32
    → HasHistory (record { phase = Aligned ((age + length octets) % 64) ws wd }) (history ++ octets)
    × ((k : ℕ) → k < length octets → 0 < number_of (place (history ++ octets) (length history + k)))
rest-passes age ws wd history [] h begun fits = grind (arith, append-nil history)
rest-passes age ws wd history (x ∷ octets) h begun fits =
    let ne = begun (omega arith) in
    let more = between-signals h.since x age ws wd h.fields ((age + 1) % 64) ne (λ _. refl) in
    let next = since-more frame_alignment _ history h.earlier h.since x h.whole h.over more in
    let placed = place-aligned (last_of None h.earlier) h.since x _ _ _ _ _ _ h.fields more
    ∙ place-history frames history h.earlier h.since x h.whole h.over in
    let later = rest-passes ((age + 1) % 64) ws wd (history ++ x ∷ []) octets next
    (λ lt. omega (arith, lt, ne)) (omega arith) in
    let same : ((age + 1) % 64 + length octets) % 64 ≡ (age + suc (length octets)) % 64 = omega arith in (
      rw (← same, ← append_assoc history (x ∷ []) octets) later.0,
      begins-rest history octets x (length octets) (omega arith)
          (subst (λ p. 0 < number_of p) placed (omega (arith, ne))) later.1,
    )

-- The same, with the next age as it is computed.
pub rest-stands : (age ws wd next : ℕ) (history octets : List ℕ)
    → HasHistory (record { phase = Aligned age ws wd }) history → (0 < length octets → age % 32 ≢ 0)
    → age % 32 + length octets ≤ 32 → next ≡ (age + length octets) % 64
    → HasHistory (record { phase = Aligned next ws wd }) (history ++ octets)
rest-stands age ws wd next history octets h begun fits is =
    rw is (rest-passes age ws wd history octets h begun fits).0
