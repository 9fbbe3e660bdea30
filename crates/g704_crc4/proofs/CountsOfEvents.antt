-- What is counted, one octet more.
use Rattle.g704_crc4.proofs.Common.{◌≡◌, ℕ, ◌+◌, ◌-◌, Bool, List, [], ◌∷◌, ◌++◌, Option, None, sym, rules, ap, ◌∙◌}
use Rattle.g704_crc4.proofs.Common.{arith, append_assoc, append-nil, bit_number, learned, tells_given_up, times_after}
use Rattle.g704_crc4.proofs.Common.{receiver_counts_with, Some, refl}
use Rattle.std.specs.Prelude.{is_some}
use Rattle.g704_crc4.specs.declared.receiving.ReceiverEvent.{ReceiverEvent}
use Rattle.g704_crc4.specs.declared.receiving.Receiver.{Receiver}
use Rattle.g704_crc4.specs.declared.counting.ReceiverCounts.{ReceiverCounts}
use Rattle.g704_crc4.specs.declared.counting.TrunkChecker.{TrunkChecker}
use Rattle.g704_crc4.specs.Receivers.{ChecksTrunk, ReceivesAfter}
use Rattle.g704_crc4.specs.ReceiverCounts.{tells_block, tells_errored, tells_far_end, tells_found, tells_lost, times}
use Rattle.g704_crc4.specs.ReceiverCounts.{count_with, receiver_counts_of}

-- How many octets have an event, with one more octet.
times-push : (passes : Option ReceiverEvent → Bool) (before octets : List ℕ) (x : ℕ)
    → times_after passes before (octets ++ x ∷ [])
    ≡ times_after passes before octets + bit_number (passes (learned (before ++ octets) x))
unfolding times_after
times-push passes before [] x =
    omega (arith, ap (λ (xs : List ℕ). bit_number (passes (learned xs x))) (append-nil before))
times-push passes before (y ∷ octets) x =
    grind (arith, times-push passes (before ++ y ∷ []) octets x, append_assoc before (y ∷ []) octets)

-- The same as a count.
counted-is : (passes : Option ReceiverEvent → Bool) (history : List ℕ) (x : ℕ)
    → count_with (times passes history) (passes (learned history x)) ≡ times passes (history ++ x ∷ [])
counted-is passes history x = grind (arith, times-push passes [] history x)

-- Counts are the same that are so one by one.
same_counts : (a b c d e f a' b' c' d' e' f' : ℕ) → a ≡ a' → b ≡ b' → c ≡ c' → d ≡ d' → e ≡ e' → f ≡ f'
    → ◌≡◌ {A = ReceiverCounts}
    (record { submultiframes = a; errored = b; far_end_errored = c; found = d; lost = e; given_up = f })
    (record { submultiframes = a'; errored = b'; far_end_errored = c'; found = d'; lost = e'; given_up = f' })
same_counts a b c d e f a' b' c' d' e' f' p q r s t u = cc

-- All counts take the next octet.
pub receiver_counts-more : (history : List ℕ) (x : ℕ)
    → receiver_counts_with (receiver_counts_of history) (learned history x)
    ≡ receiver_counts_of (history ++ x ∷ [])
receiver_counts-more history x =
    same_counts _ _ _ _ _ _ _ _ _ _ _ _ (counted-is tells_block history x) (counted-is tells_errored history x)
    (counted-is tells_far_end history x) (counted-is tells_found history x) (counted-is tells_lost history x)
    (counted-is tells_given_up history x)

-- Where nothing is learned they stay.
pub receiver_counts-same : (history : List ℕ) (x : ℕ) → None ≡ learned history x
    → receiver_counts_of history ≡ receiver_counts_of (history ++ x ∷ [])
receiver_counts-same history x e = ap (receiver_counts_with (receiver_counts_of history)) e
    ∙ receiver_counts-more history x

-- Where nothing is learned by many they stay.
pub receiver_counts-silent : (history octets : List ℕ) → times_after is_some history octets ≡ 0
    → receiver_counts_of history ≡ receiver_counts_of (history ++ octets)
unfolding times_after
receiver_counts-silent history [] e = ap receiver_counts_of (sym (append-nil history))
receiver_counts-silent history (x ∷ octets) e =
    receiver_counts-same history x (no_event (learned history x) (omega (arith, e)))
    ∙ receiver_counts-silent (history ++ x ∷ []) octets (omega (arith, e))
    ∙ ap receiver_counts_of (append_assoc history (x ∷ []) octets)
  where
    no_event : (o : Option ReceiverEvent) → bit_number (is_some o) ≡ 0 → None ≡ o
    no_event None none = refl
    no_event (Some event) none = absurd (omega (arith, none))

-- A checker of a trunk, more octets by which nothing is learned.
pub checks-silent : (checker : TrunkChecker) (receiver : Receiver) (history octets : List ℕ)
    → ChecksTrunk checker history → ReceivesAfter receiver (history ++ octets)
    → times_after is_some history octets ≡ 0
    → ChecksTrunk (record checker { receiver = receiver }) (history ++ octets)
checks-silent checker receiver history octets s receives none = search (rules, receiver_counts-silent)
