-- Octets and reports that arrive, one part after another.
use Rattle.std.proofs.Common.{rules, ◌≡◌, ◌+◌, ◌<◌, ℕ, suc, Bool, List, [], ◌∷◌, ◌++◌, length, take, get_or, map}
use Rattle.std.proofs.Common.{Option, Some, drop, ◌%◌, refl, sym, ap, ◌∙◌, arith, append_assoc, append-nil}
use Rattle.std.proofs.lemmas.Grind.{common_steps}
use Rattle.std.proofs.lemmas.List.{map-append, length_push}
use Rattle.std.proofs.Math.Seq.{take-add}
use Rattle.std.specs.Io.KnownBytes.{Appends}
use Rattle.g704_framing.specs.Replies.{replies_after}
use Rattle.g704_framing.proofs.Replies.{replies-append}
use Rattle.std.specs.Prelude.{◌≢◌}
use Rattle.g704_crc4.proofs.Reports.{e-bit-frame, without-bit}
use Rattle.g704_crc4.specs.declared.reporting.EBitReporter.{EBitReporter}
use Rattle.g704_crc4.specs.Multiframe.{sent_octet, sent_octets}
use Rattle.g704_crc4.specs.Reporting.{SenderInput, Octet, Errored, ReportsAfter, octet_count, has_e_bit, octet_with_e}
use Rattle.gw_filter.specs.Crc4.{trunk_octets_in, reports_in, with_e_bits}

-- The octets of arrivals, and of others after them.
pub octets-append : (a b : List SenderInput) → trunk_octets_in (a ++ b) ≡ trunk_octets_in a ++ trunk_octets_in b
unfolding trunk_octets_in
octets-append [] b = refl
octets-append (Octet x ∷ a) b = ap (λ xs. x ∷ xs) (octets-append a b)
octets-append (Errored n ∷ a) b = octets-append a b

-- The reports of arrivals, and of others after them.
pub reports-append : (a b : List SenderInput) → reports_in (a ++ b) ≡ reports_in a ++ reports_in b
unfolding reports_in
reports-append [] b = refl
reports-append (Octet x ∷ a) b = reports-append a b
reports-append (Errored n ∷ a) b = ap (λ xs. n ∷ xs) (reports-append a b)

-- The octets with E bits of arrivals, and of others after them.
pub with-e-append : (before a b : List SenderInput) → with_e_bits before (a ++ b)
    ≡ with_e_bits before a ++ with_e_bits (before ++ a) b
unfolding with_e_bits
with-e-append before [] b = ap (λ h. with_e_bits h b) (sym (append-nil before))
with-e-append before (Octet x ∷ a) b =
    cc (with-e-append (before ++ Octet x ∷ []) a b, append_assoc before (Octet x ∷ []) a)
with-e-append before (Errored n ∷ a) b =
    cc (with-e-append (before ++ Errored n ∷ []) a b, append_assoc before (Errored n ∷ []) a)

-- One octet more has its E bit.
pub with-e-octet : (a : List SenderInput) (x : ℕ) → with_e_bits [] (a ++ Octet x ∷ [])
    ≡ with_e_bits [] a ++ octet_with_e a x ∷ []
unfolding with_e_bits
with-e-octet a x = with-e-append [] a (Octet x ∷ [])

-- A report is no octet.
pub with-e-report : (a : List SenderInput) (n : ℕ) → with_e_bits [] (a ++ Errored n ∷ []) ≡ with_e_bits [] a
unfolding with_e_bits
with-e-report a n = with-e-append [] a (Errored n ∷ []) ∙ append-nil (with_e_bits [] a)

-- An octet with its E bit goes for each that arrives.
with-e-length : (before arrivals : List SenderInput) → length (with_e_bits before arrivals) ≡ octet_count arrivals
unfolding with_e_bits octet_count
with-e-length before [] = refl
with-e-length before (Octet x ∷ arrivals) = omega (arith, with-e-length (before ++ Octet x ∷ []) arrivals)
with-e-length before (Errored n ∷ arrivals) = with-e-length (before ++ Errored n ∷ []) arrivals

-- The next octet has an E bit if the next that is sent has one.
pub same-e-bit : (arrivals : List SenderInput) (has : Bool) → has ≡ has_e_bit (length (with_e_bits [] arrivals))
    → has ≡ has_e_bit (octet_count arrivals)
same-e-bit arrivals has e = e ∙ ap has_e_bit (with-e-length [] arrivals)

-- Octets that begin no frame go as they come, and report nothing.
pub without-bits : (bits : EBitReporter) (h : List SenderInput) (xs : List ℕ) → ReportsAfter bits h
    → ((k : ℕ) → k < length xs → (length (with_e_bits [] h) + k) % 32 ≢ 0)
    → (with_e_bits h (map Octet xs) ≡ xs) × ReportsAfter bits (h ++ map Octet xs)
unfolding with_e_bits
without-bits bits h [] s rest = (refl, rw (append-nil h) s)
without-bits bits h (x ∷ xs) s rest =
    let count = with-e-length [] h in
    let none = e-bit-frame (octet_count h) (λ e. rest 0 (omega arith) (omega (arith, e))) in
    let one = without-bit bits h x s none in
    let next : length (with_e_bits [] (h ++ Octet x ∷ [])) ≡ length (with_e_bits [] h) + 1
    = ap length (with-e-octet h x) ∙ length_push (with_e_bits [] h) (octet_with_e h x) in
    let more = without-bits bits (h ++ Octet x ∷ []) xs one.1
    (λ k lt e. rest (suc k) (omega arith) (omega (arith, e, next))) in (
      rw (← one.0) (ap (λ ys. x ∷ ys) more.0),
      rw (← append_assoc h (Octet x ∷ []) (map Octet xs)) more.1,
    )

-- What is sent, one octet more.
pub sent-more : (octets : List ℕ) (x : ℕ) → sent_octets (octets ++ x ∷ [])
    ≡ sent_octets octets ++ sent_octet octets x ∷ []
unfolding replies_after
sent-more octets x = replies-append sent_octet [] octets (x ∷ [])

-- The octets of octets that arrive.
pub octets-of-octets : (xs : List ℕ) → trunk_octets_in (map Octet xs) ≡ xs
unfolding trunk_octets_in
octets-of-octets [] = refl
octets-of-octets (x ∷ xs) = ap (λ ys. x ∷ ys) (octets-of-octets xs)

-- They have no report.
pub reports-of-octets : (xs : List ℕ) → reports_in (map Octet xs) ≡ []
unfolding reports_in
reports-of-octets [] = refl
reports-of-octets (x ∷ xs) = reports-of-octets xs

-- Reports that arrive have no octet.
pub octets-of-reports : (xs : List ℕ) → trunk_octets_in (map Errored xs) ≡ []
unfolding trunk_octets_in
octets-of-reports [] = refl
octets-of-reports (x ∷ xs) = octets-of-reports xs

-- The reports of reports that arrive.
pub reports-of-reports : (xs : List ℕ) → reports_in (map Errored xs) ≡ xs
unfolding reports_in
reports-of-reports [] = refl
reports-of-reports (x ∷ xs) = ap (λ ys. x ∷ ys) (reports-of-reports xs)

-- Arrivals of the first items, and of one more.
pub arrives-next : (arrive : ℕ → SenderInput) (a : List SenderInput) (xs : List ℕ) (i : ℕ) → i < length xs
    → (a ++ map arrive (take i xs)) ++ arrive (get_or xs i 0) ∷ [] ≡ a ++ map arrive (take (i + 1) xs)
arrives-next arrive a xs i lt = grind (arith, common_steps)

-- Arrivals of the first items, and of more.
pub arrives-more : (arrive : ℕ → SenderInput) (a : List SenderInput) (xs : List ℕ) (i n : ℕ)
    → (a ++ map arrive (take i xs)) ++ map arrive (take n (drop i xs)) ≡ a ++ map arrive (take (i + n) xs)
arrives-more arrive a xs i n = search (rules, append_assoc, map-append, take-add)

-- Octets known to have been given, and others after them.
pub given-after : (a b : Option (List ℕ)) (xs ys : List ℕ) → a ≡ Some xs → Appends a b ys → b ≡ Some (xs ++ ys)
given-after a b xs ys e p = grind (arith, common_steps)
