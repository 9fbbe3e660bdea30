-- What is reported by E bits, one arrival more.
use Rattle.g704_crc4.proofs.Common.{◌≡◌, ℕ, ◌+◌, ◌-◌, ◌%◌, ◌^◌, ◌≤◌, Bool, true, false, List, [], ◌∷◌, ◌++◌, refl}
use Rattle.g704_crc4.proofs.Common.{rules, common_steps, ap, ◌∙◌, arith, append_assoc, append-nil, ◌≢◌, min, not, ◌&&◌}
use Rattle.g704_crc4.proofs.Common.{◌==◌, eq-eqb, ne_eqb, bit_number, with_si}
use Rattle.std.specs.Prelude.{cond}
use Rattle.g704_crc4.specs.declared.reporting.EBitReporter.{EBitReporter}
use Rattle.g704_crc4.specs.Reporting.{SenderInput, Octet, Errored, octet_count, errored_in_all, has_e_bit}
use Rattle.g704_crc4.specs.Reporting.{unreported_after, unreported, octet_with_e, is_reported_by, zeros_after}
use Rattle.g704_crc4.specs.Reporting.{EachIsReported, NoneIsReported, ReportsAfter}

-- What is left after one octet more.
left-octet : (left place : ℕ) (h : List SenderInput) (x : ℕ) → unreported_after left place (h ++ Octet x ∷ [])
    ≡ cond (has_e_bit (place + octet_count h)) (unreported_after left place h - 1) (unreported_after left place h)
unfolding octet_count unreported_after
left-octet left place [] x = grind (arith, common_steps)
left-octet left place (Octet y ∷ h) x =
    let e : place + 1 + octet_count h ≡ place + (octet_count h + 1) = omega arith in
    let now = cond (has_e_bit place) (left - 1) left in
    let after = unreported_after now (place + 1) h in
    left-octet now (place + 1) h x ∙ ap (λ p. cond (has_e_bit p) (after - 1) after) e
left-octet left place (Errored n ∷ h) x = left-octet (min (left + n) (2 ^ 32 - 1)) place h x

-- What is left after one report more.
left-errored : (left place : ℕ) (h : List SenderInput) (n : ℕ) → unreported_after left place (h ++ Errored n ∷ [])
    ≡ min (unreported_after left place h + n) (2 ^ 32 - 1)
unfolding unreported_after
left-errored left place [] n = refl
left-errored left place (Octet y ∷ h) n = left-errored (cond (has_e_bit place) (left - 1) left) (place + 1) h n
left-errored left place (Errored m ∷ h) n = left-errored (min (left + m) (2 ^ 32 - 1)) place h n

-- What is not yet reported after one octet more: an E bit reports one.
pub unreported-octet : (h : List SenderInput) (x : ℕ) → unreported (h ++ Octet x ∷ [])
    ≡ cond (has_e_bit (octet_count h)) (unreported h - 1) (unreported h)
unreported-octet h x = grind (arith, left-octet 0 0 h x)

-- What is not yet reported with more to report.
pub unreported-errored : (h : List SenderInput) (n : ℕ) → unreported (h ++ Errored n ∷ [])
    ≡ min (unreported h + n) (2 ^ 32 - 1)
unreported-errored h n = left-errored 0 0 h n

-- An octet reports one, or none.
one-less : (has : Bool) (left : ℕ) → bit_number (has && not (left == 0)) + cond has (left - 1) left ≡ left
one-less has left = search rules

-- Reports and what is left, after more arrivals.
reported-from : (before rest : List SenderInput) → unreported before + errored_in_all rest ≤ 2 ^ 32 - 1
    → zeros_after before rest + unreported (before ++ rest) ≡ unreported before + errored_in_all rest
unfolding zeros_after errored_in_all is_reported_by
reported-from before [] le = omega (arith, ap unreported (append-nil before))
reported-from before (Octet x ∷ rest) le =
    let now = one-less (has_e_bit (octet_count before)) (unreported before) in
    let next = unreported-octet before x in
    let later = reported-from (before ++ Octet x ∷ []) rest (omega (arith, now, next)) in
    omega (arith, now, next, later, ap unreported (append_assoc before (Octet x ∷ []) rest))
reported-from before (Errored n ∷ rest) le =
    let next = unreported-errored before n in
    let later = reported-from (before ++ Errored n ∷ []) rest (omega (arith, next)) in
    omega (arith, next, later, ap unreported (append_assoc before (Errored n ∷ []) rest))

-- Each errored submultiframe is reported or not yet.
pub each_reported : EachIsReported
unfolding unreported_after
each_reported arrivals le = search (rules, reported-from)

-- Without any there is nothing to report.
pub none_reported : NoneIsReported
none_reported arrivals e = omega (arith, each_reported arrivals (omega (arith, e)), e)

-- An octet that begins no frame has no E bit.
pub e-bit-frame : (place : ℕ) → place % 32 ≢ 0 → has_e_bit place ≡ false
unfolding has_e_bit
e-bit-frame place ne = grind (arith, common_steps)

-- The first E bit of a multiframe.
pub e-bit-first : (place : ℕ) → place % 512 ≡ 416 → has_e_bit place ≡ true
unfolding has_e_bit
e-bit-first place e = rw (eq-eqb (place % 512) 416 e) refl

-- The second one.
pub e-bit-second : (place : ℕ) → place % 512 ≢ 416 → has_e_bit place ≡ (place % 512 == 480)
unfolding has_e_bit
e-bit-second place ne = rw (ne_eqb (place % 512) 416 ne) refl

-- The place of an E bit is the same modulo 2^16.
pub e-bit-place : (p n : ℕ) → p ≡ n % 65536 → has_e_bit p ≡ has_e_bit n
unfolding has_e_bit
e-bit-place p n e = let same : p % 512 ≡ n % 512 = omega (arith, e) in rw same refl

-- One octet more that has no E bit.
pub without-bit : (bits : EBitReporter) (h : List SenderInput) (x : ℕ) → ReportsAfter bits h
    → has_e_bit (octet_count h) ≡ false → (x ≡ octet_with_e h x) × ReportsAfter bits (h ++ Octet x ∷ [])
unfolding octet_with_e
without-bit bits h x s none = grind (arith, unreported-octet h x)

-- One octet more that has one.
pub with-bit : (bits : EBitReporter) (h : List SenderInput) (x left : ℕ) → ReportsAfter bits h
    → has_e_bit (octet_count h) ≡ true → left ≡ bits.unreported - 1
    → (with_si (bits.unreported == 0) x ≡ octet_with_e h x)
    × ReportsAfter (record { unreported = left }) (h ++ Octet x ∷ [])
unfolding octet_with_e
with-bit bits h x left s one less = grind (arith, unreported-octet h x)
