-- A sender of CRC-4 multiframes, one arrival more.
use Rattle.std.proofs.Common.{rules, ◌≡◌, ◌+◌, ◌<◌, ◌≤◌, ℕ, suc, List, [], ◌∷◌, ◌++◌, length, take, drop, get_or}
use Rattle.std.proofs.Common.{slice_set, map, Option, Some, sym, ap, ◌∙◌, arith, append_assoc, append-nil}
use Rattle.std.proofs.Common.{length-append, ◌%◌, length-drop}
use Rattle.std.proofs.lemmas.Grind.{common_steps}
use Rattle.std.specs.Prelude.{◌≢◌}
use Rattle.std.proofs.Math.Seq.{drop-append_seam, drop-cons, set-append_seam, get_or-append_seam}
use Rattle.std.proofs.lemmas.List.{length-set, length-take-le, take_all, drop_all, drop-drop, take-append-drop}
use Rattle.g704_framing.specs.Replies.{replies_after}
use Rattle.g704_framing.proofs.Replies.{replies-append}
use Rattle.std.specs.Io.KnownBytes.{Appends}
use Rattle.g704_crc4.specs.Multiframe.{sent_octet, sent_octets}
use Rattle.g704_crc4.specs.Reporting.{SenderInput, Octet, Errored, ReportsAfter, octet_with_e}
use Rattle.g704_crc4.specs.States.{SendsAfter}
use Rattle.gw_filter.specs.declared.sending.Crc4Sender.{Crc4Sender}
use Rattle.gw_filter.specs.Crc4.{with_e_bits, sent_for, trunk_octets_in, reports_in, SendsCrc4, HasSent, IsFramed}
use Rattle.gw_filter.proofs.Arrivals.{with-e-octet, with-e-report, sent-more, arrives-next, arrives-more, given-after}
use Rattle.gw_filter.proofs.Arrivals.{with-e-append, without-bits, octets-append, reports-append, octets-of-octets}
use Rattle.gw_filter.proofs.Arrivals.{reports-of-octets, octets-of-reports, reports-of-reports}

-- The same arrivals, and the same octets sent.
pub sends-same : (s : Crc4Sender) (a b : List SenderInput) (xs ys : List ℕ) → a ≡ b → xs ≡ ys → SendsCrc4 s a xs
    → SendsCrc4 s b ys
sends-same s a b xs ys e f p = rw (← e, ← f) p

-- After one octet more.
pub octet-sent : (a b : Crc4Sender) (arrivals : List SenderInput) (sent : List ℕ) (x with_bit y : ℕ)
    → SendsCrc4 a arrivals sent → with_bit ≡ octet_with_e arrivals x
    → ReportsAfter b.error_bits (arrivals ++ Octet x ∷ []) → y ≡ sent_octet (with_e_bits [] arrivals) with_bit
    → SendsAfter b.multiframer (with_e_bits [] arrivals ++ with_bit ∷ [])
    → SendsCrc4 b (arrivals ++ Octet x ∷ []) (sent ++ y ∷ [])
octet-sent a b arrivals sent x with_bit y s is bits reply multiframer = search (rules, with-e-octet, sent-more)

-- After more octets that begin no frame.
pub octets-without : (a b : Crc4Sender) (arrivals : List SenderInput) (sent xs : List ℕ) → SendsCrc4 a arrivals sent
    → ((k : ℕ) → k < length xs → (length (with_e_bits [] arrivals) + k) % 32 ≢ 0) → b.error_bits ≡ a.error_bits
    → replies_after sent_octet (with_e_bits [] arrivals) xs ≡ xs
    → SendsAfter b.multiframer (with_e_bits [] arrivals ++ xs)
    → SendsCrc4 b (arrivals ++ map Octet xs) (sent ++ xs)
octets-without a b arrivals sent xs s rest same reply multiframer =
    let unchanged = without-bits a.error_bits arrivals xs s.bits rest in
    let all = with-e-append [] arrivals (map Octet xs) ∙ ap (λ ys. with_e_bits [] arrivals ++ ys) unchanged.0 in
    record {
      bits = rw same unchanged.1;
      multiframer = rw all multiframer;
      sent_is = ap (λ ys. ys ++ xs) s.sent_is ∙ ap (λ ys. sent_for arrivals ++ ys) (sym reply)
          ∙ sym (replies-append sent_octet [] (with_e_bits [] arrivals) xs) ∙ ap sent_octets (sym all);
    }

-- After one report more.
pub report-taken : (a b : Crc4Sender) (arrivals : List SenderInput) (sent : List ℕ) (n : ℕ) → SendsCrc4 a arrivals sent
    → ReportsAfter b.error_bits (arrivals ++ Errored n ∷ []) → b.multiframer ≡ a.multiframer
    → SendsCrc4 b (arrivals ++ Errored n ∷ []) sent
report-taken a b arrivals sent n s bits same = grind (arith, same, with-e-report arrivals n)

-- The octets up to a place are sent, the others are as they came.
pub record IsSentTo (first sender : Crc4Sender) (old now : List ℕ) (i : ℕ) : Type 0 where
  pub done : List ℕ
  pub counted : length done ≡ i
  pub within : i ≤ length old
  pub len : length now ≡ length old
  pub now_is : now ≡ done ++ drop i old
  pub sends : (arrivals : List SenderInput) (sent : List ℕ) → SendsCrc4 first arrivals sent
      → SendsCrc4 sender (arrivals ++ map Octet (take i old)) (sent ++ done)

-- The next octet of the slice is sent.
pub one_sent : (first sender after : Crc4Sender) (old now : List ℕ) (i y : ℕ) → IsSentTo first sender old now i
    → i < length now
    → ((arrivals : List SenderInput) (sent : List ℕ) → SendsCrc4 sender arrivals sent
    → SendsCrc4 after (arrivals ++ Octet (get_or now i 0) ∷ []) (sent ++ y ∷ []))
    → IsSentTo first after old (slice_set now i y) (i + 1)
one_sent first sender after old now i y so lt step = record {
  done = so.done ++ y ∷ [];
  counted = omega (arith, length-append so.done (y ∷ []), so.counted);
  within = omega (arith, so.len);
  len = length-set now i y ∙ so.len;
  now_is = ap (λ (xs : List ℕ). slice_set xs i y) split
      ∙ ap (λ (k : ℕ). slice_set (so.done ++ get_or old i 0 ∷ drop (suc i) old) k y) (sym so.counted)
      ∙ set-append_seam so.done (get_or old i 0) (drop (suc i) old) y
      ∙ sym (append_assoc so.done (y ∷ []) (drop (suc i) old))
      ∙ ap (λ (k : ℕ). (so.done ++ y ∷ []) ++ drop k old) one;
  sends = λ arrivals sent s.
      sends-same after _ _ _ _
      (ap (λ x. (arrivals ++ map Octet (take i old)) ++ Octet x ∷ []) same
      ∙ arrives-next Octet arrivals old i (omega (arith, so.len)))
      (append_assoc sent so.done (y ∷ []))
      (step (arrivals ++ map Octet (take i old)) (sent ++ so.done) (so.sends arrivals sent s));
}
  where
    one : suc i ≡ i + 1
    one = omega arith

    split : now ≡ so.done ++ get_or old i 0 ∷ drop (suc i) old
    split = so.now_is ∙ ap (λ (xs : List ℕ). so.done ++ xs) (drop-cons old i 0 (omega (arith, so.len)))

    same : get_or now i 0 ≡ get_or old i 0
    same = ap (λ (xs : List ℕ). get_or xs i 0) split
        ∙ ap (λ (k : ℕ). get_or (so.done ++ get_or old i 0 ∷ drop (suc i) old) k 0) (sym so.counted)
        ∙ get_or-append_seam so.done (get_or old i 0) (drop (suc i) old) 0

-- More octets of the slice are sent as they came.
pub some_sent : (first sender after : Crc4Sender) (old now : List ℕ) (i n : ℕ) → IsSentTo first sender old now i
    → n ≤ length (drop i now)
    → ((arrivals : List SenderInput) (sent : List ℕ) → SendsCrc4 sender arrivals sent
    → SendsCrc4 after (arrivals ++ map Octet (take n (drop i now))) (sent ++ take n (drop i now)))
    → IsSentTo first after old now (i + n)
some_sent first sender after old now i n so le step = record {
  done = so.done ++ take n (drop i old);
  counted = omega (arith, length-append so.done (take n (drop i old)), length-take-le n (drop i old) fits, so.counted);
  within = omega (arith, fits, length-drop i old, so.within);
  len = so.len;
  now_is = so.now_is ∙ ap (λ (xs : List ℕ). so.done ++ xs) (sym (take-append-drop n (drop i old))
      ∙ ap (λ (xs : List ℕ). take n (drop i old) ++ xs) (drop-drop n i old))
      ∙ sym (append_assoc so.done (take n (drop i old)) (drop (i + n) old));
  sends = λ arrivals sent s.
      sends-same after _ _ _ _
      (ap (λ (xs : List ℕ). (arrivals ++ map Octet (take i old)) ++ map Octet (take n xs)) same
      ∙ arrives-more Octet arrivals old i n)
      (ap (λ (xs : List ℕ). (sent ++ so.done) ++ take n xs) same ∙ append_assoc sent so.done (take n (drop i old)))
      (step (arrivals ++ map Octet (take i old)) (sent ++ so.done) (so.sends arrivals sent s));
}
  where
    same : drop i now ≡ drop i old
    same = ap (drop i) so.now_is ∙ ap (λ (k : ℕ). drop k (so.done ++ drop i old)) (sym so.counted)
        ∙ drop-append_seam so.done (drop i old)

    fits : n ≤ length (drop i old)
    fits = rw same at le

-- All of them are sent.
pub all_sent : (first sender : Crc4Sender) (old now : List ℕ) (i : ℕ) → IsSentTo first sender old now i
    → length now ≤ i → (arrivals : List SenderInput) (sent : List ℕ) → SendsCrc4 first arrivals sent
    → SendsCrc4 sender (arrivals ++ map Octet old) (sent ++ now)
all_sent first sender old now i so end arrivals sent s =
    sends-same sender _ _ _ _
    (ap (λ (xs : List ℕ). arrivals ++ map Octet xs) (take_all i old (omega (arith, so.len))))
    (ap (λ (xs : List ℕ). sent ++ xs) (sym (so.now_is
    ∙ ap (λ (xs : List ℕ). so.done ++ xs) (drop_all i old (omega (arith, so.len))) ∙ append-nil so.done)))
    (so.sends arrivals sent s)

-- After more reports, and then more octets.
pub more_sent : (a b : Crc4Sender) (given given' : Option (List ℕ)) (reports taken returned old new : List ℕ)
    → (s : HasSent a given taken returned) → Appends given given' reports
    → SendsCrc4 b ((s.arrivals ++ map Errored reports) ++ map Octet old) (returned ++ new)
    → HasSent b given' (taken ++ old) (returned ++ new)
more_sent a b given given' reports taken returned old new s came sends =
    let first = s.arrivals ++ map Errored reports in
    record {
      arrivals = first ++ map Octet old;
      octets_are = ap (λ xs. xs ++ old) (s.octets_are ∙ sym (append-nil (trunk_octets_in s.arrivals))
          ∙ ap (λ xs. trunk_octets_in s.arrivals ++ xs) (sym (octets-of-reports reports))
          ∙ sym (octets-append s.arrivals (map Errored reports)))
          ∙ ap (λ xs. trunk_octets_in first ++ xs) (sym (octets-of-octets old))
          ∙ sym (octets-append first (map Octet old));
      reports_are = given-after given given' (reports_in s.arrivals) reports s.reports_are came
          ∙ ap Some (ap (λ xs. reports_in s.arrivals ++ xs) (sym (reports-of-reports reports))
          ∙ sym (reports-append s.arrivals (map Errored reports)) ∙ sym (append-nil (reports_in first))
          ∙ ap (λ xs. reports_in first ++ xs) (sym (reports-of-octets old))
          ∙ sym (reports-append first (map Octet old)));
      sends = sends;
    }

-- What is known of the octets and the reports alone.
pub is_sent : (sender : Crc4Sender) (given : Option (List ℕ)) (octets sent : List ℕ) → HasSent sender given octets sent
    → IsFramed given octets sent
is_sent sender given octets sent s = grind (arith, common_steps)
