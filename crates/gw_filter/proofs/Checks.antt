-- A checker of CRC-4 multiframes, with more octets and reports.
use Rattle.std.proofs.lemmas.Grind.{common_steps}
use Rattle.std.proofs.Common.{◌≡◌, ◌+◌, ◌-◌, ◌≤◌, ℕ, Bool, List, [], ◌∷◌, ◌++◌, Option, ap, arith, append_assoc}
use Rattle.std.proofs.Common.{append-nil}
use Rattle.std.proofs.lemmas.List.Sums.{sum_by-append}
use Rattle.std.specs.Prelude.{sum}
use Rattle.g704_crc4.specs.declared.receiving.ReceiverEvent.{ReceiverEvent}
use Rattle.g704_crc4.specs.declared.counting.ReceiverCounts.{ReceiverCounts}
use Rattle.g704_crc4.specs.declared.counting.TrunkChecker.{TrunkChecker}
use Rattle.g704_crc4.specs.Receivers.{ChecksTrunk}
use Rattle.g704_crc4.specs.ReceiverCounts.{times_after, tells_errored, receiver_counts_of}
use Rattle.gw_filter.specs.Check.{HasReported}

-- Events of octets, and of others after them.
times-append : (passes : Option ReceiverEvent → Bool) (before a b : List ℕ)
    → times_after passes before (a ++ b) ≡ times_after passes before a + times_after passes (before ++ a) b
unfolding times_after
times-append passes before [] b = omega (arith, ap (λ h. times_after passes h b) (append-nil before))
times-append passes before (x ∷ a) b =
    grind (arith, times-append passes (before ++ x ∷ []) a b, append_assoc before (x ∷ []) a)

-- Errored submultiframes only become more.
errored-grows : (a b : List ℕ) → (receiver_counts_of a).errored ≤ (receiver_counts_of (a ++ b)).errored
errored-grows a b = omega (arith, times-append tells_errored [] a b)

-- A sum with one more number.
sum-more : (xs : List ℕ) (x : ℕ) → sum (xs ++ x ∷ []) ≡ sum xs + x
sum-more xs x = omega (arith, sum_by-append (λ x. x) xs (x ∷ []))

-- Before the first octet.
pub none_checked : (checker : TrunkChecker) (reports : List ℕ) → ChecksTrunk checker [] → reports ≡ []
    → HasReported checker 0 reports [] []
unfolding times_after
none_checked checker reports s none = grind (arith, common_steps)

-- After more octets, which are returned as they came.
pub more_checked : (a b : TrunkChecker) (reported : ℕ) (reports octets returned old : List ℕ)
    → HasReported a reported reports octets returned → ChecksTrunk b (octets ++ old)
    → HasReported b reported reports (octets ++ old) (returned ++ old)
more_checked a b reported reports octets returned old s checks =
    let grows = errored-grows octets old in
    record {
      checks = checks;
      same = ap (λ xs. xs ++ old) s.same;
      total = s.total;
      unreported = (receiver_counts_of (octets ++ old)).errored - reported;
      others = omega (arith, s.others, grows);
    }

-- After a report.
pub report_sent : (checker : TrunkChecker) (reported reported' count : ℕ) (reports reports' octets returned : List ℕ)
    (receiver_counts : ReceiverCounts) → HasReported checker reported reports octets returned
    → receiver_counts ≡ receiver_counts_of octets
    → count ≤ receiver_counts.errored - reported → reports' ≡ reports ++ count ∷ [] → reported' ≡ reported + count
    → HasReported checker reported' reports' octets returned
report_sent checker reported reported' count reports reports' octets returned receiver_counts s is few sent more =
    let errored = ap (λ (t : ReceiverCounts). t.errored) is in
    record {
      checks = s.checks;
      same = s.same;
      total = omega (arith, ap (λ (xs : List ℕ). sum xs) sent, sum-more reports count, s.total, more);
      unreported = s.unreported - count;
      others = omega (arith, s.others, errored, few, more);
    }
