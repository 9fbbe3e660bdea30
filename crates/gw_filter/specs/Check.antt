-- The octets of a trunk, unchanged from a source to a sink, the counts of its CRC-4 multiframes, and the
-- reports of its errored submultiframes.
use Rattle.std.specs.Prelude.{◌≡◌, ◌⊎◌, ◌+◌, ℕ, List, [], ◌∷◌, ◌++◌, length, min, sum}
use Rattle.std.specs.Io.KnownBytes.{Appends, IsAtEnd}
use Rattle.g704_crc4.specs.ReceiverCounts.{receiver_counts_of}
use Rattle.g704_crc4.specs.Receivers.{ChecksTrunk}
use Rattle.g704_crc4.specs.declared.counting.TrunkChecker.{TrunkChecker}
use Rattle.gw_records.specs.declared.outcome.RunFault.{RunFault}
use Rattle.gw_records.specs.Streams.{SourceState, SinkState, GivesOctets}
use Rattle.gw_filter.specs.declared.checking.Checked.{Checked}
use Rattle.gw_filter.specs.Filter.{FiltersUntil, filter_totals}

-- This number of errored submultiframes of these octets is not yet reported; the reports sent add up to the
-- others.
abbrev pub AreReported : List ℕ → List ℕ → ℕ → Type 0
AreReported octets reports unreported = sum reports + unreported ≡ (receiver_counts_of octets).errored

-- Octets that were written as they were read. All but some of their errored submultiframes are reported.
pub record IsChecked (reports octets returned : List ℕ) : Type 0 where
  pub same : returned ≡ octets
  pub unreported : ℕ
  pub reported : AreReported octets reports unreported

-- A checker after octets, with the number that its reports add up to.
pub record HasReported (checker : TrunkChecker) (reported : ℕ)
    (reports octets returned : List ℕ) : Type 0 where
  pub checks : ChecksTrunk checker octets
  pub same : returned ≡ octets
  pub total : sum reports ≡ reported
  pub unreported : ℕ
  pub others : reported + unreported ≡ (receiver_counts_of octets).errored

-- The source gave octets to its end. The sink took the same octets; they were counted, and their errored
-- submultiframes reported, except for those counted as unreported.
pub record ChecksMultiframes (source source' : SourceState) (sink sink' : SinkState) (reports : List ℕ)
    (checked : Checked) : Type 0 where
  pub octets : List ℕ
  pub gives : GivesOctets source source' octets
  pub ended : IsAtEnd source'.to_come
  pub took : Appends sink.taken sink'.taken octets
  pub totals_are : checked.totals ≡ filter_totals (length octets)
  pub counts_are : checked.receiver_counts ≡ receiver_counts_of octets
  pub reported : AreReported octets reports checked.unreported
  pub no_read : source'.failures ≡ source.failures
  pub no_write : sink'.failures ≡ sink.failures

-- Checking ends before the end of the source: the sink took the octets that it gave, or a prefix of them.
abbrev pub ChecksMultiframesUntil : SourceState → SourceState → SinkState → SinkState → List ℕ → RunFault
    → Type 0
ChecksMultiframesUntil source source' sink sink' reports fault =
    FiltersUntil (IsChecked reports) source source' sink sink' fault

-- Errored submultiframes that are not reported yet are reported, at most this many at once, unless there are
-- none or the report was refused.
abbrev pub ReportsUpTo : ℕ → ℕ → List ℕ → List ℕ → Type 0 → Type 0
ReportsUpTo most unreported sent sent' Refused =
    (unreported ≡ 0) ⊎ (sent' ≡ sent ++ min unreported most ∷ []) ⊎ Refused
