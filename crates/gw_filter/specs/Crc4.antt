-- The octets of a trunk, and the same octets with CRC-4 multiframes, from a source to a sink. Errored
-- submultiframes of the other direction are reported by their E bits (ITU-T G.704, 2.3.3.4).
use Rattle.std.specs.Prelude.{◌≡◌, ℕ, List, [], ◌∷◌, ◌++◌, Option, Some}
use Rattle.g704_crc4.specs.Multiframe.{sent_octets}
use Rattle.g704_crc4.specs.Reporting.{SenderInput, Octet, Errored, ReportsAfter, octet_with_e}
use Rattle.g704_crc4.specs.States.{SendsAfter}
use Rattle.gw_records.specs.declared.outcome.Totals.{Totals}
use Rattle.gw_records.specs.declared.outcome.RunFault.{RunFault}
use Rattle.gw_records.specs.Streams.{SourceState, SinkState}
use Rattle.gw_filter.specs.declared.sending.Crc4Sender.{Crc4Sender}
use Rattle.gw_filter.specs.Filter.{Filters, FiltersUntil}

-- The octets among these, in their order.
unfoldable pub trunk_octets_in : List SenderInput → List ℕ
trunk_octets_in [] = []
trunk_octets_in (Octet octet ∷ arrivals) = octet ∷ trunk_octets_in arrivals
trunk_octets_in (Errored count ∷ arrivals) = trunk_octets_in arrivals

-- The reports among these, each a number of errored submultiframes.
unfoldable pub reports_in : List SenderInput → List ℕ
reports_in [] = []
reports_in (Octet octet ∷ arrivals) = reports_in arrivals
reports_in (Errored count ∷ arrivals) = count ∷ reports_in arrivals

-- The octets among these, after others, with their E bits.
unfoldable pub with_e_bits : List SenderInput → List SenderInput → List ℕ
with_e_bits before [] = []
with_e_bits before (Octet octet ∷ arrivals) =
    octet_with_e before octet ∷ with_e_bits (before ++ Octet octet ∷ []) arrivals
with_e_bits before (Errored count ∷ arrivals) = with_e_bits (before ++ Errored count ∷ []) arrivals

-- The octets sent for these: with E bits, and then with multiframes.
abbrev pub sent_for : List SenderInput → List ℕ
sent_for arrivals = sent_octets (with_e_bits [] arrivals)

-- A sender after these, with what it has sent.
pub record SendsCrc4 (sender : Crc4Sender) (arrivals : List SenderInput) (sent : List ℕ) : Type 0 where
  pub bits : ReportsAfter sender.error_bits arrivals
  pub multiframer : SendsAfter sender.multiframer (with_e_bits [] arrivals)
  pub sent_is : sent ≡ sent_for arrivals

-- Octets as they came and as they were sent. The reports given so far came between them.
pub record IsFramed (reports : Option (List ℕ)) (octets sent : List ℕ) : Type 0 where
  pub arrivals : List SenderInput
  pub octets_are : octets ≡ trunk_octets_in arrivals
  pub reports_are : reports ≡ Some (reports_in arrivals)
  pub sent_is : sent ≡ sent_for arrivals

-- A sender after octets and reports, with what it has sent.
pub record HasSent (sender : Crc4Sender) (reports : Option (List ℕ)) (octets sent : List ℕ) : Type 0 where
  pub arrivals : List SenderInput
  pub octets_are : octets ≡ trunk_octets_in arrivals
  pub reports_are : reports ≡ Some (reports_in arrivals)
  pub sends : SendsCrc4 sender arrivals sent

-- The source gave octets to its end, and the sink took all of them with multiframes. These reports came
-- meanwhile.
abbrev pub SendsMultiframes : Option (List ℕ) → SourceState → SourceState → SinkState → SinkState → Totals
    → Type 0
SendsMultiframes reports source source' sink sink' totals =
    Filters (IsFramed reports) source source' sink sink' totals

-- Sending ends before the end of the source.
abbrev pub SendsMultiframesUntil : Option (List ℕ) → SourceState → SourceState → SinkState → SinkState
    → RunFault → Type 0
SendsMultiframesUntil reports source source' sink sink' fault =
    FiltersUntil (IsFramed reports) source source' sink sink' fault
