-- The octets of a filter, from a source to a sink.
use Rattle.std.specs.Prelude.{◌≡◌, ℕ, List, length}
use Rattle.std.specs.Io.KnownBytes.{Appends, IsAtEnd}
use Rattle.g704_framing.specs.Replies.{stream_replies}
use Rattle.gw_records.specs.declared.outcome.Totals.{Totals}
use Rattle.gw_records.specs.declared.outcome.RunFault.{RunFault}
use Rattle.gw_records.specs.declared.outcome.RunFault.TheVariants.{Read, Write}
use Rattle.gw_records.specs.Streams.{SourceState, SinkState, GivesOctets, GivesUp, FailsAfterPrefix, at_most}
use Rattle.gw_records.specs.Outcome.{nothing_counted}

-- The totals after this many octets.
abbrev pub filter_totals : ℕ → Totals
filter_totals count = record nothing_counted { octets = at_most count }

-- What is returned for octets is the reply to each.
abbrev pub RepliesTo : (List ℕ → ℕ → ℕ) → List ℕ → List ℕ → Type 0
RepliesTo reply octets returned = returned ≡ stream_replies reply octets

-- The source gave octets to its end, and the sink took what the filter returned for them.
pub record Filters (Returns : List ℕ → List ℕ
    → Type 0) (source source' : SourceState) (sink sink' : SinkState)
    (totals : Totals) : Type 0 where
  pub octets : List ℕ
  pub returned : List ℕ
  pub returns : Returns octets returned
  pub gives : GivesOctets source source' octets
  pub ended : IsAtEnd source'.to_come
  pub took : Appends sink.taken sink'.taken returned
  pub totals_are : totals ≡ filter_totals (length octets)
  pub no_read : source'.failures ≡ source.failures
  pub no_write : sink'.failures ≡ sink.failures

-- A read failed, or there were 2 ^ 62 of them, each of which gave an octet. The sink took what the filter
-- returned for these octets.
pub record FiltersUntilRead (Returns : List ℕ → List ℕ → Type 0) (source source' : SourceState)
    (sink sink' : SinkState) : Type 0 where
  pub octets : List ℕ
  pub returned : List ℕ
  pub returns : Returns octets returned
  pub gives : GivesOctets source source' octets
  pub took : Appends sink.taken sink'.taken returned
  pub cause : GivesUp source source' octets
  pub no_write : sink'.failures ≡ sink.failures

-- A write failed. The sink took a prefix of what the filter returned.
pub record FiltersUntilWrite (Returns : List ℕ → List ℕ → Type 0) (source source' : SourceState)
    (sink sink' : SinkState) : Type 0 where
  pub octets : List ℕ
  pub returned : List ℕ
  pub returns : Returns octets returned
  pub gives : GivesOctets source source' octets
  pub breaks : FailsAfterPrefix sink sink' returned
  pub no_read : source'.failures ≡ source.failures

-- The end of a filter before that of the source: by a read or a write, and by no other fault.
abbrev pub FiltersUntil : (List ℕ → List ℕ → Type 0) → SourceState → SourceState → SinkState → SinkState
    → RunFault → Type 0
FiltersUntil Returns source source' sink sink' Read = FiltersUntilRead Returns source source' sink sink'
FiltersUntil Returns source source' sink sink' Write = FiltersUntilWrite Returns source source' sink sink'
FiltersUntil Returns source source' sink sink' _ = ⊥
