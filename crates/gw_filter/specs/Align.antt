-- Octets of an unaligned trunk, and those of its time slots, from a source to a sink.
use Rattle.std.specs.Prelude.{ℕ, List, [], ◌∷◌, ◌++◌}
use Rattle.g704_bits.specs.Bits.{aligned_octet}
use Rattle.gw_records.specs.declared.outcome.Totals.{Totals}
use Rattle.gw_records.specs.declared.outcome.RunFault.{RunFault}
use Rattle.gw_records.specs.Streams.{SourceState, SinkState}
use Rattle.gw_filter.specs.Filter.{Filters, FiltersUntil, RepliesTo}

-- The octet of the time slots returned for the one after these.
abbrev pub align_reply : List ℕ → ℕ → ℕ
align_reply before octet = aligned_octet (before ++ octet ∷ [])

-- The source gave octets to its end, and the sink took the time slots' octets for all of them.
abbrev pub Aligns : SourceState → SourceState → SinkState → SinkState → Totals → Type 0
Aligns source source' sink sink' totals =
    Filters (RepliesTo align_reply) source source' sink sink' totals

-- How aligning ends before the end of the source.
abbrev pub AlignsUntil : SourceState → SourceState → SinkState → SinkState → RunFault → Type 0
AlignsUntil source source' sink sink' fault =
    FiltersUntil (RepliesTo align_reply) source source' sink sink' fault
