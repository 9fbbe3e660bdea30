-- Both ends of a session (module `line`).
use Rattle.std.specs.Prelude.{ℕ, List}
use Rattle.gw_records.specs.Reader.{Held}
use Rattle.gw_records.specs.Streams.{SourceState, SinkState}

-- what records come from: the state of the source, and what came of it and is not passed
pub record Input : Type 0 where
  pub source : SourceState
  pub held : Held

-- what answers go to: the state of the sink, and the octets that wait to be written to it
pub record Output : Type 0 where
  pub sink : SinkState
  pub waiting : List ℕ

-- what stays through a session: how many octets wait at most once an answer is put, and which source and sink
-- are lent, by the names of their references
pub record Terms : Type 0 where
  pub late : ℕ
  pub lent : ℕ × ℕ
