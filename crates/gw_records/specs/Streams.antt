-- What sources and sinks report, and how reads and writes change it.
use Rattle.std.specs.Prelude.{◌≡◌, ◌==◌, ◌⊎◌, ◌+◌, ◌-◌, ◌<◌, ◌≤◌, ◌^◌, ◌&&◌, if◌then◌else◌, ◌++◌, ℕ, min}
use Rattle.std.specs.Prelude.{nat_lt, List, [], length, MatchResult, Option, Some, None}
use Rattle.std.specs.Prelude.{Result}
use Rattle.std.specs.Io.KnownBytes.{Appends, Consumes, IsAtEnd}
use Rattle.gw_records.specs.declared.line.AnswerTime.{AnswerTime}
use Rattle.gw_records.specs.declared.line.AnswerTime.TheVariants.{AtOnce, BeforeNextRead}
use Rattle.gw_records.specs.declared.outcome.RunFault.{RunFault}
use Rattle.gw_records.specs.declared.outcome.RunFault.TheVariants.{Write}

-- a source: its failed reads, its other reads and, if known, the octets that it gave and those to come
pub record SourceState : Type 0 where
  pub failures : ℕ
  pub reads : ℕ
  pub given : Option (List ℕ)
  pub to_come : Option (List ℕ)

-- a sink: its failures and, if known, the octets that it took
pub record SinkState : Type 0 where
  pub failures : ℕ
  pub taken : Option (List ℕ)

-- known octets, or none
abbrev pub or_none : Option (List ℕ) → List ℕ
or_none None = []
or_none (Some xs) = xs

-- a count, which saturates at the greatest u64
abbrev pub at_most : ℕ → ℕ
at_most n = min n (2 ^ 64 - 1)

-- a count of failures that can still rise
abbrev pub CanCount : ℕ → Type 0
CanCount failures = failures < 2 ^ 64 - 1

-- a session can begin on a source and a sink: it can count their failures, and the reads of a session
pub record CanBegin (source : SourceState) (sink : SinkState) : Type 0 where
  pub reads : CanCount source.failures
  pub turns : source.reads < 2 ^ 63
  pub writes : CanCount sink.failures

-- a read counts a failure exactly if it failed
abbrev pub CountsRead : {T E : Type 0} → ℕ → ℕ → Result T E → Type 0
CountsRead old new r = MatchResult r (λ _. new ≡ old) (λ _. new ≡ at_most (old + 1))

-- a read that did not fail counts
abbrev pub CountsTurn : {T E : Type 0} → ℕ → ℕ → Result T E → Type 0
CountsTurn old new r = MatchResult r (λ _. new ≡ at_most (old + 1)) (λ _. new ≡ old)

-- a write counts a failure if it failed, and if it took nothing of a nonempty piece
abbrev pub CountsWrite : {E : Type 0} → ℕ → ℕ → Result ℕ E → List ℕ → Type 0
CountsWrite old new r octets =
    MatchResult r (λ n. new ≡ (if n == 0 && nat_lt 0 (length octets) then at_most (old + 1) else old))
    (λ _. new ≡ at_most (old + 1))

-- the source gave these octets, if it reports them
pub record GivesOctets (old new : SourceState) (octets : List ℕ) : Type 0 where
  pub gave : Appends old.given new.given octets
  pub consumed : Consumes old.to_come new.to_come octets

-- how many octets wait at most when a record was acted on: none if it is answered at once, else as many as
-- the buffer holds
abbrev pub most_waiting : AnswerTime → ℕ
most_waiting AtOnce = 0
most_waiting BeforeNextRead = 65536

-- why reading ends: a read failed, or there were 2 ^ 62 others, each of which gave an octet
abbrev pub GivesUp : SourceState → SourceState → List ℕ → Type 0
GivesUp source source' octets =
    (source.failures < source'.failures) ⊎ ((source.reads + 2 ^ 62 ≤ source'.reads)
    × (2 ^ 62 ≤ length octets))

-- the last read of a source was offered room for 32 KiB at least
abbrev pub HadRoom : (ℕ → Type 0) → Type 0
HadRoom WasOffered = (room : ℕ) × WasOffered room × (32768 ≤ room)

-- the source gave n octets, which are behind the present ones; none only at its end
pub record Refills (old new : List ℕ) (source source' : SourceState) (n : ℕ) : Type 0 where
  pub octets : List ℕ
  pub counted : length octets ≡ n
  pub holds : new ≡ old ++ octets
  pub gives : GivesOctets source source' octets
  pub ended : n ≡ 0 → IsAtEnd source'.to_come

-- .. or it gave none, and the present ones are as they were
pub record FailsToRefill (old new : List ℕ) (source source' : SourceState) : Type 0 where
  pub holds : new ≡ old
  pub gives : GivesOctets source source' []

-- known octets grew by a prefix of these, and the last write was given all the others
pub record GaveRest (old new : Option (List ℕ)) (octets : List ℕ) (WasGiven : List ℕ → Type 0) : Type 0 where
  pub written : List ℕ
  pub rest : List ℕ
  pub whole : octets ≡ written ++ rest
  pub appended : Appends old new written
  pub given : WasGiven rest

-- known octets grew by a prefix of these
pub record AppendsPrefix (old new : Option (List ℕ)) (octets : List ℕ) : Type 0 where
  pub written : List ℕ
  pub rest : List ℕ
  pub whole : octets ≡ written ++ rest
  pub appended : Appends old new written

-- Octets were added, these first ones before the others. A prefix of all was taken: all of the first ones
-- except at most this many.
pub record AppendsBut (late : ℕ) (old new : Option (List ℕ)) (first octets : List ℕ) : Type 0 where
  pub written : List ℕ
  pub rest : List ℕ
  pub whole : octets ≡ written ++ rest
  pub appended : Appends old new written
  pub few : length first ≤ length written + late

-- the last of these octets are buffered, and the sink took those before
pub record TakesAllButWaiting (old new : Option (List ℕ)) (waiting octets : List ℕ) : Type 0 where
  pub written : List ℕ
  pub whole : octets ≡ written ++ waiting
  pub appended : Appends old new written

-- a write failed and was counted, after a prefix of these octets was taken
pub record FailsAfterPrefix (old new : SinkState) (octets : List ℕ) : Type 0 where
  pub counted : old.failures < new.failures
  pub took : AppendsPrefix old.taken new.taken octets

-- these octets were buffered or taken, and no write failed; or Write, if one failed after a prefix of them
-- was taken
abbrev pub Puts : {T : Type 0} → SinkState → SinkState → List ℕ → List ℕ → Result T RunFault → Type 0
Puts old new waiting octets r = MatchResult r
    (λ _. TakesAllButWaiting old.taken new.taken waiting octets × (new.failures ≡ old.failures))
    (λ e. (e ≡ Write) × FailsAfterPrefix old new octets)

-- these octets were taken, and no write failed; or Write, if one failed after a prefix of them was taken
abbrev pub Writes : {T : Type 0} → SinkState → SinkState → List ℕ → Result T RunFault → Type 0
Writes old new octets r = MatchResult r
    (λ _. Appends old.taken new.taken octets × (new.failures ≡ old.failures))
    (λ e. (e ≡ Write) × FailsAfterPrefix old new octets)
