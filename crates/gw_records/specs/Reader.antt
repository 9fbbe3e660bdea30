-- The octets of a reader, and the result of reading on (module `reader`).
use Rattle.std.specs.Prelude.{◌≡◌, ◌⊎◌, ◌+◌, ◌*◌, ◌<◌, ◌≤◌, ◌++◌, ℕ, Bool, true, false, List, [], length}
use Rattle.std.specs.Prelude.{take, drop}
use Rattle.std.specs.Io.KnownBytes.{IsAtEnd}
use Rattle.gw_records.specs.declared.records.RecordsEnd.{RecordsEnd}
use Rattle.gw_records.specs.declared.reader.Reader.{Reader}
use Rattle.gw_records.specs.Records.{is_open}
use Rattle.gw_records.specs.Streams.{SourceState, GivesOctets, at_most}

-- the octets read and not consumed
unfoldable pub held : Reader → List ℕ
held r = drop r.start (take r.filled r.buffer.value)

-- what a session has of its records before it acts on them: octets that spell them, of which the last one may
-- be cut, and how many reads may follow
pub record Held : Type 0 where
  pub octets : List ℕ
  pub reads_left : ℕ

-- .. in a reader
abbrev pub holds : Reader → Held
holds r = record { octets = held r; reads_left = r.reads_left }

-- the distance from the end: each read and each octet consumed reduces it
abbrev pub work_left : Held → ℕ
work_left h = 131079 * h.reads_left + length h.octets

-- the source gave octets, which are behind the others
pub record Brings (source source' : SourceState) (h h' : Held) : Type 0 where
  pub octets : List ℕ
  pub gives : GivesOctets source source' octets
  pub holds : h'.octets ≡ h.octets ++ octets
  pub turns : h.reads_left ≤ h'.reads_left + length octets
  pub counted : source'.reads ≡ at_most (source.reads + 1)
  pub turn : h'.reads_left + 1 ≡ h.reads_left
  pub nearer : work_left h' < work_left h
  pub same : source'.failures ≡ source.failures

-- No octet arrived, and none is to come if more would matter; if not, none was asked for.
pub record RunsOut (source source' : SourceState) (h h' : Held) (ending : RecordsEnd) : Type 0 where
  pub gives : GivesOctets source source' []
  pub holds : h'.octets ≡ h.octets
  pub ended : is_open ending ≡ true → IsAtEnd source'.to_come
  pub still : is_open ending ≡ false → source' ≡ source
  pub same : source'.failures ≡ source.failures

-- reading on brought octets, or found that there is nothing to wait for
abbrev pub ReadsOn : SourceState → SourceState → Held → Held → RecordsEnd → Bool → Type 0
ReadsOn source source' h h' ending true = Brings source source' h h'
ReadsOn source source' h h' ending false = RunsOut source source' h h' ending

-- more octets might have changed the end, and the source gave no more: it failed, or the read limit was
-- reached
pub record FailsToRead (source source' : SourceState) (h h' : Held) (ending : RecordsEnd) : Type 0 where
  pub awaited : is_open ending ≡ true
  pub gives : GivesOctets source source' []
  pub holds : h'.octets ≡ h.octets
  pub cause : (source.failures < source'.failures) ⊎ (h.reads_left ≡ 0)
  pub uncounted : source'.reads ≡ source.reads
