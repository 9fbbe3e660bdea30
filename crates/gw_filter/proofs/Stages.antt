-- Between two reads.
use Rattle.std.proofs.Common.{◌≡◌, ◌+◌, ◌++◌, ℕ, List, [], length, take, drop, ap, ◌∙◌, arith}
use Rattle.std.proofs.Math.Seq.{take-append_seam}
use Rattle.std.specs.Io.KnownBytes.{Appends}
use Rattle.gw_records.specs.Streams.{SourceState, SinkState, GivesOctets, Refills}

-- The source gave octets, and what the filter returned for them is written.
pub record Stage {F : Type 0} (Has : F → List ℕ → List ℕ → Type 0)
    (source source' : SourceState) (sink sink' : SinkState) (filter : F) : Type 0 where
  pub given : List ℕ
  pub returned : List ℕ
  pub stands : Has filter given returned
  pub gives : GivesOctets source source' given
  pub took : Appends sink.taken sink'.taken returned
  pub no_read : source'.failures ≡ source.failures
  pub no_write : sink'.failures ≡ sink.failures

-- What was read is at the front of the buffer.
pub came-is : (new : List ℕ) (a b : SourceState) (n : ℕ) (r : Refills [] (take (0 + n) new) a b n)
    → take n new ≡ r.octets
came-is new a b n r = let front : n ≡ 0 + n = omega arith in ap (λ (k : ℕ). take k new) front ∙ r.holds

-- What replaces it is written from there.
pub replaced : (buffer replies : List ℕ) (a b : SourceState) (n : ℕ)
    → (came : Refills [] (take (0 + n) buffer) a b n) → length replies ≡ length (take n buffer)
    → take n (replies ++ drop n buffer) ≡ replies
replaced buffer replies a b n came len = cc (came-is buffer a b n came, take-append_seam replies (drop n buffer))
