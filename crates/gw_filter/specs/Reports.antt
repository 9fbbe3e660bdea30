-- What the writer and the source of reports did (modules `reports` and `sending`). Std says nothing of what a
-- writer returns, so `SystemTookReport` holds of every answer; but it is unfolded only in the function that
-- writes, so for all others it holds only of answers received.
use Rattle.std.specs.Prelude.{◌≡◌, ◌⊎◌, ◌==◌, ◌+◌, ◌≤◌, ⊤, ℕ, Bool, false, List, [], length, Result, Ok, Err}
use Rattle.std.specs.Io.KnownBytes.{Appends}
use Rattle.std.specs.declared.io.ErrorKind.{ErrorKind}
use Rattle.gw_records.specs.Streams.{SourceState, at_most}

-- the last write to a writer returned this
unfoldable pub SystemTookReport : {W : Type 0} → W → Result ℕ ErrorKind → Type 0
SystemTookReport writer written = ⊤

-- whether a write took a report, which is one octet
abbrev pub is_report_taken : Result ℕ ErrorKind → Bool
is_report_taken (Ok n) = n == 1
is_report_taken (Err kind) = false

-- the last write to a writer did not take a report
abbrev pub RefusesReport : {W : Type 0} → W → Type 0
RefusesReport writer = (written : Result ℕ ErrorKind) × SystemTookReport writer written
    × (is_report_taken written ≡ false)

-- a source was read once and gave these octets, 64 at most; a read that failed gave none
pub record ReadsOnce (source source' : SourceState) (octets : List ℕ) : Type 0 where
  pub gave : Appends source.given source'.given octets
  pub most : length octets ≤ 64
  pub counts : ((source'.reads ≡ at_most (source.reads + 1)) × (source'.failures ≡ source.failures))
      ⊎ ((source'.failures ≡ at_most (source.failures + 1)) × (source'.reads ≡ source.reads) × (octets ≡ []))
