use Rattle.std.proofs.Common.{◌++◌, ℕ, List, take, map}
use Rattle.g704_crc4.specs.Reporting.{SenderInput, Errored}
use Rattle.gw_filter.specs.Crc4.{SendsCrc4}
use Rattle.gw_filter.proofs.sending.Crc4Sender.report_all.Given as goal

-- The reports up to the index are taken.
abbrev pub invariant-loop-count : goal.invariant-loop-count
invariant-loop-count l = (arrivals : List SenderInput) (sent : List ℕ) → SendsCrc4 l.initial.self arrivals sent
    → SendsCrc4 l.self (arrivals ++ map Errored (take l.count-index l.counts)) sent
