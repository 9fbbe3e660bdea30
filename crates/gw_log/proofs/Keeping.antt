-- What a log keeps when octets of records are appended, and what it tells then.
use Rattle.std.proofs.Common.{◌≡◌, ◌+◌, [], ℕ, true, false, List, length, refl, ap, arith}
use Rattle.std.proofs.Common.{inl, inr, ⊎_elim, ◌⊎◌, Result, Ok, Err, OnErr, is_err, Some, append-nil}
use Rattle.std.specs.Prelude.{MatchResult}
use Rattle.gw_switch.specs.declared.gateway.Gateway.{Gateway}
use Rattle.log_files.specs.Pairs.{Kept, LeavesKept, StandsFor, with_more}
use Rattle.log_files.specs.declared.store.StoreFault.{StoreFault}
use Rattle.gw_records.specs.Streams.{SinkState}
use Rattle.gw_records.specs.declared.outcome.RunFault.{RunFault}
use Rattle.gw_session.specs.Tape.{WritesRecords}
use Rattle.gw_session.proofs.Taping.{records_over, records_written}
use Rattle.log_files.proofs.Logs.{stands_left}
use Rattle.gw_log.specs.Logs.{Appended, CanAppend, EndsFor, Keeps, LeavesOf, TrunkLogState, kept_as, told_by}

-- files that stay have what is kept still
pub left_still : {log log' : TrunkLogState} {place : ℕ} {gateway : Gateway} {records : List ℕ}
    → Keeps log place gateway records → log'.files ≡ log.files → log'.config ≡ log.config
    → LeavesOf log' place gateway records
left_still {log = log} k files config =
    record { turn = log.files.turn; left = rw (files, config) (stands_left k.stands) }

-- a write of octets failed
pub ends_broken : (log log' : TrunkLogState) (octets : List ℕ) (result : Result (Unit {0}) StoreFault)
    → is_err result ≡ true → log.ended ≡ false → CanAppend log (length octets)
    → OnErr result ((kept : Kept) → StandsFor log.files kept
    → LeavesKept log'.files kept ⊎ LeavesKept log'.files (with_more kept octets))
    → MatchResult result (λ _. log'.files.newest.failed ≡ log.files.newest.failed)
    (λ _. log'.files.newest.failed ≡ true)
    → log' ≡ record log { files = log'.files; ended = true; broken = true; failures = log.failures + 1 }
    → Appended log log' octets
ends_broken log log' octets (Ok x) is going can left fault same = cc
ends_broken log log' octets (Err e) is going can left fault same =
    let config : log'.config ≡ log.config = ap (λ (l : TrunkLogState). l.config) same in
    inr (inr (record {
      going = going;
      cause = inr (can, fault, same);
      left = λ place gateway records k.
          ⊎_elim (λ l. inl (record { turn = log.files.turn; left = rw config l }))
          (λ l. inr (record { turn = log.files.turn; left = rw config l }))
          (left (kept_as log.files.turn log.config place gateway records) k.stands);
    }))

-- a log as a sink of octets
abbrev sink_of : TrunkLogState → SinkState
sink_of log = record { failures = log.failures; taken = Some log.taken }

-- what a log that ends tells
record Over (log log' : TrunkLogState) : Type 0 where
  ended : log'.ended ≡ true
  failures : log'.failures ≡ log.failures + 1
  taken : log'.taken ≡ log.taken

-- .. as one does
over : (log log' : TrunkLogState) (octets : List ℕ) → EndsFor log log' octets → Over log log'
over log log' octets (inl (none, same)) =
    record { ended = rw same refl; failures = rw same refl; taken = rw same refl }
over log log' octets (inr (can, failed, same)) =
    record { ended = rw same refl; failures = rw same refl; taken = rw same refl }

-- what a log tells when it was given octets of records
pub told_appended : (log log' : TrunkLogState) (octets : List ℕ) → Appended log log' octets
    → WritesRecords (told_by log) (told_by log') octets
told_appended log log' octets (inl (over, same)) = rw same (records_over (told_by log) octets over)
told_appended log log' octets (inr (inl takes)) =
    records_written log.ended log'.ended (sink_of log) (sink_of log') octets (Ok tt) RunFault.Write takes.going
    (rw takes.same takes.going) (rw takes.same refl) (rw takes.same refl) tt
told_appended log log' octets (inr (inr ends)) =
    let o = over log log' octets ends.cause in
    records_written log.ended log'.ended (sink_of log) (sink_of log') octets (Err RunFault.Write) RunFault.Write
    ends.going o.ended tt tt (
      refl,
      record {
        counted = omega (arith, o.failures);
        took = record { written = []; rest = octets; whole = refl; appended = rw (o.taken, append-nil) refl };
      },
    )
