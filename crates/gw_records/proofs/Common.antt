-- The names that most modules of this crate cite, passed on from one place. Declares nothing.
pub use Rattle.gw_records.specs.Laws.{AtMostOneReading, MoreKeepsRecords, EachIsRead}
pub use Rattle.gw_records.specs.Octets.{command_of, octet_of_command, codec_of, octet_of_codec}
pub use Rattle.gw_records.specs.Reader.{Brings, RunsOut, FailsToRead, Held, holds}
unfoldable pub use Rattle.gw_records.specs.Reader.{held}
pub use Rattle.gw_records.specs.Records.{is_open, spelled, IsGood, body_len, IsCircuit, IsFirst, named, Record}
pub use Rattle.gw_records.specs.Records.{record_at, Reads}
unfoldable pub use Rattle.gw_records.specs.Records.{end_of, is_cut, has_bad_kind, has_bad_circuit, has_bad_length}
unfoldable pub use Rattle.gw_records.specs.Records.{has_bad_command, head_of}
pub use Rattle.gw_records.specs.Streams.{SourceState, SinkState, GivesOctets, GivesUp, at_most, AppendsPrefix}
pub use Rattle.gw_records.specs.Streams.{AppendsBut, TakesAllButWaiting, FailsAfterPrefix}
pub use Rattle.gw_records.specs.declared.reader.Reader.{Reader}
pub use Rattle.gw_records.specs.declared.records.RecordsEnd.{RecordsEnd}
pub use Rattle.gw_records.specs.declared.records.FirstRecord.{FirstRecord}
pub use Rattle.gw_records.specs.declared.records.AcceptedKinds.{AcceptedKinds}
pub use Rattle.std.proofs.Common.{◌≡◌, ◌≤◌, ℕ, refl, arith, ◌+◌, ◌-◌, ◌<◌, true, List, ◌++◌, length, take, drop, sym}
pub use Rattle.std.proofs.Common.{rules, ap, ◌∙◌, inl, inr, length-take-le, length-drop, ◌≢◌, ◌*◌, ◌^◌, ◌⊎◌, suc, false}
pub use Rattle.std.proofs.Common.{[], ◌∷◌, Bool, cond, Option, Some, None, nat_lt, ◌==◌, SomeIff, Ok, ok_or, get_or}
pub use Rattle.std.proofs.Common.{append_assoc, append-nil, length-append, take-append-drop, zero, ◌&&◌, length-take}
pub use Rattle.std.proofs.KnownBytes.{Consumes-nil}
pub use Rattle.std.proofs.Math.Seq.{paste, take-append-add}
pub use Rattle.std.proofs.lemmas.Bool.Decides.{nat_tests}
pub use Rattle.std.proofs.lemmas.Grind.{common_steps}
pub use Rattle.std.proofs.lemmas.List.{take_at, take-append-le, drop-take, get_or-drop, drop-append-le}
pub use Rattle.std.proofs.lemmas.Result.{err_from_is_err_and}
pub use Rattle.std.specs.Io.KnownBytes.{IsAtEnd, Appends}
pub use Rattle.std.specs.List.{copy_within, flat_map, AllByRecursion}
pub use Rattle.std.specs.Prelude.{slice_index, Result, Err, IfOk, IfErr, IsErrAnd}
