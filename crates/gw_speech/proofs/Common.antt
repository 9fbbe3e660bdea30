-- The names that most modules of this crate cite, passed on from one place. Declares nothing.
pub use Rattle.e1_g711.specs.Law.{idle_code}
pub use Rattle.g726_codec.specs.Kinds.{CodecState, codec_after}
pub use Rattle.g726_codec.specs.Laws.{OneWordAnOctet, PrefixesComeFirst, SpeechIsItsOwnWords}
pub use Rattle.g726_codec.specs.declared.CodecKind.TheVariants.{G711}
pub use Rattle.gw_records.proofs.Sessions.{goes_up, starts, first_held, record_taken, stops_in, stops_behind}
pub use Rattle.gw_records.proofs.Sessions.{reads_more, ended, gives_up, Stage}
pub use Rattle.gw_records.proofs.Writes.{GivesOctets-end, TakesAllButWaiting-start, TakesAllButWaiting-empty}
pub use Rattle.gw_records.proofs.Writes.{TakesAllButWaiting-join, TakesAllButWaiting-appended, AppendsPrefix-behind}
pub use Rattle.gw_records.proofs.Writes.{FailsAfterPrefix-waiting, TakesAllButWaiting-none, FailsAfterPrefix-join}
pub use Rattle.gw_records.proofs.Writes.{FailsAfterPrefix-more, Appends-none, Appends-join, GivesOctets-none}
pub use Rattle.gw_records.proofs.Writes.{GivesOctets-join, FailsAfterPrefix-after, read_failed}
pub use Rattle.gw_records.specs.Reader.{held, holds, work_left}
pub use Rattle.gw_records.specs.Records.{Record, IsGood, IsFirst, is_open, end_of, named, record_at}
unfoldable pub use Rattle.gw_records.specs.Records.{has_bad_kind, has_bad_length, has_bad_command}
pub use Rattle.gw_records.specs.Streams.{SourceState, SinkState, GivesOctets, GivesUp, Refills, TakesAllButWaiting}
pub use Rattle.gw_speech.specs.Decode.{speech_of, datagram_words, record_words, words_in, speech_in, only_datagrams}
pub use Rattle.gw_speech.specs.Decode.{count_record, decode_totals, DecodesThrough, DecodesAll, DecodesUntil}
pub use Rattle.gw_speech.specs.Decode.{HasDecoded}
unfoldable pub use Rattle.gw_speech.specs.Decode.{speech_behind}
pub use Rattle.gw_speech.specs.Encode.{packet_len, word_bits, words_for, packet_record, records_from, full_packets}
pub use Rattle.gw_speech.specs.Encode.{filled, packets, header_with, HasEncoded, IsPacket, IsEncoding, EncodesUntilRead}
unfoldable pub use Rattle.gw_speech.specs.Encode.{records_of, full_records_of, header_at}
pub use Rattle.gw_speech.specs.declared.stream_spec.StreamSpec.{StreamSpec}
pub use Rattle.std.proofs.Common.{◌≡◌, ◌+◌, ◌-◌, ◌≤◌, ◌++◌, ◌∙◌, ℕ, List, length, take, drop, refl, sym, ap, arith}
pub use Rattle.std.proofs.Common.{length-take, length-take-le, length-drop, ◌*◌, ◌%◌, ◌<◌, ◌^◌, zero, suc, []}
pub use Rattle.std.proofs.Common.{replicate, append_assoc, append-nil, length-append, take-append-drop, drop-drop, ◌∷◌}
pub use Rattle.std.proofs.Common.{true, rules, inl, inr}
pub use Rattle.std.proofs.lemmas.Grind.{common_steps}
pub use Rattle.std.proofs.lemmas.List.{take-take, take_at, drop-take, drop_at, length-replicate, drop-append-le}
pub use Rattle.std.proofs.lemmas.List.{take-append-le, nil_from_length}
pub use Rattle.std.proofs.lemmas.List.Elements.{All-append, All-drop, All-from_get_or, All-tail, All-nil}
pub use Rattle.std.proofs.lemmas.Nat.{div-mul-add, mod-mul-add, le-div}
pub use Rattle.std.proofs.lemmas.Result.{err_from_is_err_and}
pub use Rattle.std.proofs.lemmas.Slice.{take-put_mid, take-put_mid_below, between-put_mid}
pub use Rattle.std.specs.Io.KnownBytes.{Appends, IsAtEnd}
pub use Rattle.std.specs.List.{All, copy_within}
pub use Rattle.std.specs.Prelude.{slice_index, Option, Some, Result, IfOk, IfErr, unwrap_or, is_some}
pub use borrow.Rule.Slice.PartMut.{put_mid, same_len_mid}
