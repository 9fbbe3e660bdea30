-- The names that most modules of this crate cite, passed on from one place. Declares nothing.
pub use Rattle.e1_g711.specs.declared.Law.{Law}
pub use Rattle.g726_codec.specs.Codec.{Variables}
pub use Rattle.g726_codec.specs.Kinds.{CodecState, after_by, after_decoding, after_encoding, bits_of, codec_after}
pub use Rattle.g726_codec.specs.Kinds.{octet_by, rate_tables, word_by}
unfoldable pub use Rattle.g726_codec.specs.Kinds.{dec, enc}
pub use Rattle.g726_codec.specs.Laws.{DecodersContinue, EncodersContinue, HistoriesContinue, NothingIsCoded}
pub use Rattle.g726_codec.specs.Laws.{OneWordAnOctet}
pub use Rattle.g726_codec.specs.declared.CodecKind.{CodecKind}
pub use Rattle.g726_codec.specs.declared.CodecKind.TheVariants.{G32, G711}
pub use Rattle.gw_circuit.specs.Coder.{CodedPacket, next_word, with_word}
pub use Rattle.gw_circuit.specs.Coding.{PayloadFormat, changes, is_change, latest}
unfoldable pub use Rattle.gw_circuit.specs.Coding.{codec_reply, fits, format_after}
unfoldable pub use Rattle.gw_circuit.specs.Histories.{count, since}
pub use Rattle.gw_circuit.specs.Items.{CircuitEvent, Codec, Command, Datagram, Signal, Slot, Wait}
pub use Rattle.gw_circuit.specs.Lone.{admits, at_most_32_bits, drops}
unfoldable pub use Rattle.gw_circuit.specs.Packets.{is_full, payload_of, rest_of, sound_of}
pub use Rattle.gw_circuit.specs.Replies.{admission, calls_in, completes, datagrams, header_after, heard_in, is_slot}
pub use Rattle.gw_circuit.specs.Replies.{offered_on, packet_size, slots}
unfoldable pub use Rattle.gw_circuit.specs.Replies.{command_reply, datagram_reply, signal_reply, slot_reply}
pub use Rattle.gw_circuit.specs.Saved.{saved_clocks, saved_coding, saved_counts, saved_numbers, saved_packet}
unfoldable pub use Rattle.gw_circuit.specs.Saved.{saved_circuit, saved_speech}
pub use Rattle.gw_circuit.specs.Speech.{SpeechHistory}
pub use Rattle.gw_circuit.specs.Spells.{heard_octets, line_after, line_items, offers_of, playout_calls, turns}
unfoldable pub use Rattle.gw_circuit.specs.Spells.{open_after, spell, stretch}
pub use Rattle.gw_circuit.specs.Standing.{Represents}
unfoldable pub use Rattle.gw_circuit.specs.Standing.{HasHistory}
pub use Rattle.gw_circuit.specs.declared.CodecFault.TheVariants.{PayloadType}
pub use Rattle.gw_circuit.specs.declared.circuit.Circuit.{Circuit}
pub use Rattle.gw_circuit.specs.declared.config.CircuitConfig.{CircuitConfig}
pub use Rattle.gw_circuit.specs.declared.speech.Speech.{Speech}
pub use Rattle.q421_line.specs.Saved.{saved_line}
unfoldable pub use Rattle.q421_line.specs.Signalling.{signalling}
pub use Rattle.q421_line.specs.Tables.{sent_nibble}
unfoldable pub use Rattle.q421_line.specs.Tables.{is_open, next_state, sent_pair}
pub use Rattle.q421_line.specs.declared.signalling.Line.{Line}
unfoldable pub use Rattle.rtp_pack.specs.Payload.{octets_of, words_of}
unfoldable pub use Rattle.rtp_packet.specs.Read.{read_of}
unfoldable pub use Rattle.rtp_packet.specs.Rtp.{plain_datagram}
pub use Rattle.rtp_playout.specs.Calls.{PlayoutCall, Takes}
unfoldable pub use Rattle.rtp_playout.specs.Due.{due, offer_answer, take_answer}
unfoldable pub use Rattle.rtp_playout.specs.Order.{drawn_words}
unfoldable pub use Rattle.rtp_playout.specs.Saved.{saved_playout}
pub use Rattle.std.proofs.Common.{Bool, List, None, Option, Some, [], ap, append-nil, append_assoc, arith, cond, drop}
pub use Rattle.std.proofs.Common.{false, length, length-append, length-drop, refl, rules, sym, take, true, ℕ, ◌%◌, ◌*◌}
pub use Rattle.std.proofs.Common.{◌++◌, ◌+◌, ◌-◌, ◌<◌, ◌^◌, ◌∙◌, ◌∷◌, ◌≡◌, ◌≢◌, ◌≤◌}
pub use Rattle.std.proofs.lemmas.Grind.{common_steps}
pub use Rattle.std.proofs.lemmas.List.{drop-append-le, length-take-le, take_all}
pub use Rattle.std.specs.List.{list_all}
pub use Rattle.std.specs.Prelude.{Err, MatchOption, Ok, Result, min, nat_lt, slice_index, unwrap_or, ◌&&◌, ◌==◌}
