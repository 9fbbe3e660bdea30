-- Worked figures, as the definitions compute them.
use Rattle.gw_circuit.proofs.Common.{◌≡◌, ℕ, List, [], ◌∷◌, ◌++◌, Some, None, refl, true, arith, G711, G32, enc, dec}
use Rattle.gw_circuit.proofs.Common.{read_of, plain_datagram, octets_of, words_of, due, offer_answer, take_answer}
use Rattle.gw_circuit.proofs.Common.{drawn_words, is_open, sent_pair, next_state, signalling, CircuitConfig}
use Rattle.gw_circuit.proofs.Common.{PayloadType, CircuitEvent, Slot, Signal, Datagram, Codec, count, since, fits}
use Rattle.gw_circuit.proofs.Common.{format_after, codec_reply, open_after, spell, stretch, is_full, payload_of}
use Rattle.gw_circuit.proofs.Common.{sound_of, slot_reply, signal_reply, datagram_reply, completes, header_after}
use Rattle.std.proofs.Common.{Ok, Err, replicate}
use Rattle.e1_g711.specs.declared.Law.TheVariants.{A, Mu}
use Rattle.rtp_packet.specs.Read.{parts_of, header_of, marker_of, extension_of, padding_len}
use Rattle.rtp_playout.specs.Order.{take_answers}
use Rattle.q421_line.specs.declared.Role.TheVariants.{Incoming}
use Rattle.q421_line.specs.Recognition.{recognised}
use Rattle.gw_circuit.specs.declared.Dropped.TheVariants.{NotOpen}

-- an incoming circuit, payload type 8, 10 ms, no prefill, SSRC 9, first numbers 0
abbrev config : CircuitConfig
config = record {
  role = Incoming;
  codec = G711;
  payload_type = 8;
  ptime = 10;
  prefill = 0;
  ssrc = 9;
  sequence = 0;
  timestamp = 0;
  type_fits = omega arith;
  ptime_fits = record { least = omega arith; most = omega arith; whole = refl };
  prefill_fits = omega arith;
}

-- ten signals with this nibble
abbrev signals : ℕ → List CircuitEvent
signals nibble = replicate 10 (Signal (Some nibble))

-- this many slots in which 0xD4 is heard
abbrev sent : ℕ → List CircuitEvent
sent n = replicate n (Slot (Some 0xD4))

-- a datagram of PCMA with two words
abbrev two_words : List ℕ
two_words = 0x80 ∷ 8 ∷ 0 ∷ 0 ∷ 0 ∷ 0 ∷ 0 ∷ 0 ∷ 0 ∷ 0 ∷ 0 ∷ 9 ∷ 0xD5 ∷ 0xD4 ∷ []

-- the line was idle, and was seized
abbrev seized : List CircuitEvent
seized = signals 0b1001 ++ signals 0b0001

-- it sends blocking until idle is recognised, then idle, then the acknowledgement
nibbles : (signal_reply A config [] (Some 0b1001) ≡ 0b1101)
    × (signal_reply A config (replicate 9 (Signal (Some 0b1001))) (Some 0b1001) ≡ 0b1001)
    × (signal_reply A config (signals 0b1001 ++ replicate 9 (Signal (Some 0b0001))) (Some 0b0001) ≡ 0b1101)
unfolding signal_reply signalling recognised sent_pair next_state
nibbles = (refl, refl, refl)

-- a datagram is admitted while the path is open
admitted : datagram_reply A config seized two_words ≡ Ok tt
unfolding datagram_reply open_after signalling recognised is_open next_state format_after stretch spell since
    offer_answer due read_of parts_of header_of marker_of extension_of padding_len words_of
admitted = refl

-- a datagram for a circuit whose seizure is not acknowledged is refused as NotOpen
not_open : datagram_reply A config (seized ++ signals 0b1001) two_words ≡ Err NotOpen
unfolding datagram_reply open_after signalling recognised is_open next_state
not_open = refl

-- G.726 has dynamic payload types alone, and G.711 that of its law beside them
types : (codec_reply A config [] G32 8 ≡ Err PayloadType) × (codec_reply A config [] G32 95 ≡ Err PayloadType)
    × (codec_reply A config [] G711 0 ≡ Err PayloadType) × (codec_reply Mu config [] G711 8 ≡ Err PayloadType)
    × (codec_reply A config [] G32 128 ≡ Err PayloadType) × (codec_reply Mu config [] G711 0 ≡ Ok tt)
    × (codec_reply A config [] G711 127 ≡ Ok tt) × (codec_reply A config [] G32 96 ≡ Ok tt)
unfolding codec_reply fits
types = (refl, refl, refl, refl, refl, refl, refl, refl)

-- the words of the datagram are played one after the other, and then the idle octet
played : ((slot_reply A config (seized ++ Datagram two_words ∷ []) (Some 0xD4)).0 ≡ 0xD5)
    × ((slot_reply A config (seized ++ Datagram two_words ∷ sent 1) (Some 0xD4)).0 ≡ 0xD4)
    × ((slot_reply A config (seized ++ Datagram two_words ∷ sent 2) (Some 0xD4)).0 ≡ 0xD5)
unfolding slot_reply open_after signalling recognised is_open next_state format_after stretch spell since sound_of
    offer_answer take_answer due drawn_words take_answers dec read_of parts_of header_of marker_of extension_of
    padding_len words_of
played = (refl, refl, refl)

-- the datagram of the eightieth slot
first_datagram : (slot_reply A config (seized ++ Datagram two_words ∷ sent 79) (Some 0xD4)).1
    ≡ Some (0x80 ∷ 8 ∷ 0 ∷ 0 ∷ 0 ∷ 0 ∷ 0 ∷ 0 ∷ 0 ∷ 0 ∷ 0 ∷ 9 ∷ replicate 80 0xD4)
unfolding slot_reply open_after signalling recognised is_open next_state format_after stretch spell since count
    is_full payload_of enc octets_of plain_datagram
first_datagram = refl

-- Forty more slots, the end of the call, and eighty slots of a second one: the packet that was not full is
-- discarded, sequence number and sample clock go on.
second_datagram : (slot_reply A config (seized ++ sent 120 ++ seized ++ sent 79) (Some 0xD4)).1
    ≡ Some (0x80 ∷ 8 ∷ 0 ∷ 1 ∷ 0 ∷ 0 ∷ 0 ∷ 120 ∷ 0 ∷ 0 ∷ 0 ∷ 9 ∷ replicate 80 0xD4)
unfolding slot_reply open_after signalling recognised is_open next_state format_after stretch spell since count
    is_full payload_of enc octets_of plain_datagram
second_datagram = refl

-- A change of codec after 37 slots: they are discarded, and the next packet begins behind them. A refused
-- change leaves them.
packet_anew : (completes A config (seized ++ sent 37 ++ Codec G32 96 ∷ sent 79) (Slot None) ≡ true)
    × (header_after A config (seized ++ sent 37 ++ Codec G32 96 ∷ sent 79)
    ≡ record { payload_type = 96; sequence = 0; timestamp = 37; ssrc = 9 })
    × (completes A config (seized ++ sent 37 ++ Codec G32 8 ∷ sent 42) (Slot None) ≡ true)
    × (header_after A config (seized ++ sent 37 ++ Codec G32 8 ∷ sent 42)
    ≡ record { payload_type = 8; sequence = 0; timestamp = 0; ssrc = 9 })
unfolding open_after signalling recognised is_open next_state format_after fits stretch spell since count is_full
packet_anew = (refl, refl, refl, refl)
