-- Worked rows, of records and of what is written for them by given replies.
use Rattle.gw_session.proofs.Common.{◌≡◌, ℕ, List, [], ◌∷◌, ◌++◌, take, refl, arith, Some, None, Ok, Err, map, Reply}
use Rattle.gw_session.proofs.Common.{Record, Reads, end_of, render, all_kinds, replicate, has_bad_kind, has_bad_circuit}
use Rattle.gw_session.proofs.Common.{has_bad_length, is_cut, has_bad_command, Answers, Obeys, Changes, Act, Gateway}
use Rattle.gw_session.proofs.Common.{false, length, drop, Option, Gone}
use Rattle.gw_session.specs.Killed.{at_last, at_next, had_gone, had_taken, nothing_gone}
use Rattle.q421_line.specs.declared.LineFault.TheVariants as line
use Rattle.q421_line.specs.Commands.{fault_number}
use Rattle.gw_circuit.specs.declared.Dropped.TheVariants as dropped
use Rattle.gw_circuit.specs.declared.CodecFault.TheVariants as codec
use Rattle.gw_records.specs.declared.records.RecordsEnd.TheVariants as endings

abbrev seize : Record
seize = Record.Command 1 1

abbrev stray : Record
stray = Record.Datagram 1 (0 ∷ [])

-- a command, a datagram and half a head
abbrev session : List ℕ
session = 0x43 ∷ 1 ∷ 0 ∷ 1 ∷ 1 ∷ 0x44 ∷ 1 ∷ 0 ∷ 1 ∷ 0 ∷ 0x54 ∷ 0 ∷ 0 ∷ []

-- .. is read as two records, and then cut
refused_records : Reads all_kinds session (seize ∷ stray ∷ []) endings.Truncated
unfolding end_of has_bad_kind has_bad_circuit has_bad_length is_cut has_bad_command
refused_records = record {
  rest = 0x54 ∷ 0 ∷ 0 ∷ [];
  whole = refl;
  good = (
    (refl, (omega arith, omega arith), omega arith, omega arith),
    ((refl, omega arith, (omega arith, omega arith)), tt),
  );
  ends = refl;
}

-- .. and the refusals of both are written as two answers
refusals_written : render (seize ∷ stray ∷ [])
    (Reply.Answered (Obeys (Err line.NotIdle)) ∷ Reply.Answered (Answers (Err dropped.NotOpen)) ∷ [])
    ≡ 0x52 ∷ 1 ∷ 0 ∷ 2 ∷ 0x43 ∷ 2 ∷ 0x52 ∷ 1 ∷ 0 ∷ 2 ∷ 0x44 ∷ 0x14 ∷ []
unfolding fault_number
refusals_written = refl

-- How single records end: one of an unknown kind; a single octet, which is cut, whatever its kind; a trunk record
-- with a circuit; a command record of two octets, and one of an unknown code; a codec record of one octet, one of an
-- unknown code, and one with a payload type above 127.
single_records :
    (end_of all_kinds (0x58 ∷ 0 ∷ 0 ∷ 0 ∷ []) ≡ Some endings.BadKind)
    × (end_of all_kinds (0x58 ∷ []) ≡ Some endings.Truncated)
    × (end_of all_kinds (0x54 ∷ 1 ∷ 0 ∷ 0 ∷ []) ≡ Some endings.BadCircuit)
    × (end_of all_kinds (0x43 ∷ 1 ∷ 0 ∷ 2 ∷ []) ≡ Some endings.BadCommand)
    × (end_of all_kinds (0x43 ∷ 1 ∷ 0 ∷ 1 ∷ 7 ∷ []) ≡ Some endings.BadCommand)
    × (end_of all_kinds (0x4B ∷ 1 ∷ 0 ∷ 1 ∷ 4 ∷ []) ≡ Some endings.BadCommand)
    × (end_of all_kinds (0x4B ∷ 1 ∷ 0 ∷ 2 ∷ 6 ∷ 0x60 ∷ []) ≡ Some endings.BadCommand)
    × (end_of all_kinds (0x4B ∷ 1 ∷ 0 ∷ 2 ∷ 4 ∷ 0x80 ∷ []) ≡ Some endings.BadCommand)
unfolding end_of has_bad_kind has_bad_circuit has_bad_length is_cut has_bad_command
single_records = (refl, refl, refl, refl, refl, refl, refl, refl)

-- a codec record, taken and refused
codec_record : Reads all_kinds (0x4B ∷ 1 ∷ 0 ∷ 2 ∷ 4 ∷ 0x60 ∷ []) (Record.Codec 1 4 0x60 ∷ []) endings.End
unfolding end_of
codec_record = record {
  rest = [];
  whole = refl;
  good = ((refl, (omega arith, omega arith), omega arith, omega arith, omega arith), tt);
  ends = refl;
}

-- a codec that is taken is answered with no fault
codec_taken : render (Record.Codec 1 4 0x60 ∷ []) (Reply.Answered (Changes (Ok tt)) ∷ [])
    ≡ 0x52 ∷ 1 ∷ 0 ∷ 2 ∷ 0x4B ∷ 0 ∷ []
codec_taken = refl

-- a codec that is refused is answered with the number of its fault
codec_refused : render (Record.Codec 1 4 8 ∷ []) (Reply.Answered (Changes (Err codec.PayloadType)) ∷ [])
    ≡ 0x52 ∷ 1 ∷ 0 ∷ 2 ∷ 0x4B ∷ 0x1F ∷ []
codec_refused = refl

-- empty bodies
empty_trunk : render (Record.Trunk [] ∷ []) [] ≡ 0x54 ∷ 0 ∷ 0 ∷ 0 ∷ []
empty_trunk = refl

-- an empty datagram is refused with an answer, as others are
empty_datagram : render (Record.Datagram 1 [] ∷ []) (Reply.Answered (Answers (Err dropped.NotOpen)) ∷ [])
    ≡ 0x52 ∷ 1 ∷ 0 ∷ 2 ∷ 0x44 ∷ 0x14 ∷ []
empty_datagram = refl

-- two frames
abbrev two_frames : List ℕ
two_frames =
    (0x9B ∷ replicate 15 0xD5) ++ (0x0F ∷ replicate 15 0xD5) ++ (0xFF ∷ replicate 15 0xD5) ++ (0x99 ∷ replicate 15 0xD5)

-- .. replayed as one trunk record of their octets
two_frames_replayed : render (Record.Trunk (replicate 64 0xD5) ∷ [])
    (map (λ o. Reply.Sent (record { octet = o; packet = None })) two_frames)
    ≡ 0x54 ∷ 0 ∷ 0 ∷ 0x40 ∷ two_frames
two_frames_replayed = refl

-- a datagram that is sent comes before its trunk record
packet_first : render (Record.Trunk (1 ∷ 2 ∷ []) ∷ [])
    (Reply.Sent (record { octet = 3; packet = None })
    ∷ Reply.Sent (record { octet = 4; packet = Some (7, 5 ∷ 6 ∷ []) }) ∷ [])
    ≡ 0x44 ∷ 7 ∷ 0 ∷ 2 ∷ 5 ∷ 6 ∷ 0x54 ∷ 0 ∷ 0 ∷ 2 ∷ 3 ∷ 4 ∷ []
packet_first = refl

-- the session cut to each length
cut_to_each_length : map (λ n. end_of all_kinds (take n session)) (0 ∷ 1 ∷ 2 ∷ 3 ∷ 4 ∷ [])
    ≡ Some endings.End ∷ replicate 4 (Some endings.Truncated)
unfolding end_of has_bad_kind has_bad_circuit has_bad_length is_cut has_bad_command
cut_to_each_length = refl

abbrev later : List ℕ
later = 0x44 ∷ 1 ∷ 0 ∷ 1 ∷ 0 ∷ []

-- a datagram record cut to each length, and whole
cut_datagram : map (λ n. end_of all_kinds (take n later)) (0 ∷ 1 ∷ 2 ∷ 3 ∷ 4 ∷ 5 ∷ [])
    ≡ Some endings.End ∷ (replicate 4 (Some endings.Truncated) ++ None ∷ [])
unfolding end_of has_bad_kind has_bad_circuit has_bad_length is_cut has_bad_command
cut_datagram = refl

-- the acts for a trunk record with three packets, of which one send failed, and an answer of two octets, and for another
-- one with none, on a tape that takes an octet for each
abbrev option_length : {X : Type 0} → Option (List X) → ℕ
option_length None = 0
option_length (Some xs) = length xs

abbrev two_gone : Gone
two_gone = record { sent = Some ((7, 5 ∷ []) ∷ (8, 6 ∷ []) ∷ []); written = Some (9 ∷ 9 ∷ []); failures = 1 }

abbrev two_records : Gateway → List Act
two_records gateway =
    Act.Keeps gateway false (Some []) nothing_gone
    ∷ Act.Answers false (Some (1 ∷ [])) nothing_gone
    ∷ Act.Keeps gateway false (Some (1 ∷ [])) two_gone
    ∷ Act.Answers false (Some (1 ∷ 2 ∷ [])) two_gone ∷ []

abbrev each_cut : List ℕ
each_cut = 0 ∷ 1 ∷ 2 ∷ 3 ∷ 4 ∷ []

-- cut behind each act: how many packets had gone at least, and at most
cut_counts : (gateway : Gateway)
    → (map (λ n. option_length (at_last had_gone nothing_gone (take n (two_records gateway))).sent) each_cut
    ≡ 0 ∷ 0 ∷ 0 ∷ 2 ∷ 2 ∷ [])
    × (map (λ n. option_length (at_next had_gone (drop n (two_records gateway)) two_gone).sent) each_cut
    ≡ 0 ∷ 0 ∷ 2 ∷ 2 ∷ 2 ∷ [])
cut_counts gateway = (refl, refl)

-- .. and how many sends had failed
cut_failures : (gateway : Gateway)
    → (map (λ n. (at_last had_gone nothing_gone (take n (two_records gateway))).failures) each_cut
    ≡ 0 ∷ 0 ∷ 0 ∷ 1 ∷ 1 ∷ [])
    × (map (λ n. (at_next had_gone (drop n (two_records gateway)) two_gone).failures) each_cut
    ≡ 0 ∷ 0 ∷ 1 ∷ 1 ∷ 1 ∷ [])
cut_failures gateway = (refl, refl)

-- .. and what the log has at least, and at most
cut_logs : (gateway : Gateway)
    → (map (λ n. at_last had_taken (Some []) (take n (two_records gateway))) each_cut
    ≡ Some [] ∷ Some [] ∷ Some (1 ∷ []) ∷ Some (1 ∷ []) ∷ Some (1 ∷ 2 ∷ []) ∷ [])
    × (map (λ n. at_next had_taken (drop n (two_records gateway)) (Some (1 ∷ 2 ∷ []))) each_cut
    ≡ Some [] ∷ Some (1 ∷ []) ∷ Some (1 ∷ []) ∷ Some (1 ∷ 2 ∷ []) ∷ Some (1 ∷ 2 ∷ []) ∷ [])
cut_logs gateway = (refl, refl)
