-- The lines that a client gets, each ended by a line feed (e1gw-tell(5)).
use Rattle.std.specs.Prelude.{◌++◌, ◌/◌, ℕ, List, [], ◌∷◌, codes, Bool, true, false}
use Rattle.std.specs.List.{flat_map}
use Rattle.std.specs.Fmt.{decimal}
use Rattle.e1_g711.specs.declared.Law.{Law}
use Rattle.e1_g711.specs.declared.Law.TheVariants.{A, Mu}
use Rattle.gw_circuit.specs.declared.Status.{Status}
use Rattle.gw_switch.specs.declared.Alarms.{Alarms}
use Rattle.gw_listing.specs.Row.{row}
use Rattle.gw_records.specs.Records.{Record}
use Rattle.gw_tell.specs.declared.counts.DatagramCounts.{DatagramCounts}
use Rattle.rtp_packet.specs.declared.Header.{Header}
use Rattle.gw_tell.specs.Headers.{rtp_header}

-- a space and a number in decimal
unfoldable pub spaced : ℕ → List ℕ
spaced n = 32 ∷ decimal n

-- a line of a word and numbers, one space before each
unfoldable pub number_line : List ℕ → List ℕ → List ℕ
number_line word numbers = word ++ flat_map spaced numbers ++ 10 ∷ []

-- the octets of the trunk that the session has acted on
abbrev pub at_line : ℕ → List ℕ
at_line place = number_line (codes "at") (place ∷ [])

-- an alarm as a number
abbrev pub flag : Bool → ℕ
flag false = 0
flag true = 1

-- loss of frame alignment and of multiframe alignment, and what the other end sends in bits A and y
abbrev pub alarms_line : Alarms → List ℕ
alarms_line a = number_line (codes "alarms")
    (flag a.frame ∷ flag a.multiframe ∷ flag a.remote_frame ∷ flag a.remote_multiframe ∷ [])

-- the numbers of a header
abbrev pub header_numbers : Header → List ℕ
header_numbers h = h.sequence ∷ h.timestamp ∷ h.ssrc ∷ []

-- the line of a record that was answered with this code; octets of the trunk have none
abbrev pub event_line : Record → ℕ → List ℕ
event_line (Record.Trunk octets) code = []
event_line (Record.Datagram circuit octets) code =
    number_line (codes "datagram") (circuit ∷ code ∷ header_numbers (rtp_header octets))
event_line (Record.Command circuit command) code =
    number_line (codes "command") (circuit ∷ command ∷ code ∷ [])
event_line (Record.Codec circuit codec payload_type) code =
    number_line (codes "codec") (circuit ∷ codec ∷ payload_type ∷ code ∷ [])

-- the line of a circuit: its row of a listing
unfoldable pub row_line : ℕ → Status → List ℕ
row_line circuit status = codes "line " ++ row circuit status ++ 10 ∷ []

-- what is counted of the datagrams of a circuit: those accepted, the packets lost and the jitter in samples,
-- and those refused for each reason
abbrev pub counts_line : ℕ → DatagramCounts → List ℕ
counts_line circuit c = number_line (codes "counts")
    (circuit ∷ c.accepted ∷ c.stream.lost ∷ c.stream.jitter / 16 ∷ c.refused)

-- how often each of circuits 1 to 30 was seized
abbrev pub seizures_line : List ℕ → List ℕ
seizures_line counts = number_line (codes "seizures") counts

-- the first line, with the law of the trunk as the configuration names it
abbrev pub hello_line : Law → List ℕ
hello_line A = codes "e1gw tell 1 A\n"
hello_line Mu = codes "e1gw tell 1 mu\n"

-- all that follows are changes
abbrev pub now_line : List ℕ
now_line = codes "now\n"

-- the session has ended
abbrev pub end_line : List ℕ
end_line = codes "end\n"
