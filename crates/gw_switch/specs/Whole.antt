-- What a gateway replies to each event, after the events before it.
use Rattle.std.specs.Prelude.{ℕ, ◌+◌, ◌-◌, ◌*◌, ◌/◌, ◌%◌, ◌==◌, ◌||◌, if◌then◌else◌, Bool, List, [], ◌∷◌}
use Rattle.std.specs.Prelude.{◌++◌, length, slice_index_or, Option, Some, None, option_map, Result}
use Rattle.std.proofs.Common.{refl, lit<, lit≤}
use Rattle.g704_align.specs.Placing as frames
use Rattle.g704_cas.specs.Placing as multiframes
use Rattle.g704_cas.specs.Numbers.{circuit_in}
use Rattle.g726_codec.specs.declared.CodecKind.{CodecKind}
use Rattle.g726_codec.specs.declared.CodecKind.TheVariants.{G711}
use Rattle.q421_line.specs.declared.Role.TheVariants.{Outgoing}
use Rattle.q421_line.specs.declared.Cmd.{Cmd}
use Rattle.q421_line.specs.declared.LineFault.{LineFault}
use Rattle.gw_circuit.specs.declared.config.CircuitConfig.{CircuitConfig}
use Rattle.gw_circuit.specs.declared.CodecFault.{CodecFault}
use Rattle.gw_circuit.specs.declared.Dropped.{Dropped}
use Rattle.gw_circuit.specs.declared.Status.{Status}
use Rattle.gw_circuit.specs.Items as given
use Rattle.gw_circuit.specs.Replies as alone
use Rattle.gw_circuit.specs.Coding as coding
use Rattle.gw_circuit.specs.Lone as lone
use Rattle.gw_switch.specs.declared.GatewayConfig.{GatewayConfig}
use Rattle.gw_switch.specs.declared.OctetOut.{OctetOut}
use Rattle.gw_switch.specs.declared.OctetSent.{OctetSent}
use Rattle.gw_switch.specs.declared.Alarms.{Alarms}
use Rattle.gw_switch.specs.Hearing.{slot16_octets, heard, signalled, remote_frame, remote_multiframe}
use Rattle.gw_switch.specs.Events.{Event, octets, view}
use Rattle.gw_switch.specs.Lives.{config_after, life}
use Rattle.gw_switch.specs.Events.Event.{Octet, Given, GivenAll}

-- what is sent in an octet's turn: the octet, and a datagram with its circuit's number, if any
pub record Sending : Type 0 where
  pub octet : ℕ
  pub packet : Option (ℕ × List ℕ)

abbrev pub sending_of : OctetOut → Sending
sending_of out = record { octet = out.octet; packet = option_map (λ p. (p.0, p.1.items)) out.packet }

-- the same, if a datagram is in room that was lent
abbrev pub sending_in : OctetSent → List ℕ → Sending
sending_in out room = record { octet = out.octet; packet = option_map (λ c. (c, room)) out.circuit }

-- a configuration if none is meant: of a circuit that a gateway does not have
abbrev pub spare_config : CircuitConfig
spare_config = record {
  role = Outgoing;
  codec = G711;
  payload_type = 0;
  ptime = 20;
  prefill = 0;
  ssrc = 0;
  sequence = 0;
  timestamp = 0;
  type_fits = lit< tt;
  ptime_fits = record { least = lit≤ tt; most = lit≤ tt; whole = refl };
  prefill_fits = lit≤ tt;
}

-- the configuration of a circuit, 1 to 30
abbrev pub config_of : GatewayConfig → ℕ → CircuitConfig
config_of config c = slice_index_or config.circuits (c - 1) spare_config

-- how circuit c is configured after events
abbrev pub config_in : GatewayConfig → List Event → ℕ → CircuitConfig
config_in config events c = config_after (config_of config c) (view c events)

-- slot 0: the frame alignment signal in even frames; in odd ones bit A is the alarm (ITU-T G.704, 2.3.2)
abbrev pub slot_zero : ℕ → Bool → ℕ
slot_zero frame alarm = if frame % 2 == 0 then 0x9b else (if alarm then 0xff else 0xdf)

-- slot 16 of frame 0: the multiframe alignment signal; bit y is the alarm (ITU-T G.704, 5.1.3.2.2)
abbrev pub multiframe_signal : Bool → ℕ
multiframe_signal alarm = if alarm then 0x0f else 0x0b

-- what a circuit sends in its slot
abbrev pub speech_out : ℕ → ℕ × Option (List ℕ) → Sending
speech_out c reply = record { octet = reply.0; packet = option_map (λ datagram. (c, datagram)) reply.1 }

-- an octet alone
abbrev pub plain : ℕ → Sending
plain octet = record { octet = octet; packet = None }

-- the nibble that a circuit sends in the turn of octet n, s being the octets up to it
abbrev pub nibble_sent : GatewayConfig → List Event → List ℕ → ℕ → ℕ → ℕ
nibble_sent config before s n c =
    alone.signal_reply config.law (config_in config before c) (life c before) (signalled c s n)

-- what is sent in the turn of octet n, which is in this slot of this frame, s being the octets up to it
abbrev pub sent : GatewayConfig → List Event → List ℕ → ℕ → ℕ → ℕ → Sending
sent config before s n slot frame =
    let c = circuit_in slot in
    if slot == 0 then plain (slot_zero frame (frames.alarm_after s))
    else (if slot == 16
    then (if frame == 0
    then plain (multiframe_signal (multiframes.alarm_after (slot16_octets s (length s))))
    else plain (16 * nibble_sent config before s n frame + nibble_sent config before s n (frame + 15)))
    else speech_out c (alone.slot_reply config.law (config_in config before c) (life c before) (heard c s n)))

-- the reply to an octet
unfoldable pub octet_reply : GatewayConfig → List Event → ℕ → Sending
octet_reply config before octet =
    let n = length (octets before) in
    sent config before (octets before ++ octet ∷ []) n (n % 32) ((n / 32) % 16)

-- the replies to what is given to a circuit are those of the circuit by itself
abbrev pub datagram_reply : GatewayConfig → List Event → ℕ → List ℕ → Result (Unit {0}) Dropped
datagram_reply config before c data_octets =
    alone.datagram_reply config.law (config_in config before c) (life c before) data_octets

abbrev pub command_reply : GatewayConfig → List Event → ℕ → Cmd → Result (Unit {0}) LineFault
command_reply config before c asked =
    alone.command_reply config.law (config_in config before c) (life c before) asked

abbrev pub codec_reply : GatewayConfig → List Event → ℕ → CodecKind → ℕ → Result (Unit {0}) CodecFault
codec_reply config before c kind payload_type =
    coding.codec_reply config.law (config_in config before c) (life c before) kind payload_type

-- so is its status
abbrev pub status_after : GatewayConfig → List Event → ℕ → Status
status_after config events c = lone.status_after config.law (config_in config events c) (life c events)

-- the circuit whose slot is sent in the turn of octet n, if one is
abbrev pub next_circuit : ℕ → Option ℕ
next_circuit n = if (n % 32 == 0) || (n % 32 == 16) then None else Some (circuit_in (n % 32))

-- the alarms after these octets
abbrev pub alarms_of : List ℕ → Alarms
alarms_of s = record {
  frame = frames.alarm_after s;
  multiframe = multiframes.alarm_after (slot16_octets s (length s));
  remote_frame = remote_frame s;
  remote_multiframe = remote_multiframe s;
}

-- the alarms after these events
abbrev pub alarms_after : List Event → Alarms
alarms_after events = alarms_of (octets events)

-- what circuit c by itself replies to what it is given
abbrev pub lone_reply : GatewayConfig → List Event → given.CircuitEvent → ℕ → given.Reply
lone_reply config before item c = lone.reply_to config.law (config_in config before c) (life c before) item

-- the reply to one event: what is sent, the answer of the circuit, or those of all circuits
pub data Reply : Type 0 where
  Sent : (sending : Sending) → Reply
  Answered : (answer : given.Reply) → Reply
  AllAnswered : (answer : ℕ → given.Reply) → Reply

-- the reply to an event, after the events before it
abbrev pub reply_to : GatewayConfig → List Event → Event → Reply
reply_to config before (Octet octet) = Reply.Sent (octet_reply config before octet)
reply_to config before (Given c item) = Reply.Answered (lone_reply config before item c)
reply_to config before (GivenAll item) = Reply.AllAnswered (lone_reply config before item)

-- the replies to events, after the events before them
abbrev pub whole_from : GatewayConfig → List Event → List Event → List Reply
whole_from config before [] = []
whole_from config before (event ∷ events) =
    reply_to config before event ∷ whole_from config (before ++ event ∷ []) events

-- the whole gateway: the reply to each event
abbrev pub whole : GatewayConfig → List Event → List Reply
whole config events = whole_from config [] events
