-- A SAToP packet by its parts (RFC 4553; over UDP an RTP header may precede the control word).
use Rattle.std.specs.Prelude.{◌≡◌, ◌+◌, ◌*◌, ◌<◌, ◌^◌, ℕ, Bool, if◌then◌else◌, nat_lt}
use Rattle.std.specs.Prelude.{List, [], ◌∷◌, ◌++◌, length}
use Rattle.byteorder.specs.Endian.{big_bytes}
use Rattle.satop_packet.specs.declared.Control.{Control}

-- the parts of a packet: a fixed RTP header or none, the control word, the octets of the trunk
pub record Content : Type 0 where
  pub rtp : List ℕ
  pub control : Control
  pub payload : List ℕ

-- the value of a flag at a place of an octet
abbrev pub flag : Bool → ℕ → ℕ
flag b place = if b then place else 0

-- the four octets of the control word: four zero bits, L, R and RSV; FRG and LEN; the sequence number
-- (RFC 4553, 4.3)
abbrev pub control_word : Control → ℕ → ℕ → ℕ → List ℕ
control_word c reserved fragment len =
    (flag c.lost 8 + flag c.remote 4 + reserved) ∷ (fragment * 64 + len) ∷ big_bytes 2 c.sequence

-- no octets, or the twelve of a fixed RTP header without padding, extension or sources (RFC 3550, 5.1)
abbrev pub IsRtp : List ℕ → Type 0
IsRtp [] = Unit {0}
IsRtp (first ∷ octets) = (first ≡ 128) × (length (first ∷ octets) ≡ 12)

-- the octets of the RTP header, if one is expected
abbrev pub rtp_len : Bool → ℕ
rtp_len rtp = if rtp then 12 else 0

-- The octets are the join of these parts: the RTP header if expected, the control word and the payload. RSV
-- and FRG are ignored on receipt, so they may be any; LEN is 0 or the number of all octets (RFC 4553, 4.3).
pub record IsPacket (octets : List ℕ) (rtp : Bool) (p : Content) (reserved fragment len : ℕ) : Type 0 where
  pub joined : octets ≡ p.rtp ++ (control_word p.control reserved fragment len ++ p.payload)
  pub header : IsRtp p.rtp
  pub there : length p.rtp ≡ rtp_len rtp
  pub sequence : p.control.sequence < 2 ^ 16
  pub reserved_fits : reserved < 4
  pub fragment_fits : fragment < 4
  pub len_fits : len < 64
  pub counted : (len ≡ 0 → ⊥) → len ≡ length octets

-- LEN of a written packet of this many octets: their number if it is below 64
abbrev pub length_said : ℕ → ℕ
length_said size = if nat_lt size 64 then size else 0

-- the octets of a written packet: RSV and FRG are zero
unfoldable pub plain_packet : List ℕ → Control → List ℕ → List ℕ
plain_packet rtp control payload =
    rtp ++ (control_word control 0 0 (length_said (length rtp + 4 + length payload)) ++ payload)
