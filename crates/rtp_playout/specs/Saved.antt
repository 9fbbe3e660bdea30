-- The octets of a saved playout: its stream, then its places from the next take. The prefill and the room are
-- not among them: the playout that loads has its own.
use Rattle.std.specs.Prelude.{◌<◌, ◌^◌, ℕ, List, [], ◌∷◌, ◌++◌, Option, Some, None, flat_map}
use Rattle.saved_octets.specs.Numbers.{four_octets}
use Rattle.rtp_playout.specs.declared.playout.Playout.{Playout}
use Rattle.rtp_playout.specs.declared.playout.RtpStream.{RtpStream}

-- a place: 0 if it is empty, otherwise 1 and the word
abbrev pub saved_place : Option ℕ → List ℕ
saved_place None = 0 ∷ []
saved_place (Some word) = 1 ∷ word ∷ []

abbrev pub saved_places : List (Option ℕ) → List ℕ
saved_places places = flat_map saved_place places

-- a stream: 0 if there is none, otherwise 1, its SSRC, and the timestamp due at the next take
abbrev pub saved_stream : Option RtpStream → List ℕ
saved_stream None = 0 ∷ []
saved_stream (Some stream) = 1 ∷ four_octets stream.ssrc ++ four_octets stream.next

unfoldable pub saved_playout : Playout → List ℕ
saved_playout playout = saved_stream playout.stream ++ saved_places playout.window.items

-- the SSRC and the timestamp have 32 bits, as in every playout
abbrev pub StreamFits : Option RtpStream → Type 0
StreamFits None = Unit {0}
StreamFits (Some stream) = (stream.ssrc < 2 ^ 32) × (stream.next < 2 ^ 32)
