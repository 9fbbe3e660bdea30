-- The history of a playout: the calls since it was new, by its fields.
use Rattle.std.specs.Prelude.{◌≡◌, ◌+◌, ◌%◌, ◌^◌, ◌<◌, ◌≤◌, ◌⊎◌, ℕ, List, [], length, take, min}
use Rattle.std.specs.Prelude.{slice_get, if◌then◌else◌, Option, Some, None}
use Rattle.circular_buffer.specs.Buffer.{keep_last}
use Rattle.satop_playout.specs.declared.Settings.{Settings}
use Rattle.satop_playout.specs.declared.playout.SatopPlayout.{SatopPlayout}
use Rattle.satop_playout.specs.declared.slot.PacketSlot.{PacketSlot}
use Rattle.satop_playout.specs.Calls.{PlayoutCall}
use Rattle.satop_playout.specs.Plays.{PlacedPacket, PlayoutState, stream, packet_at, reach_from}

-- p is this many places behind a start, round the end of n places
abbrev pub Wraps : ℕ → ℕ → ℕ → ℕ → Type 0
Wraps start k n p = (p < n) × ((p ≡ start + k) ⊎ (p + n ≡ start + k))

-- the packet in a slot, if there is one
abbrev pub packet_in : ℕ → PacketSlot → Option (List ℕ)
packet_in size slot = if slot.held then Some (take size slot.octets) else None

-- the packet in a slot that may be there
abbrev pub packet_from : ℕ → Option PacketSlot → Option (List ℕ)
packet_from size None = None
packet_from size (Some slot) = packet_in size slot

-- the packet in a slot of a list, if there is one
abbrev pub packet_of : ℕ → List PacketSlot → ℕ → Option (List ℕ)
packet_of size slots p = packet_from size (slice_get slots p)

-- the number of the next packet, if a stream has begun
abbrev pub IsNext : Option ℕ → Option ℕ → List PlacedPacket → ℕ → Type 0
IsNext next None placed now = (next ≡ None) × (placed ≡ [])
IsNext next (Some first) placed now = next ≡ Some ((first + now) % 2 ^ 16)

pub record Represents (playout : SatopPlayout) (settings : Settings) (s : PlayoutState) : Type 0 where
  pub settings_are : playout.settings ≡ settings
  pub room : length playout.slots.items ≡ settings.window
  pub start : playout.head < settings.window
  -- a slot holds the accepted packet of its place, and none is accepted after the window
  pub held : (k p : ℕ) → k < settings.window → Wraps playout.head k settings.window p
      → packet_of settings.size playout.slots.items p ≡ packet_at s.placed (s.now + k)
  pub none : (place : ℕ) → s.now + settings.window ≤ place → packet_at s.placed place ≡ None
  pub next_is : IsNext playout.next s.first s.placed s.now
  pub reach_is : playout.reach ≡ reach_from s.placed s.now
  -- the last multiframe of octets, and how many are filled in a row
  pub recent : playout.given.items ≡ keep_last 512 s.given
  pub filled_is : playout.filled ≡ min s.filled 2048

-- the playout has these settings and this history of calls
unfoldable pub HasHistory : SatopPlayout → Settings → List PlayoutCall → Type 0
HasHistory playout settings calls = Represents playout settings (stream settings calls)
