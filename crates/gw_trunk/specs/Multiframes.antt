-- Octets for a device that may be slow, in multiframes (module `multiframe_dropper`).
use Rattle.std.specs.Prelude.{◌≡◌, ◌≢◌, ◌⊎◌, ◌==◌, ◌+◌, ◌<◌, ◌≤◌, if◌then◌else◌, ◌++◌, ◌∷◌, ℕ, List, []}
use Rattle.std.specs.Prelude.{Bool, true, false, length, flat_map}
use Rattle.std.specs.List.{AllByRecursion}
use Rattle.gw_records.specs.Streams.{at_most}
use Rattle.gw_trunk.specs.declared.multiframe_dropper.MultiframePosition.{MultiframePosition}

-- a multiframe, or its first octets, whether it is discarded, and how many waits for room had ended without
-- it before the multiframe and behind it
pub record Multiframe : Type 0 where
  pub octets : List ℕ
  pub is_discarded : Bool
  pub slow_before : ℕ
  pub slow_after : ℕ

-- all of a multiframe: sixteen frames of 32 octets (ITU-T G.704, 5.1.3.2)
abbrev pub IsWhole : Multiframe → Type 0
IsWhole m = length m.octets ≡ 512

-- it comes when this number of waits have ended without room, and if it is discarded one more does while it
-- comes
abbrev pub HasWaited : ℕ → Multiframe → Type 0
HasWaited waits m = (m.slow_before ≡ waits) × (m.slow_before ≤ m.slow_after)
    × (m.is_discarded ≡ true → m.slow_before < m.slow_after)

-- so do multiframes, one behind the other, up to a number of such waits
abbrev pub HaveWaited : ℕ → List Multiframe → ℕ → Type 0
HaveWaited waits [] waits' = waits ≡ waits'
HaveWaited waits (m ∷ ms) waits' = HasWaited waits m × HaveWaited m.slow_after ms waits'

-- its octets, and what is left of them
abbrev pub multiframe_octets : Multiframe → List ℕ
multiframe_octets m = m.octets

abbrev pub left_of : Multiframe → List ℕ
left_of m = if m.is_discarded then [] else m.octets

-- how many multiframes are discarded
abbrev pub number_discarded : List Multiframe → ℕ
number_discarded [] = 0
number_discarded (m ∷ ms) = (if m.is_discarded then 1 else 0) + number_discarded ms

-- Octets are sent in multiframes, of which the last one has not come whole. What is left of them is these
-- multiframes without the discarded ones, of this number. While each of these came a wait ended without room;
-- the last number counts all such waits.
pub record Thinned (sent left : List ℕ) (discarded slow_waits : ℕ) : Type 0 where
  pub multiframes : List Multiframe
  pub last : Multiframe
  pub whole : AllByRecursion IsWhole multiframes
  pub short : length last.octets < 512
  pub sent_are : sent ≡ flat_map multiframe_octets multiframes ++ last.octets
  pub left_are : left ≡ flat_map left_of multiframes ++ left_of last
  pub discarded_is : discarded ≡ at_most (number_discarded multiframes + (if last.is_discarded then 1 else 0))
  pub begun : ℕ
  pub have_waited : HaveWaited begun multiframes last.slow_before
  pub last_has : HaveWaited last.slow_before (last ∷ []) slow_waits

-- the same with what is known of the last multiframe, and the number of those that are discarded
pub record IsThinned (position : MultiframePosition) (sent left : List ℕ) (slow_waits : ℕ) : Type 0 where
  pub thinned : Thinned sent left position.discarded slow_waits
  pub place_is : position.place ≡ length thinned.last.octets
  pub discards_is : position.discards ≡ thinned.last.is_discarded

-- the position after this many octets of the multiframe
abbrev pub position_after : MultiframePosition → ℕ → MultiframePosition
position_after position n = if position.place + n == 512 then record position { place = 0; discards = false }
    else record position { place = position.place + n }

-- the position if a multiframe is discarded
abbrev pub position_discarding : MultiframePosition → MultiframePosition
position_discarding p = record p { discards = true; discarded = at_most (p.discarded + 1) }

-- octets of a multiframe passed: they are left, or discarded
pub record PassesOn (position position' : MultiframePosition) (left left' octets : List ℕ) : Type 0 where
  pub fits : position.place + length octets ≤ 512
  pub position_is : position' ≡ position_after position (length octets)
  pub left_is : left' ≡ left ++ (if position.discards then [] else octets)

-- octets of a multiframe passed, or a wait ended without room and it is discarded from its first octet on, of
-- which these are the first
abbrev pub Steps : MultiframePosition → MultiframePosition → List ℕ → List ℕ → List ℕ → ℕ → ℕ → Type 0
Steps position position' left left' octets waits waits' =
    ((waits ≤ waits') × PassesOn position position' left left' octets)
    ⊎ ((waits < waits') × (position.place ≡ 0) × (position.discards ≡ false)
    × PassesOn (position_discarding position) position' left left' octets)

-- nothing waits for the device, and no multiframe was discarded
pub record IsPrompt (held : List ℕ) (position : MultiframePosition) : Type 0 where
  pub none_held : held ≡ []
  pub goes : position.discards ≡ false
  pub none_discarded : position.discarded ≡ 0

-- there is room for the rest of a multiframe that goes on
abbrev pub HasRoom : List ℕ → MultiframePosition → Type 0
HasRoom held position = position.discards ≡ false → position.place ≢ 0 → length held ≤ position.place

-- A position is within a multiframe, there is room for the rest of it, and all is prompt if no wait ended
-- without room.
pub record IsWithin (slow_waits : ℕ) (held : List ℕ) (position : MultiframePosition) : Type 0 where
  pub below : position.place < 512
  pub room : HasRoom held position
  pub prompt : slow_waits ≡ 0 → IsPrompt held position

-- Octets were sent to a device that may be slow. They went to it in order, except for discarded whole
-- multiframes, of this number, and for octets that it has not taken in the end. While each discarded one came
-- a wait ended without room. All of them went if no wait did.
pub record GoesInTime (sent went : List ℕ) (discarded slow_waits : ℕ) : Type 0 where
  pub untaken : List ℕ
  pub thinned : Thinned sent (went ++ untaken) discarded slow_waits
  pub prompt : slow_waits ≡ 0 → (went ≡ sent) × (discarded ≡ 0)
