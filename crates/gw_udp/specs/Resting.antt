-- How many receives of circuits find none without asking the system.
use Rattle.std.specs.Prelude.{◌≡◌, ◌==◌, ◌<◌, ℕ, List, slice_index_or, if◌then◌else◌, Bool}
use Rattle.std.specs.List.{list_any}
use Rattle.mio.specs.Event.{event_token}
use Rattle.mio.specs.declared.event.event.Event.{Event}

-- events have one of this token
abbrev pub comes : ℕ → List Event → Bool
comes token events = list_any (λ e. (event_token e).0 == token) events

-- the receives that rest at a place
abbrev pub rests_of : List ℕ → ℕ → ℕ
rests_of rests place = slice_index_or rests place 0

-- no receive rests where something came by these events, and elsewhere as many rest as before
abbrev pub AreNoted : List Event → List ℕ → List ℕ → Type 0
AreNoted events rests rests' = (k : ℕ) → k < 30
    → rests_of rests' k ≡ (if comes k events then 0 else rests_of rests k)

-- The system was asked what came to sockets, and this is noted.
abbrev pub AsksSystem : List ℕ → List ℕ → Type 0
AsksSystem rests rests' = (events : List Event) × AreNoted events rests rests'
