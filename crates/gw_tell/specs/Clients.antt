-- What clients get (modules `client` and `teller`).
use Rattle.std.specs.Prelude.{◌≡◌, ◌≢◌, ◌⊎◌, ◌++◌, ◌+◌, ◌<◌, ⊤, ℕ, List, [], length}
use Rattle.std.specs.Prelude.{Option, Some, None, slice_index_or}
use Rattle.mio.specs.declared.net.uds.stream.UnixStream.{UnixStream}
use Rattle.gw_tell.specs.declared.client.Client.{Client}
use Rattle.gw_tell.specs.declared.place.ClientSlot.{ClientSlot}
use Rattle.gw_tell.specs.Backlog.{waiting}
use Rattle.gw_tell.specs.Connections.{HasLeft, IsThere, WaitsShort, WriteFails}
use Rattle.gw_tell.specs.Reports.{sent_to, last_after}

-- All that was sent to a client: what it took, and behind it what waits for it. So what it took is a prefix
-- of what was sent.
abbrev pub sent : Client → List ℕ
sent client = client.got.octets ++ waiting client.waits

-- a client has not taken more than 64 KiB of all this
abbrev pub IsFull : Client → List ℕ → Type 0
IsFull client all = 65536 + length client.got.octets < length all

-- why a client is disconnected that was to be sent all this
abbrev pub DoesNotTake : Client → List ℕ → Type 0
DoesNotTake client all = WriteFails client.stream ⊎ IsFull client all

-- something waits for a client only because its connection did not take all that was written last
abbrev pub IsOffered : Client → Type 0
IsOffered client = WaitsShort client.stream (waiting client.waits)

-- two clients have the same connection
abbrev pub IsSameClient : Client → Client → Type 0
IsSameClient client client' = client'.start ≡ client.start

-- the client at a place was sent these octets, or is disconnected because it did not take them
abbrev pub Gets : Option Client → Option Client → List ℕ → Type 0
Gets None None octets = ⊤
Gets None (Some client') octets = ⊥
Gets (Some client) None octets =
    (last : Client) × IsSameClient client last × DoesNotTake last (sent client ++ octets)
Gets (Some client) (Some client') octets = IsSameClient client client'
    × (sent client' ≡ sent client ++ octets) × (client'.last ≡ client.last) × IsOffered client'

-- the same of its part of these lines, behind the line of a place
abbrev pub IsTold : Option Client → Option Client → ℕ → List ℕ → Type 0
IsTold None None at lines = ⊤
IsTold None (Some client') at lines = ⊥
IsTold (Some client) None at lines = (last : Client) × IsSameClient client last
    × DoesNotTake last (sent client ++ sent_to client.last at lines)
IsTold (Some client) (Some client') at lines = IsSameClient client client'
    × (sent client' ≡ sent client ++ sent_to client.last at lines)
    × (client'.last ≡ last_after client.last at lines) × ((lines ≡ []) ⊎ IsOffered client')

-- the client at a place stays as it is, and is there, or is disconnected because it has left
abbrev pub IsHeard : Option Client → Option Client → Type 0
IsHeard None None = ⊤
IsHeard None (Some client') = ⊥
IsHeard (Some client) None = (last : Client) × IsSameClient client last × HasLeft last.stream
IsHeard (Some client) (Some client') = IsSameClient client client'
    × (sent client' ≡ sent client) × (client'.last ≡ client.last) × IsThere client'.stream × IsOffered client'

-- A place that was free has the client of this connection, which was sent these octets at a place of the
-- trunk. It has none if the client did not take them.
unfoldable pub Seats : UnixStream → ℕ → List ℕ → Option Client → Type 0
Seats stream place octets None =
    (last : Client) × (last.start.value ≡ stream) × DoesNotTake last octets
Seats stream place octets (Some client) =
    (client.start.value ≡ stream) × (sent client ≡ octets) × (client.last ≡ place) × IsOffered client

-- a place without a client and without room for one
abbrev pub no_place : ClientSlot
no_place = record { client = None; room = None }

-- a place has a client, or the room for what waits for one
abbrev pub HasRoom : ClientSlot → Type 0
HasRoom place = place.client ≡ None → place.room ≢ None

-- a place is free, and has room
abbrev pub IsOpen : ClientSlot → Type 0
IsOpen place = (place.client ≡ None) × HasRoom place

-- the client at a place
abbrev pub at : List ClientSlot → ℕ → Option Client
at places k = (slice_index_or places k no_place).client

-- each place has a client, or room for one
abbrev pub AllHaveRoom : List ClientSlot → Type 0
AllHaveRoom places = (k : ℕ) → k < 8 → HasRoom (slice_index_or places k no_place)

-- no place has a client
abbrev pub AllFree : List ClientSlot → Type 0
AllFree places = (k : ℕ) → at places k ≡ None

-- each place has a client
abbrev pub AllTaken : List ClientSlot → Type 0
AllTaken places = (k : ℕ) → k < 8 → at places k ≢ None

-- the clients at all places but this one are as they were
abbrev pub OnlyAt : ℕ → List ClientSlot → List ClientSlot → Type 0
OnlyAt place places places' = (k : ℕ) → k ≢ place → at places' k ≡ at places k

-- all clients were sent their part of these lines, or are disconnected
abbrev pub AllAreTold : List ClientSlot → List ClientSlot → ℕ → List ℕ → Type 0
AllAreTold places places' place lines = (k : ℕ) → IsTold (at places k) (at places' k) place lines

-- all clients stay, or have left
abbrev pub AllAreHeard : List ClientSlot → List ClientSlot → Type 0
AllAreHeard places places' = (k : ℕ) → IsHeard (at places k) (at places' k)
