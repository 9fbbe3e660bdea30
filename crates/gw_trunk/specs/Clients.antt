-- The clients of a trunk: what they give and what they get (modules `client` and `clients`).
use Rattle.std.specs.Prelude.{◌≡◌, ◌≢◌, ◌⊎◌, ◌==◌, ◌||◌, ◌&&◌, ◌+◌, ◌-◌, ◌<◌, ◌≤◌, ◌^◌, ◌%◌, ◌++◌, ⊤}
use Rattle.std.specs.Prelude.{if◌then◌else◌, ℕ, Bool, true, false, not, List, [], length, take}
use Rattle.std.specs.Prelude.{slice_index_or, Option, Some, None, MatchOption, Result}
use Rattle.std.specs.declared.io.ErrorKind.{ErrorKind}
use Rattle.std.specs.List.{list_any}
use Rattle.mio.specs.declared.event.event.Event.{Event}
use Rattle.mio.specs.declared.net.uds.stream.UnixStream.{UnixStream}
use Rattle.mio.specs.Event.{event_token, is_read_closed}
use Rattle.mio.specs.Events.{items}
use Rattle.gw_trunk.specs.declared.client.ClientPoll.{ClientPoll}
use Rattle.gw_trunk.specs.declared.client.ClientPoll.TheVariants.{Command, Nothing, Gone}
use Rattle.gw_trunk.specs.declared.client.Client.{Client}
use Rattle.gw_trunk.specs.declared.clients.Clients.{Clients}
use Rattle.gw_trunk.specs.declared.logged_reader.LoggedReader.{LoggedReader}
use Rattle.gw_trunk.specs.Device.{passed_count, is_broken_pipe}
use Rattle.gw_trunk.specs.Pieces.{AsksRecord, client_kinds}
use Rattle.gw_trunk.specs.System.{SystemWrote}
use Rattle.gw_records.specs.declared.records.RecordHead.{RecordHead}
use Rattle.gw_records.specs.declared.records.RecordsEnd.{RecordsEnd}
use Rattle.gw_records.specs.Records.{end_of, is_open}
use Rattle.gw_records.specs.Streams.{at_most}

-- octets begin with no whole record of a client, and may with more octets behind them
abbrev pub IsOpen : List ℕ → Type 0
IsOpen octets = (ending : RecordsEnd) × (end_of client_kinds octets ≡ Some ending)
    × (is_open ending ≡ true)

-- .. and do not with others behind them either
abbrev pub BeginsNone : List ℕ → Type 0
BeginsNone octets = (ending : RecordsEnd) × (end_of client_kinds octets ≡ Some ending)
    × (is_open ending ≡ false)

-- a client gave nothing more and got nothing more; it has left too if its end was read
pub record Stays (client client' : Client) : Type 0 where
  pub start_is : client'.start.value ≡ client.start.value
  pub gave_is : client'.gave.octets ≡ client.gave.octets
  pub got_is : client'.got.octets ≡ client.got.octets
  pub known_is : client'.known ≡ client.known
  pub number_is : client'.number ≡ client.number
  pub left_is : client'.left ≡ (client.left || client'.ended)

-- a client gave one more record, and got nothing more
pub record GaveOne (client client' : Client) (head : RecordHead) : Type 0 where
  pub start_is : client'.start.value ≡ client.start.value
  pub gave_is : AsksRecord client.gave.octets client'.gave.octets head
  pub got_is : client'.got.octets ≡ client.got.octets
  pub known_is : client'.known ≡ true
  pub number_is : client'.number ≡ client.number
  pub left_is : client'.left ≡ (client.left || client'.ended)

-- a client has nothing whole, but its end was not read, and what is held of it may become a record
pub record HasNothing (client : Client) : Type 0 where
  pub none : client.ready ≡ false
  pub goes : client.ended ≡ false
  pub part : IsOpen client.held.items
  pub room : length client.held.items < 64

-- A client is to be disconnected: what is held of it is no whole record, and its end was read or 64 octets
-- are held; or it begins with none.
abbrev pub MayGo : Client → Type 0
MayGo client = (IsOpen client.held.items × ((client.ended ≡ true) ⊎ (length client.held.items ≡ 64)))
    ⊎ BeginsNone client.held.items

-- What a client did that was asked: it gave the record of a head; or it gave none and has nothing that is
-- whole; or it is to be disconnected.
abbrev pub Replies : ClientPoll → Client → Client → Type 0
Replies (Command head) client client' = GaveOne client client' head
Replies Nothing client client' = Stays client client' × HasNothing client'
Replies Gone client client' = Stays client client' × MayGo client'

-- something may have come from a client if it is woken, and it has left if so it is said; all else is as it
-- was
pub record IsWoken (is_woken has_left : Bool) (client client' : Client) : Type 0 where
  pub stream_is : client'.stream ≡ client.stream
  pub held_is : client'.held.items ≡ client.held.items
  pub ended_is : client'.ended ≡ client.ended
  pub start_is : client'.start.value ≡ client.start.value
  pub gave_is : client'.gave.octets ≡ client.gave.octets
  pub got_is : client'.got.octets ≡ client.got.octets
  pub known_is : client'.known ≡ client.known
  pub number_is : client'.number ≡ client.number
  pub ready_is : client'.ready ≡ (is_woken || client.ready)
  pub left_is : client'.left ≡ (has_left || client.left)

-- the client at a place was asked and gave nothing: it stays and has nothing whole, or is disconnected as it
-- may be; or there is none
abbrev pub GaveNone : Option Client → Option Client → Type 0
GaveNone None None = ⊤
GaveNone None (Some client') = ⊥
GaveNone (Some client) None = (last : Client) × Stays client last × MayGo last
GaveNone (Some client) (Some client') = Stays client client' × HasNothing client'

-- the client at a place gave one more record
abbrev pub GaveAt : Option Client → Option Client → RecordHead → Type 0
GaveAt (Some client) (Some client') head = GaveOne client client' head
GaveAt _ _ head = ⊥

-- A client got as much of an answer as a write to it took, and gave nothing more. It has hung up if the write
-- says so.
pub record GotPart (client client' : Client) (answer : List ℕ) (written : Result ℕ ErrorKind)
    : Type 0 where
  pub start_is : client'.start.value ≡ client.start.value
  pub gave_is : client'.gave.octets ≡ client.gave.octets
  pub got_is : client'.got.octets ≡ client.got.octets ++ take (passed_count written) answer
  pub known_is : client'.known ≡ client.known
  pub number_is : client'.number ≡ client.number
  pub left_is : client'.left ≡ (client.left || is_broken_pipe written)

-- an answer was written to a client, who took it whole or has hung up, or did neither
abbrev pub Takes : Bool → Client → Client → List ℕ → Type 0
Takes takes client client' answer = (written : Result ℕ ErrorKind)
    × SystemWrote client'.stream answer written × GotPart client client' answer written
    × (takes ≡ ((passed_count written == length answer) || client'.left))

-- the client at a place takes an answer, or is disconnected because it did not
abbrev pub Gets : Option Client → Option Client → List ℕ → Type 0
Gets None None answer = ⊤
Gets None (Some client') answer = ⊥
Gets (Some client) None answer = (last : Client) × Takes false client last answer
Gets (Some client) (Some client') answer = Takes true client client' answer

-- a place has no client, or one from whom nothing has come since a read found nothing
abbrev pub is_quiet : Option Client → Bool
is_quiet None = true
is_quiet (Some client) = not client.ready

-- what the client at a place did that was asked
abbrev pub Answers : ClientPoll → Option Client → Option Client → Type 0
Answers (Command head) place place' = GaveAt place place' head
Answers _ place place' = GaveNone place place'

-- the client at a place
abbrev pub at : List (Option Client) → ℕ → Option Client
at places k = slice_index_or places k None

-- the clients at all places but this one are as they were
abbrev pub OnlyAt : ℕ → List (Option Client) → List (Option Client) → Type 0
OnlyAt place places places' = (k : ℕ) → k ≢ place → at places' k ≡ at places k

-- the place that is asked at a turn, from a first one on
abbrev pub place_at : ℕ → ℕ → ℕ
place_at first turn = (first % 8 + turn) % 8

-- The clients at this many places, in turn, were asked and gave nothing. Those at others are as they were.
pub record GaveNothing (first turns : ℕ) (places places' : List (Option Client)) : Type 0 where
  pub asked : (turn : ℕ) → turn < turns
      → GaveNone (at places (place_at first turn)) (at places' (place_at first turn))
  pub others : (k : ℕ) → ((turn : ℕ) → turn < turns → k ≢ place_at first turn) → at places' k ≡ at places k

-- Clients were asked in turn, those before one at a place gave nothing, and this one did this. Those behind
-- it were not asked.
pub record HasTurned (first : ℕ) (places places' : List (Option Client))
    (place : ℕ) (does : Option Client → Option Client → Type 0) : Type 0 where
  pub turn : ℕ
  pub in_turn : turn < 8
  pub place_is : place ≡ place_at first turn
  pub between : List (Option Client)
  pub before : GaveNothing first turn places between
  pub done : does (at between place) (at places' place)
  pub others : OnlyAt place between places'

-- What clients did that were asked in turn, from the place on that is next: one gave a record, to which the
-- answer is for it, and those behind it are asked first the next time; or none has anything. One that is to
-- be disconnected is, and that ends nothing.
abbrev pub Asks : ClientPoll → Clients → Clients → Type 0
Asks (Command head) clients clients' = (place : ℕ)
    × (clients' ≡ record clients { places = clients'.places; asker = Some place; next = place + 1 })
    × HasTurned clients.next clients.places clients'.places place
    (λ client client'. GaveAt client client' head)
Asks Nothing clients clients' = (clients' ≡ record clients { places = clients'.places })
    × GaveNothing clients.next 8 clients.places clients'.places
Asks Gone clients clients' = ⊥

-- events have one of this token, or one of it that says that the other end has left
abbrev pub comes : ℕ → List Event → Bool
comes token events = list_any (λ e. (event_token e).0 == token) events

abbrev pub leaves : ℕ → List Event → Bool
leaves token events = list_any (λ e. (event_token e).0 == token && is_read_closed e) events

-- a client at a place is woken, or it is said that it has left; or there is none
abbrev pub IsWokenAt : Bool → Bool → Option Client → Option Client → Type 0
IsWokenAt is_woken has_left None None = ⊤
IsWokenAt is_woken has_left None (Some client') = ⊥
IsWokenAt is_woken has_left (Some client) None = ⊥
IsWokenAt is_woken has_left (Some client) (Some client') = IsWoken is_woken has_left client client'

-- each client is woken by events of its token, which follow that of the door
abbrev pub AreWoken : List Event → List (Option Client) → List (Option Client) → Type 0
AreWoken events places places' = (k : ℕ) → k < 8
    → IsWokenAt (comes (k + 2) events) (leaves (k + 2) events) (at places k) (at places' k)

-- The events that the system reported last are noted: those of the trunk, of the door, of what asks for the
-- end, and of clients.
pub record Looks (clients clients' : Clients) : Type 0 where
  pub octets_is : clients'.octets ≡ (comes 0 (items clients'.poller.events) || clients.octets)
  pub knocks_is : clients'.knocks ≡ (comes 1 (items clients'.poller.events) || clients.knocks)
  pub ends_is : clients'.ends ≡ (comes 10 (items clients'.poller.events) || clients.ends)
  pub woken : AreWoken (items clients'.poller.events) clients.places clients'.places
  pub same : clients' ≡ record clients {
    poller = clients'.poller;
    octets = clients'.octets;
    knocks = clients'.knocks;
    ends = clients'.ends;
    places = clients'.places;
  }

-- The rank of a place for a new client: it takes the lowest, a free one, else that of a client that has left,
-- else that of the one that came first of those who never gave a record; never one of the last rank.
abbrev pub rank : Option Client → ℕ
rank None = 0
rank (Some client) =
    if client.left then 1 else (if client.known then 2 ^ 64 - 1 else at_most (client.number + 2))

-- a place is that of a new client
pub record MakesRoom (places : List (Option Client)) (place : ℕ) : Type 0 where
  pub is_place : place < 8
  pub is_open : rank (at places place) < 2 ^ 64 - 1
  pub is_lowest : (k : ℕ) → k < 8 → rank (at places place) ≤ rank (at places k)

-- each place has a client that is there and gave a record
abbrev pub AreAllKnown : List (Option Client) → Type 0
AreAllKnown places = (k : ℕ) → k < 8 → rank (at places k) ≡ 2 ^ 64 - 1

-- the client at a place is new: this is its connection, and this many came before it
abbrev pub IsNew : UnixStream → ℕ → Option Client → Type 0
IsNew stream number None = ⊥
IsNew stream number (Some client) = (client.start.value ≡ stream) × (client.number ≡ number)
    × (client.gave.octets ≡ []) × (client.got.octets ≡ []) × (client.known ≡ false) × (client.left ≡ false)

-- a connection is that of a client who is new at this place
pub record HasNew (stream : UnixStream) (place : ℕ) (clients clients' : Clients) : Type 0 where
  pub is_new : IsNew stream clients.came (at clients'.places place)
  pub others : OnlyAt place clients.places clients'.places
  pub same : clients' ≡ record clients {
    poller = clients'.poller;
    places = clients'.places;
    came = at_most (clients.came + 1);
  }

-- A connection is that of a new client, at the place of one. It is dropped if each place has a client that is
-- there and gave a record, or if the system refuses to report what comes of it.
abbrev pub Places : UnixStream → Clients → Clients → Type 0
Places stream clients clients' = (AreAllKnown clients.places × (clients' ≡ clients))
    ⊎ ((place : ℕ) × MakesRoom clients.places place × (HasNew stream place clients clients'
    ⊎ (clients' ≡ record clients { poller = clients'.poller })))

-- An answer is given to the client whose record was the last one, if it is still there and has none yet. The
-- clients at all other places are as they were.
abbrev pub GivesAnswer : Clients → Clients → List ℕ → Type 0
GivesAnswer clients clients' answer = MatchOption clients.asker (clients' ≡ clients) (λ place.
    (clients' ≡ record clients { places = clients'.places; asker = None })
    × (place < 8 → Gets (at clients.places place) (at clients'.places place) answer)
    × OnlyAt place clients.places clients'.places)

-- A trunk with clients begins: its octets are those of this reader, neither it nor a client gave any yet, and
-- it goes on.
pub record BeginsTrunk {R : Type 0} {m : _} (reader : R) (logged : LoggedReader R m)
    (asked told : List ℕ) (ended : Bool)
    : Type 0 where
  pub reader_is : logged.reader ≡ reader
  pub start_is : logged.start.value ≡ reader
  pub came : logged.log.octets ≡ []
  pub unasked : asked ≡ []
  pub untold : told ≡ []
  pub goes_on : ended ≡ false
