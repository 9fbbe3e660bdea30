-- What a call of a Teller does (module `teller`).
use Rattle.std.specs.Prelude.{◌≡◌, ◌≢◌, ◌⊎◌, ◌<◌, ◌+◌, ◌/◌, ◌++◌, ℕ, List, [], ◌∷◌, length, replicate, None}
use Rattle.mio.specs.declared.net.uds.stream.UnixStream.{UnixStream}
use Rattle.e1_g711.specs.declared.Law.{Law}
use Rattle.gw_switch.specs.declared.gateway.Gateway.{Gateway}
use Rattle.gw_records.specs.Records.{Record}
use Rattle.gw_tell.specs.declared.teller.Teller.{Teller}
use Rattle.gw_tell.specs.Clients.{at, AllAreHeard, AllAreTold, AllFree, AllTaken, OnlyAt, Seats}
use Rattle.gw_tell.specs.declared.gateway_status.GatewayStatus.{GatewayStatus}
use Rattle.gw_tell.specs.Lines.{at_line, event_line}
use Rattle.gw_tell.specs.Reports.{Changes, IsStatusOf, Shows, are_due, place_after, whole_state}
use Rattle.gw_tell.specs.Counts.{IsCounted, no_counts}
use Rattle.gw_tell.specs.Seizures.{AreCounted, no_seizures}
use Rattle.gw_records.specs.Streams.{at_most}
use Rattle.gw_session.specs.Watch.{Look}

-- a Teller that was shown nothing yet: it has no client, and what was reported last is this gateway's state
pub record HasBegun (t : Teller) (law : Law) (gateway : Gateway) : Type 0 where
  pub law_is : t.law ≡ law
  pub place_is : t.place ≡ 0
  pub free : AllFree t.places
  pub shows : Shows t.told gateway
  pub none_counted : t.counts ≡ replicate 30 no_counts
  pub none_seized : t.seized ≡ no_seizures

-- a Teller sent its clients what changed with a record, after which the gateway is in this state
pub record TellsChanges (t t' : Teller) (r : Record) (code : ℕ) (gateway : Gateway) : Type 0 where
  pub is : GatewayStatus
  pub shows : Shows is gateway
  pub lines : List ℕ
  pub changes : Changes (are_due t.place (place_after t.place r)) t.told is t'.told t.counts t'.counts
      (at_line (place_after t.place r) ++ event_line r code) (at_line (place_after t.place r) ++ lines)
  pub true_picture : IsStatusOf is t'.told
  pub told_all : AllAreTold t.places t'.places (place_after t.place r) lines

-- what a Teller keeps while it looks at its clients
pub record KeepsPlace (t t' : Teller) : Type 0 where
  pub law_is : t'.law ≡ t.law
  pub place_is : t'.place ≡ t.place
  pub told_is : t'.told ≡ t.told
  pub counts_is : t'.counts ≡ t.counts
  pub seized_is : t'.seized ≡ t.seized
  pub door_is : t'.door ≡ t.door

-- A connection has a place that was free, and is sent the whole state; the others stay as they are.
pub record HasPlace (gateway : Gateway) (stream : UnixStream) (t t' : Teller) : Type 0 where
  pub place : ℕ
  pub is_place : place < 8
  pub was_free : at t.places place ≡ None
  pub is : GatewayStatus
  pub shows : Shows is gateway
  pub seated : Seats stream t.place (whole_state t.law t.place is t.counts t.seized)
      (at t'.places place)
  pub others : OnlyAt place t.places t'.places
  pub same : KeepsPlace t t'

-- A connection is that of a new client. It is dropped if each place has a client.
abbrev pub Welcomes : Gateway → UnixStream → Teller → Teller → Type 0
Welcomes gateway stream t t' = (AllTaken t.places × (t' ≡ t)) ⊎ HasPlace gateway stream t t'

-- the door was asked for a connection
abbrev pub AsksDoor : Teller → Teller → Type 0
AsksDoor t t' = t' ≡ record t { door = t'.door }

-- connections were accepted, one after another, and each was welcomed
abbrev pub LetAllIn : Gateway → List UnixStream → Teller → Teller → Type 0
LetAllIn gateway [] t t' = t' ≡ t
LetAllIn gateway (stream ∷ streams) t t' = (opened between : Teller) × AsksDoor t opened
    × Welcomes gateway stream opened between × LetAllIn gateway streams between t'

-- Connections were accepted until nobody was found at the door, or eight.
pub record LetsIn (gateway : Gateway) (t t' : Teller) : Type 0 where
  pub streams : List UnixStream
  pub last : Teller
  pub all : LetAllIn gateway streams t last
  pub ends : ((length streams ≡ 8) × (t' ≡ last)) ⊎ ((length streams < 8) × AsksDoor last t')

-- a record of the trunk after which clients are looked for: each one in the first 8,192 octets, then one in 8,192
abbrev pub IsLook : Record → ℕ → Teller → Type 0
IsLook (Record.Trunk octets) before t = (before < 8192) ⊎ (before / 8192 ≢ t.place / 8192)
IsLook _ before t = ⊥

-- Those who have left are disconnected, and then new clients are let in.
pub record Looks (gateway : Gateway) (t t' : Teller) : Type 0 where
  pub heard : Teller
  pub hears : AllAreHeard t.places heard.places
  pub same : KeepsPlace t heard
  pub lets_in : LetsIn gateway heard t'

-- A Teller was shown a record, with the code of its answer and the gateway behind it. It counted seizures,
-- and sent its clients what changed. Then it may have looked at its clients.
pub record TellsRecord (t t' : Teller) (r : Record) (code : ℕ) (gateway : Gateway) : Type 0 where
  pub behind : Teller
  pub law_is : behind.law ≡ t.law
  pub place_is : behind.place ≡ place_after t.place r
  pub tells : TellsChanges t behind r code gateway
  pub counted : AreCounted t.seized t.told.rows behind.told.rows behind.seized
  pub looks : (IsLook r t.place behind × Looks gateway behind t')
      ⊎ ((IsLook r t.place behind → ⊥) × (t' ≡ behind))

-- A Teller was shown a datagram of a circuit, when this many octets of its record were heard: it counted it.
pub record CountsDatagram (t t' : Teller) (heard circuit : ℕ) (octets : List ℕ) (code : ℕ) : Type 0 where
  pub others : t' ≡ record t { counts = t'.counts }
  pub counted : IsCounted circuit (at_most (t.place + heard)) octets code t.counts t'.counts

-- what a Teller does with what it is shown
abbrev pub Tells : Teller → Teller → Look → Type 0
Tells t t' (Look.Came heard circuit octets code) = CountsDatagram t t' heard circuit octets code
Tells t t' (Look.Behind r code gateway) = TellsRecord t t' r code gateway
