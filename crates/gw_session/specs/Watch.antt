-- What a watch of a session is shown (modules `watch` and `runs`).
use Rattle.std.specs.Prelude.{
  ◌≡◌,
  ◌⊎◌,
  ◌++◌,
  ◌∷◌,
  ℕ,
  suc,
  List,
  [],
  map,
  flat_map,
  Option,
  Some,
  None,
  Result,
}
use Rattle.std.specs.Prelude.{MatchResult}
use Rattle.gw_records.specs.Octets.{command_of, codec_of}
use Rattle.gw_session.specs.Prelude.{GatewayConfig, Gateway, Event, HasHistory, Record, Totals, RunFault}
use Rattle.gw_session.specs.Prelude.{Datagram, Command, Codec, EndsAll, EndsUntil, OrNoMemory, AppendsBut}
use Rattle.std.specs.Io.KnownBytes.{Appends}
use Rattle.gw_switch.specs.Whole.{reply_to}
use Rattle.gw_session.specs.Answers.{code_of, events_of}
use Rattle.gw_session.specs.Running.{all_kinds, RunsThrough, RunsUntilWrite}
use Rattle.gw_session.specs.Serve.{SessionInput, input_record, events_in, SessionStreams, OfFirstInputs}
use Rattle.gw_session.specs.Serve.{Served, served_kinds}

-- What a watch is shown in one call: a datagram that the gateway was given when this many octets of its
-- record were heard, and 0 or the number of its refusal; or a record, with the code of its answer, and the
-- gateway behind it.
pub data Look : Type 0 where
  Came : (heard : ℕ) → (circuit : ℕ) → (octets : List ℕ) → (code : ℕ) → Look
  Behind : (shown : Record) → (code : ℕ) → (gateway : Gateway) → Look

-- relates a watch before and after a call, and what it is shown
abbrev pub Shows : Type 0 → Type 1
Shows W = W → W → Look → Type 0

-- the same of a watch, or of none
abbrev pub ShowsSome : {W : Type 0} → Shows W → Shows (Option W)
ShowsSome shows None new look = new ≡ None
ShowsSome shows (Some w) None look = ⊥
ShowsSome shows (Some w) (Some w') look = shows w w' look

-- the record that is shown, if it is one
abbrev pub shown_in : Look → List Record
shown_in (Look.Came heard circuit octets code) = []
shown_in (Look.Behind r code gateway) = r ∷ []

-- a watch was called with each of these, one after another, and not otherwise
abbrev pub IsCalled : {W : Type 0} → Shows W → W → W → List Look → Type 0
IsCalled shows w w' [] = w' ≡ w
IsCalled {W} shows w w' (l ∷ looks) = (v : W) × shows w v l × IsCalled shows v w' looks

-- the looks at the datagrams among events of a record, of which this many octets were heard before
unfoldable pub looks_at : GatewayConfig → List Event → ℕ → List Event → List Look
looks_at config before heard [] = []
looks_at config before heard (Event.Octet octet ∷ es) =
    looks_at config (before ++ Event.Octet octet ∷ []) (suc heard) es
looks_at config before heard (Event.Given circuit (Datagram octets) ∷ es) =
    Look.Came heard circuit octets (code_of (reply_to config before (Event.Given circuit (Datagram octets))))
    ∷ looks_at config (before ++ Event.Given circuit (Datagram octets) ∷ []) heard es
looks_at config before heard (e ∷ es) = looks_at config (before ++ e ∷ []) heard es

-- the code of the answer to a record, after these events: 0 for octets of the trunk
abbrev pub code_after : GatewayConfig → List Event → Record → ℕ
code_after config before (Record.Trunk octets) = 0
code_after config before (Record.Datagram circuit octets) =
    code_of (reply_to config before (Event.Given circuit (Datagram octets)))
code_after config before (Record.Command circuit command) =
    code_of (reply_to config before (Event.Given circuit (Command (command_of command))))
code_after config before (Record.Codec circuit codec payload_type) =
    code_of (reply_to config before (Event.Given circuit (Codec (codec_of codec) payload_type)))

-- .. after all that had happened to a gateway
abbrev pub IsCodeAfter : Gateway → Record → ℕ → Type 0
IsCodeAfter gateway r code = (config : GatewayConfig) (before : List Event) → HasHistory config gateway before
    → code ≡ code_after config before r

-- These are the looks for a record whose events these are, and the rest: at each datagram among them, and
-- then at the record, with the code of its answer and a gateway to which all events up to its last have
-- happened.
pub record LooksFor (config : GatewayConfig) (before es : List Event) (looks rest : List Look) : Type 0 where
  pub shown : Record
  pub code : ℕ
  pub gateway : Gateway
  pub looks_are : looks ≡ looks_at config before 0 es ++ Look.Behind shown code gateway ∷ rest
  pub code_is : code ≡ code_after config before shown
  pub stands : HasHistory config gateway (before ++ es)

-- .. for records one after another, and then at the datagrams among the events of a record that is not shown
abbrev pub AreTrue : GatewayConfig → List Event → List (List Event) → List Event → List Look → Type 0
AreTrue config before [] last looks = looks ≡ looks_at config before 0 last
AreTrue config before (es ∷ happened) last looks = (rest : List Look) × LooksFor config before es looks rest
    × AreTrue config (before ++ es) happened last rest

-- A watch was called once for each datagram among the events of these records, and once behind each record,
-- in their order, and not otherwise, but for the datagrams among the events of a last record that is not
-- shown.
pub record Watched {W : Type 0} (shows : Shows W) (gateway : Gateway) (w w' : W) (records : List Record)
    (happened : List (List Event)) (last : List Event) : Type 0 where
  pub looks : List Look
  pub calls : IsCalled shows w w' looks
  pub shown_are : flat_map shown_in looks ≡ records
  pub are_true : (config : GatewayConfig) (before : List Event) → HasHistory config gateway before
      → AreTrue config before happened last looks

-- .. for the records of these inputs
abbrev pub InputsShown : {W : Type 0} → Shows W → Gateway → W → W → List SessionInput → List Event → Type 0
InputsShown shows gateway w w' inputs =
    Watched shows gateway w w' (map input_record inputs) (map events_in inputs)

-- .. for records alone
abbrev pub RecordsShown : {W : Type 0} → Shows W → Gateway → W → W → List Record → List Event → Type 0
RecordsShown shows gateway w w' records = Watched shows gateway w w' records (map events_of records)

-- this is known of records, or of all but the last one and of its events
abbrev pub OfFirst : (List Record → List Event → Type 0) → List Record → Type 0
OfFirst Seen records = Seen records []
    ⊎ ((first : List Record) × (last : Record) × (records ≡ first ++ last ∷ []) × Seen first (events_of last))

-- A session over records alone ended as `run` promises, and this is known of its records: of all that it
-- acted on. Where a write failed, it is known of all, or of all but the last one and of its events. For want
-- of memory this was kept.
abbrev pub RunsWatched : SessionStreams → SessionStreams → Gateway → Gateway
    → (List Record → List Event → Type 0) → Type 0 → Result Totals RunFault → Type 0
RunsWatched a a' gateway gateway' Seen Kept result = MatchResult result
    (EndsAll all_kinds a.source a'.source a.sink a'.sink
    (λ totals records. RunsThrough gateway gateway' a.sink a'.sink totals records × Seen records []))
    (OrNoMemory Kept (EndsUntil all_kinds a.source a'.source a.sink a'.sink
    (λ totals records. RunsThrough gateway gateway' a.sink a'.sink totals records × Seen records [])
    (λ records. RunsUntilWrite gateway gateway' a.sink a'.sink records × OfFirst Seen records)))

-- A session that serves ended as `serve` promises, and this is known of its inputs: of all that it acted on.
-- Where a write failed, it is known of all, or of all but the last one and of its events. For want of memory
-- this was kept.
abbrev pub ServesWatched : SessionStreams → SessionStreams → Gateway → Gateway
    → (List SessionInput → List Event → Type 0) → Type 0 → Result Totals RunFault → Type 0
ServesWatched a a' gateway gateway' Seen Kept result = MatchResult result
    (EndsAll served_kinds a.source a'.source a.sink a'.sink (λ totals records.
    (t : Served a a' gateway gateway' (λ first. Appends a.sink.taken a'.sink.taken) totals records)
    × Seen t.inputs []))
    (OrNoMemory Kept (EndsUntil served_kinds a.source a'.source a.sink a'.sink (λ totals records.
    (t : Served a a' gateway gateway' (λ first. Appends a.sink.taken a'.sink.taken) totals records)
    × Seen t.inputs [])
    (λ records. (totals : Totals)
    × (t : Served a a' gateway gateway' (AppendsBut 0 a.sink.taken a'.sink.taken) totals records)
    × OfFirstInputs Seen t.inputs)))
