-- What sessions have in common that act on one record after another.
use Rattle.gw_records.proofs.Common.{◌≡◌, ◌+◌, ◌^◌, ◌<◌, ◌≤◌, inl, inr, ℕ, true, List, [], ◌∷◌, ◌++◌, length, drop}
use Rattle.gw_records.proofs.Common.{common_steps, refl, ◌∙◌, arith, Some, Result, Ok, Err, IfOk, IfErr, IsErrAnd}
use Rattle.gw_records.proofs.Common.{flat_map, AllByRecursion, IsAtEnd, AcceptedKinds, FirstRecord, RecordsEnd}
use Rattle.gw_records.proofs.Common.{Record, spelled, IsGood, IsFirst, record_at, end_of, is_open, SourceState}
use Rattle.gw_records.proofs.Common.{SinkState, GivesOctets, GivesUp, Held, Brings, RunsOut, FailsToRead}
use Rattle.gw_records.specs.declared.outcome.Totals.{Totals}
use Rattle.gw_records.specs.declared.outcome.RunFault.{RunFault}
use Rattle.gw_records.specs.declared.records.RecordsEnd.TheVariants as endings
use Rattle.gw_records.specs.Outcome.{answer_of, SessionTo, Ends, EndsAll, EndsUntil, FailsToWrite}
use Rattle.gw_records.proofs.Writes.{GivesOctets-none, GivesOctets-end}

abbrev pub made : ℕ → ℕ → ℕ → ℕ → ℕ → Totals
made a b c d e = record { records = a; octets = b; datagrams = c; dropped = d; port_faults = e }

-- equal counts are equal totals
pub five : {a a' b b' c c' d d' e e' : ℕ} → a ≡ a' → b ≡ b' → c ≡ c' → d ≡ d' → e ≡ e'
    → made a b c d e ≡ made a' b' c' d' e'
five p q r s t = cc

-- a fault that goes up is the one that was met
pub goes_up : {T E : Type 0} {e : E} (P : E → Type 0) (r : Result T E) (f : E) → IsErrAnd r (λ y. y ≡ e) → e ≡ f → P f
    → IfErr r P
goes_up P (Ok x) f up met p = tt
goes_up P (Err y) f up met p = rw (up, met) p

-- a session between two records: what it has read are good records and what its reader holds
pub record Stage (kinds : AcceptedKinds) (source source' : SourceState) (sink sink' : SinkState) (h : Held)
    (octets : List ℕ) (records : List Record) : Type 0 where
  pub gives : GivesOctets source source' octets
  pub whole : octets ≡ flat_map spelled records ++ h.octets
  pub good : AllByRecursion (IsGood kinds) records
  pub no_read : source'.failures ≡ source.failures
  pub no_write : sink'.failures ≡ sink.failures
  pub turns : 2 ^ 62 ≤ h.reads_left + length octets
  pub calls : source'.reads + h.reads_left ≡ source.reads + 2 ^ 62

-- before the first record
pub starts : {kinds : AcceptedKinds} (a : SourceState) (c : SinkState) (h : Held) → h.octets ≡ []
    → h.reads_left ≡ 2 ^ 62 → Stage kinds a a c c h [] []
starts a c h none left = grind (arith, GivesOctets-none a)

-- the first record is taken
take_record : (kinds : AcceptedKinds) (octets held : List ℕ) (records : List Record) (f : FirstRecord)
    → octets ≡ flat_map spelled records ++ held → IsFirst kinds f held
    → octets ≡ flat_map spelled (records ++ record_at f held ∷ []) ++ drop f.len held
take_record kinds octets held records f e first = grind (arith, common_steps)

-- what holds of the items of two lists holds of those of both
pub All-join : {X : Type 0} (P : X → Type 0) (xs ys : List X) → AllByRecursion P xs → AllByRecursion P ys
    → AllByRecursion P (xs ++ ys)
All-join P [] ys p q = q
All-join P (x ∷ xs) ys p q = (p.0, All-join P xs ys p.1 q)

-- .. of a slice that is held
pub first_held : {kinds : AcceptedKinds} {slice held : List ℕ} (f : FirstRecord) → slice ≡ held → IsFirst kinds f slice
    → IsFirst kinds f held
first_held f e first = rw e at first

-- a record was acted on and passed
pub record_taken : {kinds : AcceptedKinds} {a b : SourceState} {c d d' : SinkState} {h h' : Held} {octets :
    List ℕ}
    {records : List Record} (f : FirstRecord) → Stage kinds a b c d h octets records
    → IsFirst kinds f h.octets
    → h'.octets ≡ drop f.len h.octets → h'.reads_left ≡ h.reads_left → d'.failures ≡ d.failures
    → Stage kinds a b c d' h' octets (records ++ record_at f h.octets ∷ [])
record_taken {kinds} {h = h} {octets = octets} {records = records} f w first passed left kept =
    grind (arith, common_steps)

-- a write failed in a record
pub stops_in : {kinds : AcceptedKinds} {a b : SourceState} {c d e : SinkState} {h : Held} {octets : List ℕ}
    {records : List Record} {Begun : List Record → Type 0} (f : FirstRecord)
    → Stage kinds a b c d h octets records
    → IsFirst kinds f h.octets → d.failures < e.failures
    → Begun (records ++ record_at f h.octets ∷ []) → FailsToWrite kinds a b c e Begun
stops_in {kinds} {h = h} {octets = octets} {records = records} f w first failed begun =
    grind (
      arith,
      take_record kinds octets h.octets records f w.whole first,
      All-join (IsGood kinds) records (record_at f h.octets ∷ []) w.good (first.good, tt),
    )

-- .. or behind the records
pub stops_behind : {kinds : AcceptedKinds} {a b : SourceState} {c d e : SinkState} {h : Held} {octets : List ℕ}
    {records : List Record} {Begun : List Record → Type 0} → Stage kinds a b c d h octets records
    → d.failures < e.failures → Begun records → FailsToWrite kinds a b c e Begun
stops_behind {h = h} {octets = octets} {records = records} w failed begun = grind (arith, common_steps)

-- the source gave more octets
pub reads_more : {kinds : AcceptedKinds} {a b b' : SourceState} {c d d' : SinkState} {h h' : Held}
    {octets : List ℕ} {records : List Record} → Stage kinds a b c d h octets records
    → (r : Brings b b' h h') → a.reads < 2 ^ 63 → d'.failures ≡ d.failures
    → Stage kinds a b' c d' h' (octets ++ r.octets) records
reads_more {h = h} {octets = octets} {records = records} w r few kept = grind (arith, common_steps)

-- what is held ends so, and nothing came behind it
unfoldable session_to : {kinds : AcceptedKinds} {a b b' : SourceState} {c d d' : SinkState} {h : Held}
    {octets slice : List ℕ} {records : List Record} {ending : RecordsEnd} {Done : Totals → List Record → Type 0}
    (totals : Totals) → Stage kinds a b c d h octets records → GivesOctets b b' [] → slice ≡ h.octets
    → end_of kinds slice ≡ Some ending → d'.failures ≡ d.failures → Done totals records
    → SessionTo kinds a b' c d' Done ending
session_to {kinds} {h = h} {octets = octets} {records = records} totals w gives same ends kept done =
    grind (arith, GivesOctets-end _ _ _ _ [] refl w.gives gives)

-- the records end so
pub ended : {kinds : AcceptedKinds} {a b b' : SourceState} {c d d' : SinkState} {h h' : Held}
    {octets slice : List ℕ} {records : List Record} {ending : RecordsEnd} {Done : Totals → List Record → Type 0}
    (totals : Totals) → Stage kinds a b c d h octets records → RunsOut b b' h h' ending
    → slice ≡ h.octets → end_of kinds slice ≡ Some ending → d'.failures ≡ d.failures → Done totals records
    → (e : Ends kinds a b' c d' Done ending) × (totals ≡ e.0.totals)
unfolding session_to
ended totals w r same ends kept done = ((session_to totals w r.gives same ends kept done, r.same ∙ w.no_read), refl)

-- a read failed, or there were too many
pub gives_up : {kinds : AcceptedKinds} {a b b' : SourceState} {c d d' : SinkState} {h h' : Held}
    {octets slice : List ℕ} {records : List Record} {ending : RecordsEnd} {Done : Totals → List Record → Type 0}
    (totals : Totals) → Stage kinds a b c d h octets records → FailsToRead b b' h h' ending
    → slice ≡ h.octets → end_of kinds slice ≡ Some ending → d'.failures ≡ d.failures → Done totals records
    → (ending : RecordsEnd) × (s : SessionTo kinds a b' c d' Done ending) × GivesUp a b' s.octets
    × (is_open ending ≡ true)
unfolding session_to
gives_up totals w r same ends kept done = (
  _,
  session_to totals w r.gives same ends kept done,
  elim r.cause [
    | inl h ↦ inl (omega (arith, h, w.no_read))
    | inr h ↦ inr (omega (arith, h, w.calls, r.uncounted), omega (arith, h, w.turns))
  ],
  r.awaited,
)

-- a session ends if its records end so
pub ends_so : {kinds : AcceptedKinds} {a b : SourceState} {c d : SinkState} {Done : Totals → List Record → Type 0}
    (Begun : List Record → Type 0) (ending : RecordsEnd) (totals : Totals) (result : Result Totals RunFault)
    → (e : Ends kinds a b c d Done ending) → (is_open ending ≡ true → IsAtEnd b.to_come) → totals ≡ e.0.totals
    → result ≡ answer_of ending totals
    → (IfOk result (EndsAll kinds a b c d Done)) × (IfErr result (EndsUntil kinds a b c d Done Begun))
ends_so Begun endings.End totals result e o t r = rw r (record { ends = e; ended = o refl; totals_are = t }, tt)
ends_so Begun endings.Truncated totals result e o t r = rw r (tt, (e, o refl))
ends_so Begun _ totals result e o t r = rw r (tt, e)
