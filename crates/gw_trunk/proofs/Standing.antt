-- The record that stands in a room.
use Rattle.std.proofs.Common.{◌≡◌, ◌+◌, ◌-◌, ◌<◌, ◌++◌, ◌∙◌, ℕ, List, [], Option, Some, None}
use Rattle.std.proofs.Common.{Bool, append-nil, length, take, drop, refl, sym, true, false, arith, length-take}
use Rattle.std.proofs.Common.{take_all}
use Rattle.std.proofs.Common.{◌≢◌, ◌⊎◌}
use Rattle.std.specs.Prelude.{IfSome, is_some}
use Rattle.std.proofs.lemmas.Bool.Decides.{nat_tests}
use Rattle.gw_records.specs.Records.{IsFirst, IsGood, is_open, named, spelled}
use Rattle.gw_records.specs.declared.records.RecordsEnd.{RecordsEnd}
unfoldable use Rattle.gw_records.specs.Records.{end_of, has_bad_kind}
use Rattle.gw_records.specs.declared.records.AcceptedKinds.{AcceptedKinds}
use Rattle.gw_records.specs.declared.records.FirstRecord.{FirstRecord}
use Rattle.gw_records.specs.declared.records.RecordHead.{RecordHead}
use Rattle.gw_records.specs.declared.records.RecordHead.TheVariants as heads
use Rattle.gw_records.specs.declared.records.RecordsEnd.TheVariants as endings
use Rattle.gw_records.specs.Reader.{FailsToRead, Held, ReadsOn}
use Rattle.gw_records.specs.Streams.{at_most}
use Rattle.gw_trunk.proofs.Cutting.{stands-fits}
use Rattle.gw_trunk.specs.Pieces.{source_told, held_in, is_accepted, stands_by, stands_in_room}

-- It is as long as it says.
pub stands-len : (head : RecordHead) (len : ℕ) (room : List ℕ) → length room ≡ 2048 → stands_by head len ≡ true
    → len ≡ length (spelled (named head (take (len - 4) room)))
stands-len heads.Trunk len room long e = let counted = length-take (len - 4) room in grind (arith, nat_tests)
stands-len (heads.Datagram circuit) len room long e = cc
stands-len (heads.Command circuit command) len room long e = grind (arith, nat_tests)
stands-len (heads.Codec circuit codec payload_type) len room long e = grind (arith, nat_tests)

-- It is good where its kind is accepted.
stands-good : (kinds : AcceptedKinds) (head : RecordHead) (len : ℕ) (room : List ℕ) → length room ≡ 2048
    → stands_by head len ≡ true → is_accepted kinds head ≡ true → IsGood kinds (named head (take (len - 4) room))
stands-good kinds heads.Trunk len room long e accepted =
    let counted = length-take (len - 4) room in (accepted, grind (arith, nat_tests))
stands-good kinds (heads.Datagram circuit) len room long e accepted = cc
stands-good kinds (heads.Command circuit command) len room long e accepted = grind (arith, nat_tests)
stands-good kinds (heads.Codec circuit codec payload_type) len room long e accepted = grind (arith, nat_tests)

-- Behind its front is its body.
stands-body : (head : RecordHead) (body : List ℕ) → named head (drop 4 (spelled (named head body))) ≡ named head body
stands-body heads.Trunk body = refl
stands-body (heads.Datagram circuit) body = refl
stands-body (heads.Command circuit command) body = refl
stands-body (heads.Codec circuit codec payload_type) body = refl

-- It is first then,
pub stands-first : (kinds : AcceptedKinds) (first : FirstRecord) (o : Option FirstRecord) (room : List ℕ)
    → o ≡ Some first → length room ≡ 2048 → stands_in_room first ≡ true → is_accepted kinds first.head ≡ true
    → IsFirst kinds first (held_in o room)
stands-first kinds first o room is long e accepted =
    let octets = spelled (named first.head (take (first.len - 4) room)) in
    let len = stands-len first.head first.len room long e in
    let all : take first.len octets ≡ octets = take_all first.len octets (omega (arith, len)) in
    rw is (record {
      more = grind (arith, nat_tests);
      fits = omega (arith, len);
      whole = rw (all, stands-body first.head (take (first.len - 4) room)) refl;
      good = rw (all, stands-body first.head (take (first.len - 4) room))
          (stands-good kinds first.head first.len room long e accepted);
    })

-- A record of a kind that is not accepted.
bad-kind : (kinds : AcceptedKinds) (head : RecordHead) (body : List ℕ) → is_accepted kinds head ≡ false
    → end_of kinds (spelled (named head body)) ≡ Some endings.BadKind
unfolding end_of has_bad_kind
bad-kind kinds heads.Trunk body refused = grind (arith, nat_tests)
bad-kind kinds (heads.Datagram circuit) body refused = grind (arith, nat_tests)
bad-kind kinds (heads.Command circuit command) body refused = grind (arith, nat_tests)
bad-kind kinds (heads.Codec circuit codec payload_type) body refused = grind (arith, nat_tests)

-- .. and where it is not, of a bad kind.
pub stands-bad : (kinds : AcceptedKinds) (first : FirstRecord) (o : Option FirstRecord) (room : List ℕ) → o ≡ Some first
    → is_accepted kinds first.head ≡ false → end_of kinds (held_in o room) ≡ Some endings.BadKind
stands-bad kinds first o room is refused = rw is (bad-kind kinds first.head (take (first.len - 4) room) refused)

-- Nothing is the end of records, and may be followed by some.
none-open : (kinds : AcceptedKinds) (ending : RecordsEnd) → end_of kinds [] ≡ Some ending → is_open ending ≡ true
unfolding end_of
none-open kinds ending e = let same : endings.End ≡ ending = cc in rw (← same) refl

-- Where none stands one may come.
pub room-ends : (kinds : AcceptedKinds) (o : Option FirstRecord) (room : List ℕ) (ending : RecordsEnd)
    → is_some o ≡ false → end_of kinds (held_in o room) ≡ Some ending → is_open ending ≡ true
room-ends kinds None room ending none e = none-open kinds ending e
room-ends kinds (Some first) room ending none e = cc

-- .. and none is held.
pub none-held : (o : Option FirstRecord) (room : List ℕ) → is_some o ≡ false → held_in o room ≡ []
none-held None room none = refl
none-held (Some first) room none = cc

-- what a session has then
abbrev having : List ℕ → ℕ → Held
having octets left = record { octets = octets; reads_left = left }

-- A record came, or the end.
pub room-filled : (failed failed' reads reads' left : ℕ) (given given' octets room : List ℕ) (got : Option FirstRecord)
    (ending : RecordsEnd) (came : Bool) → came ≡ is_some got → failed' ≡ failed → reads' ≡ at_most (reads + 1)
    → given' ≡ given ++ held_in got room → octets ≡ [] → is_open ending ≡ true → left ≢ 0 → length room ≡ 2048
    → IfSome got (λ first. stands_in_room first ≡ true)
    → ReadsOn (source_told failed reads given) (source_told failed' reads' given') (having octets left)
    (having (held_in got room) (left - 1)) ending came
room-filled failed failed' reads reads' left given given' octets room None ending came is same counted gave none
    awaited some long stands = rw is (record {
      gives = record { gave = gave; consumed = tt };
      holds = sym none;
      ended = λ o. tt;
      still = λ closed. cc;
      same = same;
    })
room-filled failed failed' reads reads' left given given' octets room (Some first) ending came is same counted gave none
    awaited some long stands =
    let len = stands-len first.head first.len room long stands in
    let fits = stands-fits first.head first.len stands in
    rw is (record {
      octets = held_in (Some first) room;
      gives = record { gave = gave; consumed = tt };
      holds = rw none refl;
      turns = omega (arith, len, fits, some);
      counted = counted;
      turn = omega (arith, some);
      nearer = omega (arith, len, fits, some);
      same = same;
    })

-- None came, since a read failed or there were too many.
pub room-failed : (failed failed' reads reads' left left' : ℕ) (given given' octets octets' : List ℕ)
    (ending : RecordsEnd) → reads' ≡ reads → given' ≡ given → octets ≡ [] → octets' ≡ [] → is_open ending ≡ true
    → (failed < failed') ⊎ (left ≡ 0)
    → FailsToRead (source_told failed reads given) (source_told failed' reads' given') (having octets left)
    (having octets' left') ending
room-failed failed failed' reads reads' left left' given given' octets octets' ending still same none none' awaited
    cause = record {
      awaited = awaited;
      gives = record { gave = rw same (sym (append-nil given)); consumed = tt };
      holds = none' ∙ sym none;
      cause = cause;
      uncounted = still;
    }
