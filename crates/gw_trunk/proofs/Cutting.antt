-- The octets of a trunk and the commands of clients, as they are given in records.
use Rattle.std.proofs.Common.{◌≡◌, ◌≤◌, ◌++◌, ◌∷◌, ◌∙◌, ℕ, List, [], Option, Some, None, take, drop}
use Rattle.std.proofs.Common.{refl, ap, sym, true, arith, append-nil}
use Rattle.std.proofs.lemmas.Bool.Decides.{nat_tests}
use Rattle.std.proofs.lemmas.List.Concat.{flat_map-append}
use Rattle.std.specs.List.{AllByRecursion}
use Rattle.std.specs.Prelude.{MatchOption}
use Rattle.gw_records.specs.Records.{Record, IsFirst, IsGood, named, spelled}
use Rattle.gw_records.specs.declared.records.FirstRecord.{FirstRecord}
use Rattle.gw_records.specs.declared.records.RecordHead.{RecordHead}
use Rattle.gw_records.specs.declared.records.RecordHead.TheVariants as heads
use Rattle.gw_trunk.specs.Pieces.{GivesWoven, GivesFirst, GivesRecord, GivesNone, IsServiceRecord}
use Rattle.gw_trunk.specs.Pieces.{body_in, client_kinds, held_in, stands_by}

-- A client's record is spelled alike whatever stands behind its head.
pub client-alike : (head : RecordHead) (x y : List ℕ) → IsGood client_kinds (named head x) → named head y ≡ named head x
client-alike heads.Trunk x y good = cc (good.0)
client-alike (heads.Datagram circuit) x y good = cc (good.0)
client-alike (heads.Command circuit command) x y good = refl
client-alike (heads.Codec circuit codec payload_type) x y good = refl

-- The record of a client that is first in octets is spelled by them.
pub client-spelled : (f : FirstRecord) (octets held : List ℕ) → octets ≡ held → IsFirst client_kinds f octets
    → spelled (named f.head []) ≡ take f.len held
client-spelled f octets held same first =
    rw (client-alike f.head (drop 4 (take f.len octets)) [] first.good) (sym first.whole) ∙ ap (take f.len) same

-- Records that are given, and one more.
given-more : (records : List Record) (one : Record) → AllByRecursion IsServiceRecord records → IsServiceRecord one
    → AllByRecursion IsServiceRecord (records ++ one ∷ [])
given-more [] one all good = (good, tt)
given-more (r ∷ records) one all good = (all.0, given-more records one all.1 good)

-- One more record was given.
pub one-more : (came came' asked asked' given : List ℕ) (one : Record) → GivesWoven came asked given
    → GivesRecord came came' asked asked' one → GivesWoven came' asked' (given ++ spelled one)
one-more came came' asked asked' given one w gives = record {
  records = w.records ++ one ∷ [];
  woven = record {
    good = given-more w.records one w.woven.good gives.good;
    came_are = gives.came_is ∙ rw (w.woven.came_are, flat_map-append, append-nil) refl;
    asked_are = gives.asked_is ∙ rw (w.woven.asked_are, flat_map-append, append-nil) refl;
  };
  given_are = rw (w.given_are, flat_map-append, append-nil) refl;
}

-- What a read did, where it gave a record or none.
pub read-cut : (came came' asked asked' given given' room : List ℕ) (got : Option FirstRecord)
    → GivesWoven came asked given
    → MatchOption got (GivesNone came came' asked asked') (GivesFirst came came' asked asked' room)
    → given' ≡ given ++ held_in got room → GivesWoven came' asked' given'
read-cut came came' asked asked' given given' room None w none e = rw (e, none.0, none.1, append-nil) w
read-cut came came' asked asked' given given' room (Some first) w gives e =
    rw e (one-more came came' asked asked' given (named first.head (body_in first room)) w gives.gives)

-- A record that stands in a room is as long as there is room.
pub stands-fits : (head : RecordHead) (len : ℕ) → stands_by head len ≡ true → (4 ≤ len) × (len ≤ 2052)
stands-fits heads.Trunk len e = grind (arith, nat_tests)
stands-fits (heads.Datagram circuit) len e = cc
stands-fits (heads.Command circuit command) len e = grind (arith, nat_tests)
stands-fits (heads.Codec circuit codec payload_type) len e = grind (arith, nat_tests)
