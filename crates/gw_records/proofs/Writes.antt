-- Writes one after another, and their result if octets are known.
use Rattle.gw_records.proofs.Common.{◌+◌, ◌≡◌, ◌-◌, ◌<◌, ◌≤◌, ◌^◌, ◌==◌, ◌&&◌, cond, ℕ, List, [], ◌∷◌, ◌++◌, length}
use Rattle.gw_records.proofs.Common.{take, drop, Option, refl, sym, append_assoc, append-nil, nat_lt, arith}
use Rattle.gw_records.proofs.Common.{Consumes-nil, common_steps, Appends, length-append, SourceState, SinkState}
use Rattle.gw_records.proofs.Common.{GivesOctets, at_most, AppendsPrefix, AppendsBut, TakesAllButWaiting}
use Rattle.gw_records.proofs.Common.{FailsAfterPrefix, Result, Ok, Err, ◌∙◌}
use Rattle.gw_records.specs.Streams.{Puts}
use Rattle.gw_records.specs.declared.outcome.RunFault.{RunFault}
-- nothing appended and nothing lost, and two appends that are one
pub use Rattle.std.proofs.KnownBytes.{Appends-nil as Appends-none, Appends-trans as Appends-join}

-- what is left after a piece was taken
pub split_more : (octets written rest : List ℕ) (n : ℕ) → n ≤ length rest → octets ≡ written ++ rest
    → octets ≡ (written ++ take n rest) ++ take (length rest - n) (drop n rest)
split_more octets written rest n h e = grind (arith, common_steps)

-- a write that took something counts no failure
pub took_some : (n m old new : ℕ) → 0 < n → new ≡ cond ((n == 0) && nat_lt 0 m) (at_most (old + 1)) old → new ≡ old
took_some n m old new h e = grind (arith, common_steps)

-- a failed read counts
pub read_failed : (old start new : ℕ) → start ≡ old → old < 2 ^ 64 - 1 → new ≡ at_most (start + 1) → old < new
read_failed old start new e h n = omega arith

-- an append of an equal list
pub Appends-same : (a b : Option (List ℕ)) (xs ys : List ℕ) → xs ≡ ys → Appends a b xs → Appends a b ys
Appends-same a b xs ys e p = rw (← e) p

-- a prefix of octets is one of an equal list
pub AppendsPrefix-same : (a b : Option (List ℕ)) (xs ys : List ℕ) → xs ≡ ys → AppendsPrefix a b xs
    → AppendsPrefix a b ys
AppendsPrefix-same a b xs ys e p = rw (← e) p

-- .. of what passes
pub TakesAllButWaiting-same : (a b : Option (List ℕ)) (waiting xs ys : List ℕ) → xs ≡ ys
    → TakesAllButWaiting a b waiting xs
    → TakesAllButWaiting a b waiting ys
TakesAllButWaiting-same a b waiting xs ys e p = rw (← e) p

-- an append, and then a prefix
pub AppendsPrefix-join : (a b c : Option (List ℕ)) (xs ys all : List ℕ) → Appends a b xs → AppendsPrefix b c ys
    → all ≡ xs ++ ys → AppendsPrefix a c all
AppendsPrefix-join a b c xs ys all p q e = grind (arith, append_assoc)

-- a prefix of octets is one of more octets
pub AppendsPrefix-more : (a b : Option (List ℕ)) (octets more : List ℕ) → AppendsPrefix a b octets
    → AppendsPrefix a b (octets ++ more)
AppendsPrefix-more a b octets more q = grind (arith, append_assoc)

-- octets of which some are buffered, then a prefix of the buffered ones and of more
pub AppendsPrefix-behind : (a b c : Option (List ℕ)) (waiting before more : List ℕ)
    → TakesAllButWaiting a b waiting before → AppendsPrefix b c (waiting ++ more) → AppendsPrefix a c (before ++ more)
AppendsPrefix-behind a b c waiting before more p q =
    AppendsPrefix-join a b c p.written (waiting ++ more) (before ++ more) p.appended q (rw (p.whole, append_assoc) refl)

-- octets of which few are buffered, then a prefix of the buffered ones and of more
pub AppendsBut-behind : (late : ℕ) (a b c : Option (List ℕ)) (waiting before more : List ℕ) → length waiting ≤ late
    → TakesAllButWaiting a b waiting before → AppendsPrefix b c (waiting ++ more)
    → AppendsBut late a c before (before ++ more)
unfolding AppendsPrefix-behind AppendsPrefix-join
AppendsBut-behind late a b c waiting before more few p q =
    grind (
      arith,
      length-append p.written waiting,
      AppendsPrefix-behind a b c waiting before more p q,
      length-append p.written q.written,
    )

-- a prefix of octets is one of equal octets
pub AppendsBut-same : {late : ℕ} {a b : Option (List ℕ)} {first ones xs ys : List ℕ} → first ≡ ones → xs ≡ ys
    → AppendsBut late a b first xs → AppendsBut late a b ones ys
AppendsBut-same e f p = rw (← e, ← f) p

-- .. and one of more octets
pub AppendsBut-more : {late : ℕ} {a b : Option (List ℕ)} {first octets : List ℕ} (more : List ℕ)
    → AppendsBut late a b first octets → AppendsBut late a b first (octets ++ more)
AppendsBut-more more p = grind (arith, append_assoc)

-- what waited is written, and then other octets pass
pub TakesAllButWaiting-after : (a b c : Option (List ℕ)) (before waiting octets : List ℕ)
    → Appends a b before → TakesAllButWaiting b c waiting octets → TakesAllButWaiting a c waiting (before ++ octets)
TakesAllButWaiting-after a b c before waiting octets p q = record {
  written = before ++ q.written;
  whole = rw (q.whole, append_assoc) refl;
  appended = Appends-join a b c before q.written p q.appended;
}

-- octets that pass behind others
pub TakesAllButWaiting-join : (a b c : Option (List ℕ)) (waiting waiting' before more : List ℕ)
    → TakesAllButWaiting a b waiting before → TakesAllButWaiting b c waiting' (waiting ++ more)
    → TakesAllButWaiting a c waiting' (before ++ more)
TakesAllButWaiting-join a b c waiting waiting' before more p q =
    rw (p.whole, append_assoc) (TakesAllButWaiting-after a b c p.written waiting' (waiting ++ more) p.appended q)

-- what was taken and what is buffered are all
pub TakesAllButWaiting-appended : (a b c : Option (List ℕ)) (waiting octets : List ℕ)
    → TakesAllButWaiting a b waiting octets
    → Appends b c waiting → Appends a c octets
TakesAllButWaiting-appended a b c waiting octets p q = rw (p.whole) (Appends-join a b c p.written waiting p.appended q)

-- everything was taken, with nothing buffered
pub TakesAllButWaiting-empty : (a b : Option (List ℕ)) (waiting : List ℕ) {octets : List ℕ} → waiting ≡ []
    → Appends a b octets
    → TakesAllButWaiting a b waiting octets
TakesAllButWaiting-empty a b waiting e p = rw e (record { written = _; whole = sym (append-nil _); appended = p })

-- at the start nothing is buffered
pub TakesAllButWaiting-start : (a : Option (List ℕ)) (waiting : List ℕ) → waiting ≡ []
    → TakesAllButWaiting a a waiting []
TakesAllButWaiting-start a waiting e = TakesAllButWaiting-empty a a waiting e (Appends-none a)

-- nothing was written, and everything is buffered
pub TakesAllButWaiting-none : (a : Option (List ℕ)) (waiting : List ℕ) → TakesAllButWaiting a a waiting (waiting ++ [])
TakesAllButWaiting-none a waiting = record { written = []; whole = append-nil waiting; appended = Appends-none a }

-- what waited is written, and then a write fails
pub FailsAfterPrefix-after : (a b c : SinkState) (before octets : List ℕ)
    → Appends a.taken b.taken before → b.failures ≡ a.failures → FailsAfterPrefix b c octets
    → FailsAfterPrefix a c (before ++ octets)
FailsAfterPrefix-after a b c before octets p e q = grind (arith, AppendsPrefix-join _ _ _ before octets _ p q.took refl)

-- a prefix of octets is one of more octets
pub FailsAfterPrefix-more : (a b : SinkState) (octets more : List ℕ) → FailsAfterPrefix a b octets
    → FailsAfterPrefix a b (octets ++ more)
FailsAfterPrefix-more a b octets more q = grind (arith, AppendsPrefix-more _ _ octets more q.took)

-- octets that break off behind others
pub FailsAfterPrefix-join : (a b c : SinkState) (waiting before more : List ℕ)
    → TakesAllButWaiting a.taken b.taken waiting before → b.failures ≡ a.failures
    → FailsAfterPrefix b c (waiting ++ more)
    → FailsAfterPrefix a c (before ++ more)
FailsAfterPrefix-join a b c waiting before more p e q = grind (arith, common_steps)

-- writing the buffer fails
pub FailsAfterPrefix-waiting : (a b c : SinkState) (waiting octets : List ℕ)
    → TakesAllButWaiting a.taken b.taken waiting octets → b.failures ≡ a.failures → FailsAfterPrefix b c waiting
    → FailsAfterPrefix a c octets
FailsAfterPrefix-waiting a b c waiting octets p e q = rw (p.whole)
    (FailsAfterPrefix-after a b c p.written waiting p.appended e q)

-- octets pass, and then more
pub Puts-then : {T : Type 0} (a b c : SinkState) (waiting waiting' before more : List ℕ) (result : Result T RunFault)
    → TakesAllButWaiting a.taken b.taken waiting before → b.failures ≡ a.failures
    → Puts b c waiting' (waiting ++ more) result → Puts a c waiting' (before ++ more) result
Puts-then a b c waiting waiting' before more (Ok x) p e q =
    (TakesAllButWaiting-join _ _ _ waiting waiting' before more p q.0, q.1 ∙ e)
Puts-then a b c waiting waiting' before more (Err fault) p e q =
    (q.0, FailsAfterPrefix-join a b c waiting before more p e q.1)

-- .. and then what waits
pub Puts-on : {T : Type 0} (a b c : SinkState) (waiting waiting' before : List ℕ) (result : Result T RunFault)
    → TakesAllButWaiting a.taken b.taken waiting before → b.failures ≡ a.failures → Puts b c waiting' waiting result
    → Puts a c waiting' before result
Puts-on a b c waiting waiting' before result p e q =
    rw append-nil at (Puts-then a b c waiting waiting' before [] result p e (rw append-nil q))

-- a source that gives in turn
pub GivesOctets-none : (a : SourceState) → GivesOctets a a []
GivesOctets-none a = record { gave = Appends-none a.given; consumed = Consumes-nil a.to_come }

-- a source that gave octets, and then more
pub GivesOctets-join : (a b c : SourceState) (xs ys : List ℕ) → GivesOctets a b xs → GivesOctets b c ys
    → GivesOctets a c (xs ++ ys)
GivesOctets-join a b c xs ys p q = grind (arith, common_steps)

-- .. and then nothing
pub GivesOctets-end : (a b c : SourceState) (xs ys : List ℕ) → length ys ≡ 0 → GivesOctets a b xs
    → GivesOctets b c ys → GivesOctets a c xs
GivesOctets-end a b c xs [] e p q = rw append-nil at (GivesOctets-join a b c xs [] p q)
GivesOctets-end a b c xs (y ∷ ys) e p q = absurd (omega (arith, e))
