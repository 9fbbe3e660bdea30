-- What circuits received since a look, from call to call.
use Rattle.std.proofs.Common.{◌≡◌, ℕ, ◌+◌, ◌-◌, ◌<◌, ◌≤◌, ◌++◌, ◌∷◌, [], List, length, Bool, true, false}
use Rattle.std.proofs.Common.{Option, Some, None, Result, Ok, Err, refl, sym, inl, inr, arith, append_assoc, take}
use Rattle.std.proofs.lemmas.Bool.{ltb-true, ltb-false}
use Rattle.std.proofs.lemmas.Bool.Decides.{eqb_tells}
use Rattle.std.proofs.lemmas.List.{get_or-set_other, get_or-set_same, append-nil, length-take-le, get_or-replicate}
use Rattle.std.proofs.lemmas.List.Sums.{sum_by_push}
use Rattle.std.specs.Prelude.{IfOk, IfSome, ◌≢◌, ◌⊎◌, max, nat_lt, replicate, slice_set, sum_by}
use Rattle.gw_records.specs.declared.ports.PortFault.{PortFault}
use Rattle.gw_records.specs.Ports.{PortCall, receive_call, send_call}
use Rattle.gw_records.specs.Streams.{at_most}
use Rattle.gw_udp.specs.Given.{GivesFew, given_after, given_by, longest_of, octets_given}

-- the longest one, with one call more
longest_push : (circuit : ℕ) (calls : List PortCall) (call : PortCall)
    → longest_of circuit (calls ++ call ∷ []) ≡ max (longest_of circuit calls) (octets_given circuit call)
longest_push circuit [] call = omega arith
longest_push circuit (c ∷ calls) call = omega (arith, longest_push circuit calls call)

-- no datagram came since a look
pub none_since : (calls : List PortCall) → GivesFew calls calls (replicate 30 0)
none_since calls = record {
  since = [];
  behind = sym (append-nil calls);
  few = λ circuit. omega arith;
  counted = λ circuit some most. get_or-replicate 30 (circuit - 1) 0 0 (omega (arith, some, most));
}

-- a call that gives nothing changes nothing
pub nothing_more : (before calls : List PortCall) (counts : List ℕ) (call : PortCall)
    → ((circuit : ℕ) → octets_given circuit call ≡ 0) → GivesFew before calls counts
    → GivesFew before (calls ++ call ∷ []) counts
nothing_more before calls counts call none was = record {
  since = was.since ++ call ∷ [];
  behind = rw (was.behind) (append_assoc before was.since (call ∷ []));
  few = λ circuit. omega (
    arith,
    was.few circuit,
    none circuit,
    sum_by_push (octets_given circuit) was.since call,
    longest_push circuit was.since call,
  );
  counted = λ circuit some most. rw (sum_by_push (octets_given circuit) was.since call, none circuit)
      (omega (arith, was.counted circuit some most));
}

-- what a datagram of one circuit adds to this one
adds : (circuit c : ℕ) (octets : List ℕ)
    → ((circuit ≡ c) × (octets_given c (PortCall.Gave circuit octets) ≡ length octets))
    ⊎ ((circuit ≢ c) × (octets_given c (PortCall.Gave circuit octets) ≡ 0))
adds circuit c octets = elim (eqb_tells circuit c) [
  | inl t ↦ inl (t.1, rw (t.0) refl)
  | inr t ↦ inr (t.1, rw (t.0) refl)
]

-- a datagram of a circuit that had not given enough is counted
datagram_more : (before calls : List PortCall) (counts : List ℕ) (circuit n : ℕ) (octets : List ℕ)
    → length counts ≡ 30 → 1 ≤ circuit → circuit ≤ 30 → length octets ≡ n → given_by counts circuit < 65536
    → GivesFew before calls counts
    → GivesFew before (calls ++ PortCall.Gave circuit octets ∷ [])
    (slice_set counts (circuit - 1) (at_most (given_by counts circuit + n)))
datagram_more before calls counts circuit n octets thirty some most len less was = record {
  since = was.since ++ gave ∷ [];
  behind = rw (was.behind) (append_assoc before was.since (gave ∷ []));
  few = λ c. rw (sum_by_push (octets_given c) was.since gave, longest_push c was.since gave)
      (few_more c (adds circuit c octets));
  counted = λ c first last. rw (sum_by_push (octets_given c) was.since gave)
      (counted_more c first last (adds circuit c octets));
}
  where
    gave : PortCall
    gave = PortCall.Gave circuit octets

    few_more : (c : ℕ) → ((circuit ≡ c) × (octets_given c (PortCall.Gave circuit octets) ≡ length octets))
        ⊎ ((circuit ≢ c) × (octets_given c (PortCall.Gave circuit octets) ≡ 0))
        → sum_by (octets_given c) was.since + octets_given c (PortCall.Gave circuit octets)
        < 65536 + max (longest_of c was.since) (octets_given c (PortCall.Gave circuit octets))
    few_more c (inl (same, own)) = rw own (rw (← same) (omega (arith, less, was.counted circuit some most)))
    few_more c (inr (other, none)) = rw none (omega (arith, was.few c))

    counted_more : (c : ℕ) → 1 ≤ c → c ≤ 30
        → ((circuit ≡ c) × (octets_given c (PortCall.Gave circuit octets) ≡ length octets))
        ⊎ ((circuit ≢ c) × (octets_given c (PortCall.Gave circuit octets) ≡ 0))
        → given_by (slice_set counts (circuit - 1) (at_most (given_by counts circuit + n))) c
        ≡ at_most (sum_by (octets_given c) was.since + octets_given c (PortCall.Gave circuit octets))
    counted_more c first last (inl (same, own)) = rw own (rw (← same) (rw
        (get_or-set_same counts (circuit - 1) (at_most (given_by counts circuit + n)) 0
        (omega (arith, thirty, most, some)))
        (omega (arith, len, was.counted circuit some most))))
    counted_more c first last (inr (other, none)) = rw none (rw
        (get_or-set_other counts (circuit - 1) (c - 1) (at_most (given_by counts circuit + n)) 0
        (λ same. other (omega (arith, same, some, first))))
        (omega (arith, was.counted c first last)))

-- a receive of a circuit is counted, and gave none if this had given enough
pub receive_few : (before calls : List PortCall) (counts : List ℕ) (circuit : ℕ)
    (r : Result (Option ℕ) PortFault) (room : List ℕ) → length counts ≡ 30 → 1 ≤ circuit → circuit ≤ 30
    → IfOk r (λ got. IfSome got (λ n. n ≤ length room)) → (65536 ≤ given_by counts circuit → r ≡ Ok None)
    → GivesFew before calls counts
    → GivesFew before (calls ++ receive_call circuit r room ∷ []) (given_after counts circuit r)
receive_few before calls counts circuit (Ok None) room thirty some most bound held was =
    nothing_more before calls counts (PortCall.FoundNone circuit) (λ c. refl) was
receive_few before calls counts circuit (Err e) room thirty some most bound held was =
    nothing_more before calls counts (PortCall.ReceiveFailed circuit) (λ c. refl) was
receive_few before calls counts circuit (Ok (Some n)) room thirty some most bound held was =
    go (nat_lt (given_by counts circuit) 65536) refl
  where
    go : (b : Bool) → nat_lt (given_by counts circuit) 65536 ≡ b
        → GivesFew before (calls ++ PortCall.Gave circuit (take n room) ∷ [])
        (slice_set counts (circuit - 1) (at_most (given_by counts circuit + n)))
    go true less = datagram_more before calls counts circuit n (take n room) thirty some most
        (length-take-le n room bound) (ltb-true (given_by counts circuit) 65536 less) was
    go false enough = let is : Ok (Some n) ≡ Ok None = held (ltb-false (given_by counts circuit) 65536 enough) in
        cc

-- a send gives nothing
pub send_gives_none : (circuit : ℕ) (datagram : List ℕ) (r : Result (Unit {0}) PortFault) (c : ℕ)
    → octets_given c (send_call circuit datagram r) ≡ 0
send_gives_none circuit datagram (Ok x) c = refl
send_gives_none circuit datagram (Err e) c = refl
