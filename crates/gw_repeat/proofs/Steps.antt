-- What is held, and what went out, from call to call.
use Rattle.std.proofs.Common.{◌≡◌, ℕ, zero, suc, ◌+◌, ◌-◌, ◌≤◌, ◌<◌, ◌++◌, ◌∷◌, [], List, Bool, true, false, Option}
use Rattle.std.proofs.Common.{Some, None, Result, Ok, Err, refl, ap, inl, inr, arith, take, drop, sym, append-nil}
use Rattle.std.proofs.Common.{length, append_assoc, slice_index, slice_index_or, map}
use Rattle.std.proofs.lemmas.Bool.Decides.{eqb_tells}
use Rattle.std.proofs.lemmas.List.{reverse-append}
use Rattle.std.specs.Prelude.{reverse, flat_map, if◌then◌else◌, nat_eq}
use Rattle.std.proofs.lemmas.Grind.{flat_map-append}
use Rattle.std.specs.VecDeque.{deque_capacity}
use Rattle.gw_records.specs.declared.ports.PortFault.{PortFault}
use Rattle.gw_records.specs.Ports.{KeepsReceives, given_by_call, PortCall, PortsState, Receives, Sends, Extends}
use Rattle.gw_records.specs.Ports.{IfKnown, receive_call, send_call}
use Rattle.gw_repeat.specs.Repetition.{has_room, continues, with_next, last_run, repetition}
use Rattle.gw_repeat.specs.Ports.{held_octets, sent_by_call, sent_of, attempt, repeats_behind, words_at}
use Rattle.gw_repeat.specs.Ports.{HasRepeated, IsHeld, AreHeld, SendsAgain, KeepsOthers, told}
use Rattle.gw_repeat.specs.declared.held.RecentDatagrams.{RecentDatagrams}

-- the first m of the first m + 1 are the first m
take_less : {X : Type 0} (m : ℕ) (xs : List X) → take m (take (suc m) xs) ≡ take m xs
take_less zero xs = refl
take_less (suc m) [] = refl
take_less (suc m) (x ∷ xs) = ap (λ ys. x ∷ ys) (take_less m xs)

-- none of no datagrams is left
drop_none : (m : ℕ) (none : List (List ℕ)) → none ≡ [] → drop m none ≡ []
drop_none zero none is = is
drop_none (suc m) none is = rw is refl

-- what of the first m + 1 is behind the first m, if there is any
next_one : {X : Type 0} (m : ℕ) (xs : List X) → drop m (take (suc m) xs) ≡ take 1 (drop m xs)
next_one zero xs = refl
next_one (suc m) [] = refl
next_one (suc m) (x ∷ xs) = next_one m xs

-- a datagram follows the latest of the first m + 1 as it does that of all
continues_first : (words : ℕ) (datagram : List ℕ) (m : ℕ) (run : List (List ℕ))
    → continues words datagram (take (suc m) run) ≡ continues words datagram run
continues_first words datagram m [] = refl
continues_first words datagram m (latest ∷ earlier) = refl

-- the first m + 1 with a next one, of all that were held or of those before it
kept_by : (m : ℕ) (datagram : List ℕ) (run : List (List ℕ)) (fits goes : Bool)
    → take (suc m) (if fits then datagram ∷ (if goes then take (suc m) run else []) else [])
    ≡ take (suc m) (if fits then datagram ∷ (if goes then run else []) else [])
kept_by m datagram run false goes = refl
kept_by m datagram run true false = refl
kept_by m datagram run true true = ap (λ xs. datagram ∷ xs) (take_less m run)

-- .. and what is behind them
due_by : (m : ℕ) (datagram : List ℕ) (run : List (List ℕ)) (fits goes : Bool)
    → drop (suc m) (if fits then datagram ∷ (if goes then take (suc m) run else []) else [])
    ≡ take 1 (drop (suc m) (if fits then datagram ∷ (if goes then run else []) else []))
due_by m datagram run false goes = refl
due_by m datagram run true false = rw (drop_none m [] refl) refl
due_by m datagram run true true = next_one m run

-- what is held after a next datagram, by the last n of the run before it, is the last n of the run with it
pub kept : (n words : ℕ) (datagram : List ℕ) (run : List (List ℕ)) → 0 < n
    → take n (with_next words datagram (take n run)) ≡ take n (with_next words datagram run)
kept zero words datagram run some = elim some [ ]
kept (suc m) words datagram run some = rw (continues_first words datagram m run)
    (kept_by m datagram run (has_room datagram) (continues words datagram run))

-- what is due behind a next datagram, by the last n of the run before it
pub due : (n words : ℕ) (datagram : List ℕ) (datagrams : List (List ℕ)) → 0 < n
    → drop n (with_next words datagram (take n (last_run words datagrams)))
    ≡ repetition n words (datagram ∷ datagrams)
due zero words datagram datagrams some = elim some [ ]
due (suc m) words datagram datagrams some = rw (continues_first words datagram m (last_run words datagrams))
    (due_by m datagram (last_run words datagrams) (has_room datagram)
    (continues words datagram (last_run words datagrams)))

-- one more call comes first in a list with the latest first
pub latest_first : {X : Type 0} (calls : List X) (call : X) → reverse (calls ++ call ∷ []) ≡ call ∷ reverse calls
latest_first calls call = reverse-append calls (call ∷ [])

-- a call that sends nothing leaves what is held
pub held_still : (n : ℕ) (words : List ℕ) (call : PortCall) (calls : List PortCall) (held : List RecentDatagrams)
    → ((c : ℕ) → sent_by_call c call ≡ []) → AreHeld n words calls held → AreHeld n words (calls ++ call ∷ []) held
held_still n words call calls held quiet are = λ i d below.
    rw (latest_first calls call, quiet (i + 1)) (are i d below)

-- of the last 0 datagrams none is held
none_of : (n words : ℕ) (datagrams packets : List (List ℕ)) → n ≡ 0 → packets ≡ take n (last_run words datagrams)
    → packets ≡ []
none_of n words datagrams packets is last = rw is at last

-- no datagrams are the first 0 of a run
none_first : (n : ℕ) (run packets : List (List ℕ)) → n ≡ 0 → packets ≡ [] → packets ≡ take n run
none_first n run packets is empty = rw (empty, is) refl

-- if none is held, none is after any calls
pub held_none : (n : ℕ) (words : List ℕ) (calls more : List PortCall) (held : List RecentDatagrams) → n ≡ 0
    → AreHeld n words calls held → AreHeld n words more held
held_none n words calls more held is are = λ i d below. record {
  last = none_first n (last_run (slice_index words i) (sent_of (i + 1) (reverse more))) _ is
      (none_of n (slice_index words i) (sent_of (i + 1) (reverse calls)) _ is (are i d below).last);
  room = (are i d below).room;
}

-- what a send of a circuit was asked to take, for this circuit and for others
sent_here : (circuit : ℕ) (datagram : List ℕ) (r : Result (Unit {0}) PortFault) (c : ℕ)
    → sent_by_call c (send_call circuit datagram r) ≡ (if nat_eq circuit c then datagram ∷ [] else [])
sent_here circuit datagram (Ok x) c = refl
sent_here circuit datagram (Err e) c = refl

-- the datagrams of a circuit after a receive are those before it
pub receive_quiet : (circuit : ℕ) (r : Result (Option ℕ) PortFault) (room : List ℕ) (c : ℕ)
    → sent_by_call c (receive_call circuit r room) ≡ []
receive_quiet circuit (Ok (Some n)) room c = refl
receive_quiet circuit (Ok None) room c = refl
receive_quiet circuit (Err e) room c = refl

-- what is held of the circuit of a send after it
held_next : (n words : ℕ) (datagram : List ℕ) (datagrams : List (List ℕ)) (old new : RecentDatagrams) → 0 < n
    → IsHeld n words datagrams old
    → held_octets new.packets.items ≡ take n (with_next words datagram (held_octets old.packets.items))
    → deque_capacity new.packets ≡ n → IsHeld n words (datagram ∷ datagrams) new
held_next n words datagram datagrams old new some is next room = record {
  last = rw (next, is.last) (kept n words datagram (last_run words datagrams) some);
  room = room;
}

-- what is held of all circuits after a send
pub held_more : (n : ℕ) (words : List ℕ) (circuit : ℕ) (datagram : List ℕ) (r : Result (Unit {0}) PortFault)
    (calls : List PortCall) (old new : List RecentDatagrams) → 0 < n → 1 ≤ circuit → AreHeld n words calls old
    → ((d : RecentDatagrams) → held_octets (slice_index_or new (circuit - 1) d).packets.items
    ≡ take n (with_next (words_at words circuit) datagram
    (held_octets (slice_index_or old (circuit - 1) d).packets.items)))
    → ((d : RecentDatagrams) → deque_capacity (slice_index_or new (circuit - 1) d).packets ≡ n)
    → KeepsOthers circuit old new → AreHeld n words (calls ++ send_call circuit datagram r ∷ []) new
held_more n words circuit datagram r calls old new some from are own room others = λ i d below.
    rw (latest_first calls (send_call circuit datagram r), sent_here circuit datagram r (i + 1))
    (elim (eqb_tells circuit (i + 1)) [
      | inl t ↦ rw (t.0) (
          let place : circuit - 1 ≡ i = omega (arith, t.1) in
          held_next n (slice_index words i) datagram (sent_of (i + 1) (reverse calls)) (slice_index_or old i d)
          (slice_index_or new i d) some (are i d below) (rw place at (own d)) (rw place at (room d)))
      | inr t ↦ rw (t.0, others i d (λ same. t.1 (omega (arith, same, from)))) (are i d below)
    ])

-- the sends behind one of a session, by what was due
pub behind_send : (n : ℕ) (words : List ℕ) (circuit : ℕ) (datagram : List ℕ) (r : Result (Unit {0}) PortFault)
    (calls again : List PortCall) (held : RecentDatagrams) → 0 < n
    → IsHeld n (words_at words circuit) (sent_of circuit (reverse calls)) held
    → map attempt again ≡ map (PortCall.Took circuit)
    (drop n (with_next (words_at words circuit) datagram (held_octets held.packets.items)))
    → map attempt again ≡ repeats_behind n (words_at words) (send_call circuit datagram r) (reverse calls)
behind_send n words circuit datagram (Ok x) calls again held some is sends = rw (sends, is.last)
    (ap (map (PortCall.Took circuit)) (due n (words_at words circuit) datagram (sent_of circuit (reverse calls)) some))
behind_send n words circuit datagram (Err e) calls again held some is sends = rw (sends, is.last)
    (ap (map (PortCall.Took circuit)) (due n (words_at words circuit) datagram (sent_of circuit (reverse calls)) some))

-- none is sent behind a send if none is to be repeated
pub behind_none : (n : ℕ) (words : List ℕ) (circuit : ℕ) (datagram : List ℕ) (r : Result (Unit {0}) PortFault)
    (calls : List PortCall) → n ≡ 0
    → [] ≡ repeats_behind n (words_at words) (send_call circuit datagram r) (reverse calls)
behind_none n words circuit datagram (Ok x) calls is = rw is refl
behind_none n words circuit datagram (Err e) calls is = rw is refl

-- none is sent behind a receive
pub behind_receive : (n : ℕ) (words : List ℕ) (circuit : ℕ) (r : Result (Option ℕ) PortFault) (room : List ℕ)
    (calls : List PortCall)
    → [] ≡ repeats_behind n (words_at words) (receive_call circuit r room) (reverse calls)
behind_receive n words circuit (Ok (Some len)) room calls = refl
behind_receive n words circuit (Ok None) room calls = refl
behind_receive n words circuit (Err e) room calls = refl

-- more calls, then one and those that follow it, with the latest first
reversed : (more again : List PortCall) (call : PortCall)
    → reverse (more ++ call ∷ again) ≡ reverse again ++ call ∷ reverse more
reversed more again call = rw (reverse-append more (call ∷ again), reverse-append (call ∷ []) again, append_assoc) refl

-- the calls below grew by one of a session and those that follow it
repeated_lists : (n : ℕ) (words : List ℕ) (calls : List PortCall) (call : PortCall) (again : List PortCall)
    (old between new : List PortCall) → HasRepeated n words calls old between
    → new ≡ between ++ call ∷ again
    → map attempt again ≡ repeats_behind n (words_at words) call (reverse calls)
    → HasRepeated n words (calls ++ call ∷ []) old new
repeated_lists n words calls call again old between new has grew sends = record {
  more = has.more ++ call ∷ again;
  grew = rw (grew, has.grew, append_assoc) refl;
  repeats = rw (latest_first calls call) (again, reverse has.more, reversed has.more again call, sends, has.repeats);
}

-- .. if the calls below are known
pub repeated_more : (n : ℕ) (words : List ℕ) (calls : List PortCall) (call : PortCall) (again : List PortCall)
    (old between grown new : Option (List PortCall)) → IfKnown old between (HasRepeated n words calls)
    → Extends between grown (call ∷ []) → Extends grown new again
    → map attempt again ≡ repeats_behind n (words_at words) call (reverse calls)
    → IfKnown old new (HasRepeated n words (calls ++ call ∷ []))
repeated_more n words calls call again None between grown new has one more sends = tt
repeated_more n words calls call again (Some old) None grown new has one more sends = absurd has
repeated_more n words calls call again (Some old) (Some between) None new has one more sends = absurd one
repeated_more n words calls call again (Some old) (Some between) (Some grown) None has one more sends = absurd more
repeated_more n words calls call again (Some old) (Some between) (Some grown) (Some new) has one more sends =
    repeated_lists n words calls call again old between new has (rw (more, one, append_assoc) refl) sends

-- a receive was one call
receive_grew : (old new : PortsState) (circuit : ℕ) (r : Result (Option ℕ) PortFault) (room : List ℕ)
    → Receives old new circuit r room → Extends old.calls new.calls (receive_call circuit r room ∷ [])
receive_grew old new circuit (Ok (Some n)) room receives = receives.2
receive_grew old new circuit (Ok None) room receives = receives.3
receive_grew old new circuit (Err e) room receives = receives.1

-- a send was one call
send_grew : (old new : PortsState) (circuit : ℕ) (r : Result (Unit {0}) PortFault) (datagram : List ℕ)
    → Sends old new circuit r datagram → Extends old.calls new.calls (send_call circuit datagram r ∷ [])
send_grew old new circuit (Ok x) datagram sends = sends.1
send_grew old new circuit (Err e) datagram sends = sends.1

-- calls that are known grew by none
grew_none : (calls : Option (List PortCall)) → Extends calls calls []
grew_none None = tt
grew_none (Some calls) = sym (append-nil calls)

-- what went out, after a receive
pub repeated_receive : (n : ℕ) (words : List ℕ) (calls : List PortCall) (circuit : ℕ)
    (r : Result (Option ℕ) PortFault) (room : List ℕ) (opened : Option (List PortCall)) (old new : PortsState)
    → IfKnown opened old.calls (HasRepeated n words calls) → Receives old new circuit r room
    → IfKnown opened new.calls (HasRepeated n words (calls ++ receive_call circuit r room ∷ []))
repeated_receive n words calls circuit r room opened old new has receives =
    repeated_more n words calls (receive_call circuit r room) [] opened old.calls new.calls new.calls has
    (receive_grew old new circuit r room receives) (grew_none new.calls) (behind_receive n words circuit r room calls)

-- .. after a send if none is to be repeated
pub repeated_send : (n : ℕ) (words : List ℕ) (calls : List PortCall) (circuit : ℕ) (datagram : List ℕ)
    (r : Result (Unit {0}) PortFault) (opened : Option (List PortCall)) (old new : PortsState) → n ≡ 0
    → IfKnown opened old.calls (HasRepeated n words calls) → Sends old new circuit r datagram
    → IfKnown opened new.calls (HasRepeated n words (calls ++ send_call circuit datagram r ∷ []))
repeated_send n words calls circuit datagram r opened old new none has sends =
    repeated_more n words calls (send_call circuit datagram r) [] opened old.calls new.calls new.calls has
    (send_grew old new circuit r datagram sends) (grew_none new.calls)
    (behind_none n words circuit datagram r calls none)

-- .. and after one and what was due behind it
pub repeated_due : (n : ℕ) (words : List ℕ) (calls : List PortCall) (circuit : ℕ) (datagram : List ℕ)
    (r : Result (Unit {0}) PortFault) (opened : Option (List PortCall)) (old sent new : PortsState)
    (held : RecentDatagrams)
    → 0 < n → IfKnown opened old.calls (HasRepeated n words calls) → Sends old sent circuit r datagram
    → IsHeld n (words_at words circuit) (sent_of circuit (reverse calls)) held
    → SendsAgain sent new circuit
    (drop n (with_next (words_at words circuit) datagram (held_octets held.packets.items)))
    → IfKnown opened new.calls (HasRepeated n words (calls ++ send_call circuit datagram r ∷ []))
repeated_due n words calls circuit datagram r opened old sent new held some has sends is again =
    repeated_more n words calls (send_call circuit datagram r) again.again opened old.calls sent.calls new.calls has
    (send_grew old sent circuit r datagram sends) again.grew
    (behind_send n words circuit datagram r calls again.again held some is again.sends)

-- the circuit of a send is one of those that are held
pub held_at : (n : ℕ) (words : List ℕ) (circuit : ℕ) (calls : List PortCall) (held : List RecentDatagrams)
    (d : RecentDatagrams)
    → 1 ≤ circuit → circuit ≤ 30 → AreHeld n words calls held
    → IsHeld n (words_at words circuit) (sent_of circuit (reverse calls)) (slice_index_or held (circuit - 1) d)
held_at n words circuit calls held d from to are =
    let same : circuit - 1 + 1 ≡ circuit = omega (arith, from) in
    rw same at (are (circuit - 1) d (omega (arith, from, to)))

-- one of thirty that are held
pub one_of : (held : List RecentDatagrams) → length held ≡ 30 → RecentDatagrams
one_of [] none = absurd (omega (arith, none))
one_of (held ∷ more) thirty = held

-- a send gives nothing
given_still : (calls : List PortCall) (circuit : ℕ) (datagram : List ℕ) (r : Result (Unit {0}) PortFault)
    → flat_map given_by_call (calls ++ send_call circuit datagram r ∷ []) ≡ flat_map given_by_call calls
given_still calls circuit datagram (Ok x) = rw (flat_map-append, append-nil) refl
given_still calls circuit datagram (Err e) = rw (flat_map-append, append-nil) refl

-- what receives did stays over a send and what was due behind it
pub receives_stay : (old sent new : PortsState) (failed failed' : ℕ) (calls after : List PortCall) (circuit : ℕ)
    (datagram : List ℕ) (r : Result (Unit {0}) PortFault) → KeepsReceives old sent → KeepsReceives sent new
    → after ≡ calls ++ send_call circuit datagram r ∷ []
    → KeepsReceives (told old failed calls) (told new failed' after)
receives_stay old sent new failed failed' calls after circuit datagram r first second is = (
  rw (second.0, first.0) refl,
  rw (is, given_still calls circuit datagram r) refl,
  rw (second.2, first.2) refl,
  rw (second.3, first.3) refl,
)
