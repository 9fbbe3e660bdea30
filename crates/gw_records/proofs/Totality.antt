-- Each list of octets is read.
use Rattle.gw_records.proofs.Common.{◌≡◌, ◌+◌, ◌<◌, ◌≤◌, ℕ, zero, suc, Option, Some, None, List, [], ◌∷◌, length, drop}
use Rattle.gw_records.proofs.Common.{refl, sym, append_assoc, length-drop, take-append-drop, arith, slice_index}
use Rattle.gw_records.proofs.Common.{get_or-drop, nat_tests, AcceptedKinds, RecordsEnd, FirstRecord, Record, Reads}
use Rattle.gw_records.proofs.Common.{body_len, is_cut, end_of, IsFirst, record_at, EachIsRead}
use Rattle.gw_records.proofs.Firsts.{good_first, found_in}

-- if octets are no end, they begin with a record
first_of_none : (kinds : AcceptedKinds) (octets : List ℕ) → ((i : ℕ) → slice_index octets i < 256)
    → end_of kinds octets ≡ None
    → (f : FirstRecord) × IsFirst kinds f octets
unfolding is_cut
first_of_none kinds octets bytes e =
    let t = found_in kinds octets None e in
    let long : 4 ≤ length octets = grind (arith, nat_tests) in
    let whole : 4 + body_len octets ≤ length octets = grind (arith, nat_tests) in
    (_, good_first kinds octets bytes long t.1 t.2 t.3 whole t.5)

-- at most n octets that end in this way are read as records
readings : (n : ℕ) (kinds : AcceptedKinds) (octets : List ℕ) (o : Option RecordsEnd) → end_of kinds octets ≡ o
    → length octets ≤ n → ((i : ℕ) → slice_index octets i < 256)
    → (records : List Record) × (ending : RecordsEnd) × Reads kinds octets records ending
readings n kinds octets (Some ending) e h bytes =
    ([], ending, record { rest = octets; whole = refl; good = tt; ends = e })
readings zero kinds octets None e h bytes = grind (arith, first_of_none kinds octets bytes e)
readings (suc n) kinds octets None e h bytes =
    let f = first_of_none kinds octets bytes e in
    let rest = drop f.0.len octets in
    let fewer : length (drop f.0.len octets) ≤ n = omega (arith, f.1.more, length-drop f.0.len octets) in
    let r = readings n kinds rest (end_of kinds rest) refl fewer
    (λ i. rw (get_or-drop f.0.len octets i 0) (bytes (f.0.len + i))) in (
      record_at f.0 octets ∷ r.0,
      r.1,
      record {
        rest = r.2.rest;
        whole = rw (append_assoc, ← r.2.whole, ← f.1.whole) (sym (take-append-drop f.0.len octets));
        good = (f.1.good, r.2.good);
        ends = r.2.ends;
      },
    )

-- any octets are read as records
pub each_is_read : EachIsRead
each_is_read kinds octets bytes = readings (length octets) kinds octets (end_of kinds octets) refl (omega arith) bytes
