-- Octets are read in one way.
use Rattle.gw_records.proofs.Common.{◌≡◌, ℕ, List, [], ◌∷◌, ◌++◌, take, drop, refl, sym, ap, rules, common_steps}
use Rattle.gw_records.proofs.Common.{◌∙◌, append_assoc, append-nil, arith, Some, None, flat_map, AllByRecursion}
use Rattle.gw_records.proofs.Common.{AcceptedKinds, RecordsEnd, Record, spelled, IsGood, body_len, has_bad_kind}
use Rattle.gw_records.proofs.Common.{has_bad_circuit, has_bad_length, is_cut, has_bad_command, end_of, named, head_of}
use Rattle.gw_records.proofs.Common.{AtMostOneReading, MoreKeepsRecords}

-- the record that the first octets say
abbrev said : List ℕ → Record
said octets = named (head_of octets) (take (body_len octets) (drop 4 octets))

abbrev after : List ℕ → List ℕ
after octets = drop (body_len octets) (drop 4 octets)

-- the octets of a good record are no end, say this record and leave the octets behind it
unspelled : (kinds : AcceptedKinds) (r : Record) (x : List ℕ) → IsGood kinds r
    → (end_of kinds (spelled r ++ x) ≡ None) × (said (spelled r ++ x) ≡ r) × (after (spelled r ++ x) ≡ x)
unfolding end_of has_bad_kind has_bad_circuit has_bad_length is_cut has_bad_command head_of
unspelled kinds (Record.Trunk octets) x good = grind (arith, common_steps)
unspelled kinds (Record.Datagram circuit octets) x good = grind (arith, common_steps)
unspelled kinds (Record.Command circuit command) x good = grind (arith, common_steps)
unspelled kinds (Record.Codec circuit codec payload_type) x good = grind (arith, common_steps)

-- a good record does not end octets
no_end : (kinds : AcceptedKinds) (r : Record) (rs : List Record) (octets rest : List ℕ) (ending : RecordsEnd)
    → IsGood kinds r
    → octets ≡ flat_map spelled (r ∷ rs) ++ rest → end_of kinds octets ≡ Some ending → ⊥
no_end kinds r rs octets rest ending good e h = search (rules, unspelled, append_assoc)

-- records that come first in octets come first in all that is read of them
more_go : (kinds : AcceptedKinds) (rs rs' : List Record) (rest rest' : List ℕ) (ending' : RecordsEnd)
    → flat_map spelled rs ++ rest ≡ flat_map spelled rs' ++ rest' → AllByRecursion (IsGood kinds) rs
    → AllByRecursion (IsGood kinds) rs' → end_of kinds rest' ≡ Some ending'
    → (others : List Record) × (rs' ≡ rs ++ others) × (rest ≡ flat_map spelled others ++ rest')
    × AllByRecursion (IsGood kinds) others
more_go kinds [] rs' rest rest' ending' e g g' h' = (rs', refl, e, g')
more_go kinds (r ∷ rs) [] rest rest' ending' e g g' h' = absurd (no_end kinds r rs rest' rest ending' g.0 (sym e) h')
more_go kinds (r ∷ rs) (r' ∷ rs') rest rest' ending' e g g' h' =
    let f = simp append_assoc at e in
    let u = unspelled kinds r (flat_map spelled rs ++ rest) g.0 in
    let u' = unspelled kinds r' (flat_map spelled rs' ++ rest') g'.0 in
    let others : flat_map spelled rs ++ rest ≡ flat_map spelled rs' ++ rest' = sym u.2 ∙ ap after f ∙ u'.2 in
    let all = more_go kinds rs rs' rest rest' ending' others g.1 g'.1 h' in
    (all.0, let same : rs' ≡ rs ++ all.0 = all.1 in cc, all.2, all.3)

-- .. and are all of it if an end follows them
same_end : (kinds : AcceptedKinds) (rs others : List Record) (rest rest' : List ℕ) (ending ending' : RecordsEnd)
    → rest ≡ flat_map spelled others ++ rest' → AllByRecursion (IsGood kinds) others
    → end_of kinds rest ≡ Some ending → end_of kinds rest' ≡ Some ending' → (rs ≡ rs ++ others) × (ending ≡ ending')
same_end kinds rs [] rest rest' ending ending' e g h h' = grind (arith, append-nil rs)
same_end kinds rs (r ∷ others) rest rest' ending ending' e g h h' =
    absurd (no_end kinds r others rest rest' ending g.0 e h)

-- octets are read as records in one way
pub one_reading : AtMostOneReading
one_reading kinds octets records records' ending ending' a b = search (rules, more_go, same_end)

-- more octets keep the whole records that are there
pub more_keeps : MoreKeepsRecords
more_keeps kinds octets more records records' ending ending' a b =
    let all = more_go kinds records records' (a.rest ++ more) b.rest ending'
    (rw (← append_assoc (flat_map spelled records) a.rest more, ← a.whole) b.whole) a.good b.good b.ends in
    (all.0, all.1)
