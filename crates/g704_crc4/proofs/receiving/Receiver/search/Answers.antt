use Rattle.g704_crc4.proofs.Common.{◌≡◌, ◌≤◌, ◌<◌, ◌++◌, ◌∷◌, [], ℕ, ◌+◌, List, refl, sym, ◌∙◌, arith, length, drop}
use Rattle.g704_crc4.proofs.Common.{rules, slice_set, false≢true, length_push, take_all, take_more_set, drop-append-le}
use Rattle.g704_crc4.proofs.Common.{IsSearched}
use Rattle.g704_crc4.proofs.Searched.{short-learned, short-kept, found-is, found-learned, found-kept, none-is}
use Rattle.g704_crc4.proofs.Searched.{none-learned, none-given_up}
use Rattle.g704_crc4.proofs.receiving.Receiver.search.Goals as goal

-- When all of the 8 ms have come.
all_come : (count : ℕ) (searched octets : List ℕ) → length searched ≡ 2048 → IsSearched count searched octets
    → 2048 ≤ count → (length octets ≡ 2112) × (searched ≡ drop 64 octets)
all_come count searched octets room s le = grind (arith, take_all count searched (omega arith))

-- One more of their octets.
one_come : (count x : ℕ) (searched octets : List ℕ) → length searched ≡ 2048 → IsSearched count searched octets
    → count < 2048 → IsSearched (count + 1) (slice_set searched count x) (octets ++ x ∷ [])
one_come count x searched octets room s lt =
    grind (
      arith,
      length_push octets x,
      take_more_set searched count x (omega arith),
      drop-append-le 64 octets (x ∷ []) (omega arith),
    )

pub returns-then-count-lt-SEARCHED-clause-reply : goal.returns-then-count-lt-SEARCHED-clause-reply
returns-then-count-lt-SEARCHED-clause-reply c octets s room = search (rules, short-learned, length_push)

pub returns-then-count-lt-SEARCHED-clause-goes_on : goal.returns-then-count-lt-SEARCHED-clause-goes_on
returns-then-count-lt-SEARCHED-clause-goes_on c part octets s room kept =
    grind (arith, one_come c.args.count c.args.octet c.args.self.now.searched octets room s c.if-count-lt-SEARCHED.true)

pub returns-then-count-lt-SEARCHED-clause-anew : goal.returns-then-count-lt-SEARCHED-clause-anew
returns-then-count-lt-SEARCHED-clause-anew c octets s room given_up =
    absurd (false≢true (sym (short-kept (octets ++ c.args.octet ∷ [])
    (omega (arith, s.counted, c.if-count-lt-SEARCHED.true, length_push octets c.args.octet))) ∙ given_up))

pub returns-in-Some-clause-reply : goal.returns-in-Some-clause-reply
returns-in-Some-clause-reply c octets s room =
    let all = all_come c.args.count c.args.self.now.searched octets room s
    (omega (arith, c.if-count-lt-SEARCHED.false)) in
    found-learned octets c.args.octet c.in-Some.number all.0
    (found-is octets c.args.self.now.searched c.in-Some.number all.0 all.1
    c.in-Some.ensures.found c.in-Some.ensures.first)

pub returns-in-Some-clause-goes_on : goal.returns-in-Some-clause-goes_on
returns-in-Some-clause-goes_on c part octets s room kept =
    let all = all_come c.args.count c.args.self.now.searched octets room s
    (omega (arith, c.if-count-lt-SEARCHED.false)) in
    let past : 2112 < length (octets ++ c.args.octet ∷ []) = omega (arith, all.0, length_push octets c.args.octet) in
    let followed = c.begun.ensures octets all.0
    (found-is octets c.args.self.now.searched c.in-Some.number all.0 all.1
    c.in-Some.ensures.found c.in-Some.ensures.first) in
    (refl, (past, followed))

pub returns-in-Some-clause-anew : goal.returns-in-Some-clause-anew
returns-in-Some-clause-anew c octets s room given_up =
    let all = all_come c.args.count c.args.self.now.searched octets room s
    (omega (arith, c.if-count-lt-SEARCHED.false)) in
    absurd (false≢true (sym (found-kept octets c.args.octet c.in-Some.number all.0
    (found-is octets c.args.self.now.searched c.in-Some.number all.0 all.1
    c.in-Some.ensures.found c.in-Some.ensures.first)) ∙ given_up))

pub returns-in_default-clause-reply : goal.returns-in_default-clause-reply
returns-in_default-clause-reply c octets s room =
    let all = all_come c.args.count c.args.self.now.searched octets room s
    (omega (arith, c.if-count-lt-SEARCHED.false)) in
    none-learned octets c.args.octet all.0 (none-is octets c.args.self.now.searched all.0 all.1
    c.in_default.ensures.none)

pub returns-in_default-clause-goes_on : goal.returns-in_default-clause-goes_on
returns-in_default-clause-goes_on c part octets s room kept =
    let all = all_come c.args.count c.args.self.now.searched octets room s
    (omega (arith, c.if-count-lt-SEARCHED.false)) in
    absurd (false≢true (sym kept
    ∙ none-given_up octets c.args.octet all.0 (none-is octets c.args.self.now.searched all.0 all.1
    c.in_default.ensures.none)))
