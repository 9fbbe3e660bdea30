use Rattle.g704_crc4.proofs.Common.{◌≡◌, ◌<◌, ◌++◌, ◌∷◌, [], ℕ, List, length, ◌∙◌, arith, ◌-◌, get_or, rules, slice_set}
use Rattle.g704_crc4.proofs.Common.{false≢true, length_push, take_more_set, take-suc, GoesOn, IsSearched}
use Rattle.g704_crc4.proofs.Alignments.{goes_with}
use Rattle.g704_crc4.proofs.Searched.{long-learned, long-given_up, short-learned, short-kept}
use Rattle.g704_crc4.proofs.Followings.{tells-excess}
use Rattle.g704_crc4.proofs.receiving.Receiver.follow.Goals as goal

pub returns-then-gives_up-clause-reply : goal.returns-then-gives_up-clause-reply
returns-then-gives_up-clause-reply c part before octets s g room =
    let stage = rw c.in-SubmultiframeCheck.is at s in
    rw (goes_with part before octets c.args.octet g (omega arith))
    (c.octet-learned.ensures.reply before stage.1
    ∙ long-learned before c.args.octet stage.1.number stage.1.found stage.0)

pub returns-then-gives_up-clause-goes_on : goal.returns-then-gives_up-clause-goes_on
returns-then-gives_up-clause-goes_on c part before octets s g room kept =
    search (rules, false≢true, long-given_up, length_push, tells-excess)

pub returns-else-gives_up-clause-reply : goal.returns-else-gives_up-clause-reply
returns-else-gives_up-clause-reply c part before octets s g room =
    let stage = rw c.in-SubmultiframeCheck.is at s in
    rw (goes_with part before octets c.args.octet g (omega arith))
    (c.octet-learned.ensures.reply before stage.1
    ∙ long-learned before c.args.octet stage.1.number stage.1.found stage.0)

pub returns-else-gives_up-clause-goes_on : goal.returns-else-gives_up-clause-goes_on
returns-else-gives_up-clause-goes_on c part before octets s g room kept = search (rules, tells-excess, length_push)

pub returns-else-gives_up-clause-anew : goal.returns-else-gives_up-clause-anew
returns-else-gives_up-clause-anew c part before octets s g room given_up =
    search (rules, false≢true, tells-excess, long-given_up, length_push)

pub returns-in-Searching-clause-goes_on : goal.returns-in-Searching-clause-goes_on
returns-in-Searching-clause-goes_on c part before octets s g room kept =
    let stage = rw c.in-Searching.is at s in
    let same = goes_with part before octets c.args.octet g (omega arith) in
    rw same (c.search.ensures.goes_on (part ++ c.args.octet ∷ []) before stage room (rw same at kept))

-- The first octets of the 8 ms.
first_come : (searched part octets : List ℕ) (x : ℕ) → length searched ≡ 2048 → GoesOn part x [] octets
    → (0 < length part → get_or searched 0 0 ≡ get_or part (length part - 1) 0)
    → IsSearched 2 (slice_set searched 1 x) octets
first_come searched part octets x room g last =
    grind (arith, take_more_set searched 1 x (omega arith), take-suc searched 0 0 (omega arith))

pub returns-in-Hunting-clause-reply : goal.returns-in-Hunting-clause-reply
returns-in-Hunting-clause-reply c part before octets s g room = search (rules, short-learned)

pub returns-in-Hunting-clause-goes_on : goal.returns-in-Hunting-clause-goes_on
returns-in-Hunting-clause-goes_on c part before octets s g room kept = search (rules, first_come)

pub returns-in-Hunting-clause-anew : goal.returns-in-Hunting-clause-anew
returns-in-Hunting-clause-anew c part before octets s g room given_up = search (rules, false≢true, short-kept)
