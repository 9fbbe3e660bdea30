-- The parts of a stream between the octets by which frame alignment is given up.
use Rattle.g704_crc4.proofs.Common.{◌≡◌, ℕ, zero, suc, ◌+◌, ◌-◌, ◌<◌, ◌≤◌, List, [], ◌∷◌, ◌++◌, length, take, drop}
use Rattle.g704_crc4.proofs.Common.{rules, get_or, Option, None, refl, sym, ap, ◌∙◌, arith, append-nil, true, false}
use Rattle.g704_crc4.proofs.Common.{take-suc, drop-append_seam, length_push, take_all, age_in, IsFraming, RestartsAfter}
use Rattle.g704_crc4.proofs.Common.{last_of, octets_since, since_start, is_given_up, aligned_octets, parts, part_before}
use Rattle.g704_crc4.proofs.Common.{learned, learned_of}
use Rattle.std.proofs.Common.{length-append}
use Rattle.g704_framing.specs.Alignment.{alignments_of}
use Rattle.g704_framing.proofs.Ages.{age-over, age-at_over, age-standing}
use Rattle.g704_framing.proofs.Ends.{alignments-standing, RestartsAfter-lost, kept-more}
use Rattle.g704_framing.proofs.Searches.{StaysFound, later-found, FoundAfter, later-after, few-after}
use Rattle.g704_crc4.specs.Aligning.{octets_before, position_in}

-- The octets before a position that is not past the end.
octets-taken : (octets : List ℕ) (n : ℕ) → n ≤ length octets → octets_before octets n ≡ take n octets
unfolding octets_before
octets-taken octets zero le = refl
octets-taken octets (suc n) le =
    rw (octets-taken octets n (omega arith)) (sym (take-suc octets n 0 (omega arith)))

-- They are the same in streams that are.
octets-alike : (octets others : List ℕ) (n : ℕ) → ((k : ℕ) → k < n → get_or octets k 0 ≡ get_or others k 0)
    → octets_before octets n ≡ octets_before others n
unfolding octets_before
octets-alike octets others zero e = refl
octets-alike octets others (suc n) e =
    rw (octets-alike octets others n (λ k lt. e k (omega arith)), e n (omega arith)) refl

-- A position that there is stays in a stream that goes on.
position-stays : (s t : List ℕ) (from : ℕ) → StaysFound (position_in s from) (position_in (s ++ t) from)
position-stays [] t from p e = cc
position-stays (x ∷ s) t zero p e = e
position-stays (x ∷ s) t (suc from) p e =
    later-found (position_in s from) (position_in (s ++ t) from) (position-stays s t from) p e

-- One that there is not comes with a later octet.
position-after : (s t : List ℕ) (from : ℕ) → FoundAfter 0 (length s) (position_in s from) (position_in (s ++ t) from)
position-after [] t from e = few-after 0 0 (position_in t from) (omega arith)
position-after (x ∷ s) t zero e = cc
position-after (x ∷ s) t (suc from) e =
    later-after 0 (length s) (position_in s from) (position_in (s ++ t) from) (position-after s t from) e

-- The parts of a stream are alignments of a kind.
pub parts_are_framing : IsFraming parts
parts_are_framing = search (rules, position-stays, position-after, octets-alike)

-- Whether a part is given up by its last octet.
pub given_up-is : (part : List ℕ) (x : ℕ)
    → parts.is_lost (part ++ x ∷ []) (length part) ≡ is_given_up (aligned_octets (part ++ x ∷ []))
given_up-is part x = search (rules, octets-taken, length_push, take_all)

-- The part that goes on is the octets since it began.
pub part-is : (earlier part : List ℕ) → RestartsAfter parts None earlier
    → ((position : ℕ) → position < length part → parts.is_lost part position ≡ false)
    → part_before (earlier ++ part) ≡ part
unfolding since_start part_before
part-is earlier [] over kept = search (rules, append-nil, age-at_over)
part-is earlier (x ∷ part) over kept =
    let n : length (earlier ++ x ∷ part) - 1 ≡ length earlier + length part
    = omega (arith, length-append earlier (x ∷ part)) in
    let from : length (earlier ++ x ∷ part) - 1 - length part ≡ length earlier = omega arith in
    let standing = alignments-standing parts parts_are_framing (last_of None earlier) (x ∷ part) (λ rest. refl) kept in
    ap (λ k. octets_since (earlier ++ x ∷ part) (age_in 0 (alignments_of parts (earlier ++ x ∷ part)) k)) n
    ∙ ap (octets_since (earlier ++ x ∷ part)) (age-over parts None earlier (x ∷ part) 0 (length part) over
    ∙ age-standing 0 (length part) _ standing (omega arith))
    ∙ ap (λ k. drop k (earlier ++ x ∷ part)) from ∙ drop-append_seam earlier (x ∷ part)

-- A part is given up by its next octet, and everything restarts.
pub part-over : (before : Option ℕ) (part : List ℕ) (x : ℕ) → 0 < length part
    → ((position : ℕ) → position < length part → parts.is_lost part position ≡ false)
    → is_given_up (aligned_octets (part ++ x ∷ [])) ≡ true → RestartsAfter parts before (part ++ x ∷ [])
part-over before [] x lt kept given_up = absurd (omega arith)
part-over before (y ∷ part) x lt kept given_up = search (rules, RestartsAfter-lost, parts_are_framing, given_up-is)

-- Or it goes on.
pub part-kept : (part : List ℕ) (x : ℕ)
    → ((position : ℕ) → position < length part → parts.is_lost part position ≡ false)
    → is_given_up (aligned_octets (part ++ x ∷ [])) ≡ false
    → (position : ℕ) → position < length (part ++ x ∷ []) → parts.is_lost (part ++ x ∷ []) position ≡ false
part-kept part x kept up = kept-more parts parts_are_framing part x kept (given_up-is part x ∙ up)

-- What is learned, by the octets of the part.
pub learned-is : (history part : List ℕ) (x : ℕ) → part_before history ≡ part
    → learned_of (aligned_octets part) (aligned_octets (part ++ x ∷ [])) ≡ learned history x
unfolding learned
learned-is history part x e = rw e refl
