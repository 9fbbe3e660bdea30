-- The octets of a frame alignment, one octet more.
use Rattle.g704_crc4.proofs.Common.{◌≡◌, ℕ, suc, ◌+◌, ◌-◌, ◌<◌, List, [], ◌∷◌, ◌++◌, length, drop, get_or, Option, Some}
use Rattle.g704_crc4.proofs.Common.{rules, None, Bool, refl, sym, ap, ◌∙◌, arith, inl, inr, length-drop, cases_lt}
use Rattle.g704_crc4.proofs.Common.{length_push, drop-append-le, drop_all, age_in, octets_since, since_start}
use Rattle.g704_crc4.proofs.Common.{aligned_octets, GoesOn}
use Rattle.std.proofs.Common.{drop-cons}
use Rattle.std.proofs.lemmas.List.{drop-drop}
use Rattle.g704_framing.specs.Alignment.{alignments_from, alignments_of}
use Rattle.g704_framing.specs.Places.{place_in}
use Rattle.g704_framing.proofs.Ages.{age-early}
use Rattle.g704_framing.proofs.Settles.{ages_are_settled}
use Rattle.g704_align.specs.declared.alignment.Place.TheVariants.{Hunting, Slot}
use Rattle.g704_align.specs.Loss.{frame_alignment}
use Rattle.g704_align.specs.Placing.{place}
use Rattle.g704_align.proofs.Callers.{no-age, some-age}
use Rattle.g704_align.proofs.Searches.{frame_is_framing}
use Rattle.g704_crc4.proofs.Ages.{IsAgeBefore, age_before}

-- The age of an octet.
abbrev age_at : List ℕ → ℕ → Option ℕ
age_at octets position = age_in 65 (alignments_of frame_alignment octets) position

-- The octets of an alignment, by the age of the last one.
by-age : (octets : List ℕ) (position : ℕ) (age : Option ℕ) → length octets - 1 ≡ position
    → age_at octets position ≡ age → aligned_octets octets ≡ octets_since octets age
unfolding since_start
by-age octets position age n e = ap (λ k. octets_since octets (age_at octets k)) n ∙ ap (octets_since octets) e

-- An octet without a time slot is in no frame alignment.
pub aligned-none : (part : List ℕ) (x : ℕ) → Hunting ≡ place (part ++ x ∷ []) (length part)
    → aligned_octets (part ++ x ∷ []) ≡ []
unfolding place_in
aligned-none part x e =
    by-age (part ++ x ∷ []) (length part) None (omega (arith, length_push part x)) (no-age _ (sym e))

-- There are none before the first.
pub aligned-nil : aligned_octets [] ≡ []
unfolding since_start alignments_from
aligned-nil = refl

-- One that has a time slot is the first such, or the next.
module _ (part : List ℕ) (x age : ℕ) (is : age_at (part ++ x ∷ []) (length part) ≡ Some age) where
  -- It is not the first octet.
  begun : 0 < length part
  begun = search (rules, cases_lt, age-early)

  -- The octet before it.
  last : ℕ
  last = length part - 1

  -- The age of that one.
  before : IsAgeBefore 65 (suc (length part - 1)) age (age_at part (length part - 1))
  before =
      let lt = begun in
      let next : suc (length part - 1) ≡ length part = omega arith in
      rw (← ages_are_settled frame_alignment frame_is_framing part (x ∷ []) 65 (length part - 1)
      (omega arith) (omega arith))
      (age_before frame_alignment frame_is_framing None (part ++ x ∷ []) 65 (length part - 1) age _ 0 refl (rw next is))

  -- The octets of its alignment.
  with_octet : aligned_octets (part ++ x ∷ []) ≡ drop (length part - age) part ++ x ∷ []
  with_octet = search (rules, length_push, by-age, drop-append-le)

  -- Where the octet before it has an age, those before it are its alignment's.
  later : 65 < age → aligned_octets part ≡ drop (length part - age) part
  later lt = grind (arith, begun, by-age part (length part - 1) (Some (age - 1)) refl (before.goes_on lt))

  -- Where it has none, there are none.
  first : 65 ≡ age → aligned_octets part ≡ []
  first e = by-age part (length part - 1) None refl (before.begins (sym e))

  -- The octets of the alignment with the octet.
  goes-on : GoesOn part x (aligned_octets part) (aligned_octets (part ++ x ∷ []))
  goes-on =
      let w = before.within in
      let lt = begun in
      let least = before.least in
      elim (cases_lt 65 age) [
        | inl more ↦
            let some : length (drop (length part - age) part) ≡ age
            = omega (arith, length-drop (length part - age) part) in
            record {
              begins = λ none.
                  let zero : 0 ≡ age = ap length (sym none ∙ later more) ∙ some in absurd (omega arith);
              goes_on = λ _. with_octet ∙ ap (λ xs. xs ++ x ∷ []) (sym (later more));
            }
        | inr ge ↦
            let e : 65 ≡ age = omega arith in
            let at : length part - age ≡ length part - 65 = omega arith in
            record {
              begins = λ none. (
                ap length with_octet
                    ∙ omega (
                      arith,
                      length_push (drop (length part - age) part) x,
                      length-drop (length part - age) part,
                    ),
                lt,
                ap (drop 64) with_octet ∙ tail (sym e),
              );
              goes_on = λ some. absurd (some (first e));
            }
      ]
    where
      tail : age ≡ 65 → drop 64 (drop (length part - age) part ++ x ∷ []) ≡ get_or part (length part - 1) 0 ∷ x ∷ []
      tail is65 = let w = before.within in let lt = begun in let least = before.least in
          let one : length part - age + 64 ≡ length part - 1 = omega arith in
          let next : suc (length part - 1) ≡ length part = omega arith in
          drop-append-le 64 (drop (length part - age) part) (x ∷ [])
          (omega (arith, length-drop (length part - age) part))
          ∙ ap (λ xs. xs ++ x ∷ []) (drop-drop 64 (length part - age) part ∙ ap (λ k. drop k part) one
          ∙ drop-cons part (length part - 1) 0 (omega arith)
          ∙ ap (λ xs. get_or part (length part - 1) 0 ∷ xs) (drop_all (suc (length part - 1)) part (omega arith)))

-- By the time slot of an octet.
pub slot-goes_on : (part : List ℕ) (x number : ℕ) (fas : Bool) → Slot number fas ≡ place (part ++ x ∷ []) (length part)
    → GoesOn part x (aligned_octets part) (aligned_octets (part ++ x ∷ []))
unfolding place_in
slot-goes_on part x number fas e =
    let age = some-age (age_at (part ++ x ∷ []) (length part)) number fas (sym e) in goes-on part x age.0 age.1

-- There is an octet before one that goes on.
pub part-begun : (part : List ℕ) (x : ℕ) (octets : List ℕ) → GoesOn part x (aligned_octets part) octets
    → 0 < length part
part-begun [] x octets g = (g.begins aligned-nil).1
part-begun (y ∷ part) x octets g = omega arith

-- An octet after others of the alignment goes on with them.
pub goes_with : (part before octets : List ℕ) (x : ℕ) → GoesOn part x before octets → 0 < length before
    → octets ≡ before ++ x ∷ []
goes_with part [] octets x g lt = absurd (omega arith)
goes_with part (y ∷ before) octets x g lt = g.goes_on (λ e. cc)
