-- Places, alarms and histories of an aligner, by the octets since the last restart.
use Rattle.std.proofs.Common.{rules, ◌≡◌, ℕ, ◌+◌, ◌-◌, ◌<◌, List, [], ◌∷◌, ◌++◌, length, true, Option, None, arith}
use Rattle.g704_framing.proofs.Common.{is_none, Framing, alignments_from, age_in, RestartsAfter, last_of, HoldsSince}
use Rattle.std.proofs.lemmas.List.{length_push, append_assoc, length-append, append-nil}
use Rattle.g704_framing.specs.Places.{PlaceRules, place_since, place_in, alarm_in}
use Rattle.g704_framing.proofs.Ends.{RestartsAfter-nil, RestartsAfter-append}
use Rattle.g704_framing.proofs.Ages.{age-over, age-at_over}

-- the place of the next octet is that in the whole history
pub place-history : {Place : Type 0} (placing : PlaceRules Place) (history earlier since : List ℕ) (octet : ℕ)
    → history ≡ earlier ++ since → RestartsAfter placing.framing None earlier
    → place_since placing (last_of None earlier) (since ++ octet ∷ []) (length since)
    ≡ place_in placing (history ++ octet ∷ []) (length history)
unfolding place_in place_since
place-history p history earlier since x e over = search (rules, length-append, append_assoc, age-over)

-- an octet after which everything restarts has none
pub place-over : {Place : Type 0} (placing : PlaceRules Place) (before : Option ℕ) (octets : List ℕ) (octet : ℕ)
    → RestartsAfter placing.framing before (octets ++ octet ∷ [])
    → placing.place_of None ≡ place_since placing before (octets ++ octet ∷ []) (length octets)
unfolding place_since
place-over p b c x over = search (rules, length_push, age-at_over)

-- the alarm in the whole history, if octets came since
pub alarm-since : {Place : Type 0} (placing : PlaceRules Place) (earlier since : List ℕ)
    → RestartsAfter placing.framing None earlier → 0 < length since
    → is_none (age_in placing.framing.found_at (alignments_from placing.framing (last_of None earlier) since 0)
    (length since - 1)) ≡ alarm_in placing (earlier ++ since) (length (earlier ++ since) - 1)
unfolding alarm_in
alarm-since p earlier since over lt = search (rules, length-append, age-over)

-- and if none did
pub alarm-over : {Place : Type 0} (placing : PlaceRules Place) (earlier : List ℕ)
    → RestartsAfter placing.framing None earlier
    → true ≡ alarm_in placing (earlier ++ []) (length (earlier ++ []) - 1)
unfolding alarm_in
alarm-over p earlier over = search (rules, append-nil, age-at_over)

-- what is so of no octet is so before the first
pub since-nothing : (framing : Framing) (holds : Option ℕ → List ℕ → Type 0) → holds None []
    → HoldsSince framing holds []
since-nothing framing holds h = grind (arith, RestartsAfter-nil framing None)

-- what is so with one octet more
pub since-more : (framing : Framing) (holds : Option ℕ → List ℕ → Type 0) (history earlier since : List ℕ) (octet : ℕ)
    → history ≡ earlier ++ since → RestartsAfter framing None earlier
    → holds (last_of None earlier) (since ++ octet ∷ [])
    → HoldsSince framing holds (history ++ octet ∷ [])
since-more framing holds history earlier since x e over h = grind (arith, append_assoc earlier since (x ∷ []))

-- and for an octet after which everything restarts
pub since-anew : (framing : Framing) (holds : Option ℕ → List ℕ → Type 0) (history earlier since : List ℕ) (octet : ℕ)
    → history ≡ earlier ++ since → RestartsAfter framing None earlier
    → RestartsAfter framing (last_of None earlier) (since ++ octet ∷ [])
    → holds (last_of None (earlier ++ (since ++ octet ∷ []))) [] → HoldsSince framing holds (history ++ octet ∷ [])
since-anew framing holds history earlier since x e over f h =
    grind (
      arith,
      append_assoc earlier since (x ∷ []),
      append-nil (earlier ++ (since ++ x ∷ [])),
      RestartsAfter-append framing None earlier (since ++ x ∷ []) over f,
    )
