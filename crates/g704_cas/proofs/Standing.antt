-- The answers of a multiframe aligner with a history, and its next history.
use Rattle.std.proofs.Common.{rules, ◌≡◌, ℕ, ◌-◌, ◌%◌, List, [], ◌∷◌, ◌++◌, length, Bool, true, false, Option, Some}
use Rattle.std.proofs.Common.{None, refl, sym, ap, ◌∙◌, subst, arith}
use Rattle.std.specs.Prelude.{is_none}
use Rattle.g704_framing.specs.Alignment.{alignments_from}
use Rattle.g704_framing.specs.Age.{age_in}
use Rattle.g704_framing.specs.Places.{place_since}
use Rattle.g704_framing.specs.Restart.{RestartsAfter, last_of}
use Rattle.g704_framing.proofs.Ends.{alignments-standing, last_of-append}
use Rattle.g704_framing.proofs.Ages.{age-standing}
use Rattle.g704_framing.proofs.Standings.{alarm-since, alarm-over, since-nothing, since-more, since-anew}
use Rattle.g704_cas.specs.declared.alignment.MfPlace.TheVariants.{Frame}
use Rattle.g704_cas.specs.declared.alignment.SyncState.{SyncState}
use Rattle.g704_cas.specs.declared.alignment.SyncState.TheVariants.{Searching, Aligned}
use Rattle.g704_cas.specs.Search.{is_not_zero}
use Rattle.g704_cas.specs.Loss.{multiframe_alignment}
use Rattle.g704_cas.specs.Placing.{multiframes, alarm_after}
use Rattle.g704_cas.specs.Aligner.{IsAlignedRun, Describes, Follows, HasHistory}
use Rattle.g704_cas.proofs.Searches.{multiframe_is_framing, search-found}

-- the age of an octet of a present alignment
age-aligned : (b : Option ℕ) (c : List ℕ) (n frame : ℕ) (wrong : Bool) → IsAlignedRun b frame wrong c
    → age_in 0 (alignments_from multiframe_alignment b c 0) n ≡ Some n
age-aligned b c n frame wrong h = search (rules, age-standing, alignments-standing, multiframe_is_framing, search-found)

-- the octet by which alignment is found
pub place-first : (b : Option ℕ) (c : List ℕ) (x frame : ℕ) (wrong after : Bool) → (c ≡ []) × (after ≡ is_not_zero b)
    → IsAlignedRun b frame wrong (c ++ x ∷ []) → Frame 0 ≡ place_since multiframes b (c ++ x ∷ []) (length c)
unfolding place_since
place-first b c x frame wrong after h g = rw (age-aligned b (c ++ x ∷ []) (length c) frame wrong g, h.0) refl

-- an octet in an alignment
pub place-next : (b : Option ℕ) (c : List ℕ) (x frame frame' : ℕ) (wrong wrong' : Bool) → IsAlignedRun b frame wrong c
    → IsAlignedRun b frame' wrong' (c ++ x ∷ [])
    → Frame (frame % 16) ≡ place_since multiframes b (c ++ x ∷ []) (length c)
unfolding place_since
place-next b c x frame frame' wrong wrong' h g = grind (arith, age-aligned b (c ++ x ∷ []) (length c) frame' wrong' g)

-- the aligner has the history with one more octet
pub stands-follows : (phase : SyncState) (history earlier since : List ℕ) (x : ℕ) → history ≡ earlier ++ since
    → RestartsAfter multiframe_alignment None earlier → Follows phase (last_of None earlier) (since ++ x ∷ [])
    → HasHistory (record { phase = phase }) (history ++ x ∷ [])
stands-follows (Searching after) history earlier since x e over f = search (rules, since-anew, last_of-append)
stands-follows (Aligned frame wrong) history earlier since x e over f =
    since-more multiframe_alignment _ history earlier since x e over f

-- an aligner that has seen nothing, or forgot it
pub stands-new : HasHistory (record { phase = Searching false }) []
stands-new = since-nothing multiframe_alignment _ (refl, refl)

-- the alarm while it hunts
pub alarm-searching : (phase : SyncState) (history : List ℕ) (after : Bool) → phase ≡ Searching after
    → HasHistory (record { phase = phase }) history → true ≡ alarm_after history
alarm-searching phase history after e h = grind (arith, alarm-over multiframes h.earlier h.over)

-- and while it is aligned
pub alarm-aligned : (phase : SyncState) (history : List ℕ) (frame : ℕ) (wrong : Bool) → phase ≡ Aligned frame wrong
    → HasHistory (record { phase = phase }) history → false ≡ alarm_after history
alarm-aligned phase history frame wrong e h =
    let d : IsAlignedRun (last_of None h.earlier) frame wrong h.since
    = subst (λ p. Describes p (last_of None h.earlier) h.since) e h.fields in
    rw h.whole (ap is_none (sym (age-aligned (last_of None h.earlier) h.since (length h.since - 1) frame wrong d))
    ∙ alarm-since multiframes h.earlier h.since h.over d.begun)
