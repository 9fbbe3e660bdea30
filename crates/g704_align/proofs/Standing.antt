-- The answers of an aligner with a history, and its next history.
use Rattle.std.proofs.Common.{rules, ◌≡◌, ℕ, ◌-◌, ◌≤◌, ◌%◌, ◌/◌, List, [], ◌∷◌, ◌++◌, length, Bool, true, false, Option}
use Rattle.std.proofs.Common.{Some, None, refl, sym, ap, ◌∙◌, subst, arith, ltb, eqb, inl, inr}
use Rattle.std.proofs.lemmas.Grind.{common_steps}
use Rattle.std.specs.Prelude.{nat_lt, is_none, ◌==◌}
use Rattle.std.proofs.lemmas.List.{length_push, append_assoc}
use Rattle.std.proofs.lemmas.Bool.{cases_Bool}
use Rattle.g704_framing.specs.Alignment.{alignments_from}
use Rattle.g704_framing.specs.Age.{age_in}
use Rattle.g704_framing.specs.Places.{place_since}
use Rattle.g704_framing.specs.Restart.{RestartsAfter, last_of}
use Rattle.g704_framing.proofs.Ends.{alignments-standing, kept-more, RestartsAfter-lost}
use Rattle.g704_framing.proofs.Ages.{age-early, age-standing}
use Rattle.g704_framing.proofs.Standings.{place-history, place-over, alarm-since, alarm-over, since-nothing, since-more}
use Rattle.g704_framing.proofs.Standings.{since-anew}
use Rattle.g704_align.specs.declared.alignment.Place.{Place}
use Rattle.g704_align.specs.declared.alignment.Place.TheVariants.{Hunting, Slot}
use Rattle.g704_align.specs.declared.alignment.SyncState.{SyncState}
use Rattle.g704_align.specs.declared.alignment.SyncState.TheVariants.{Searching, Candidate, Aligned}
use Rattle.g704_align.specs.Loss.{frame_alignment, is_third_wrong}
use Rattle.g704_align.specs.Placing.{place_of, number_of, frames, place, alarm_after}
use Rattle.g704_align.specs.Aligner.{IsAlignedRun, Describes, Follows, HasHistory}
use Rattle.g704_align.proofs.Searches.{frame_is_framing, search-found}

-- the age of an octet of a present alignment
age-aligned : (b : Option ℕ) (c : List ℕ) (after n age ws wd : ℕ) → IsAlignedRun age ws wd c → after ≤ n
    → age_in after (alignments_from frame_alignment b c 0) n ≡ Some n
age-aligned b c after n age ws wd h le =
    search (rules, age-standing, alignments-standing, frame_is_framing, search-found)

-- the first half of two frames is the even one
even_frame : (n : ℕ) → ltb (n % 64) 32 ≡ eqb ((n / 32) % 2) 0
even_frame n = grind (arith, common_steps)

-- between two phases of an alignment
pub place-aligned : (b : Option ℕ) (c : List ℕ) (x age ws wd age' ws' wd' : ℕ) → IsAlignedRun age ws wd c
    → IsAlignedRun age' ws' wd' (c ++ x ∷ [])
    → Slot (age % 32) (nat_lt age 32) ≡ place_since frames b (c ++ x ∷ []) (length c)
unfolding place_since
place-aligned b c x age ws wd age' ws' wd' h g =
    grind (arith, age-aligned b (c ++ x ∷ []) 65 (length c) age' ws' wd' g (omega arith), even_frame (length c))

-- an octet before the first that can have a place
place-early : (b : Option ℕ) (c : List ℕ) (n : ℕ) → n ≤ 64 → Hunting ≡ place_since frames b c n
unfolding place_since
place-early b c n le = ap place_of (sym (age-early frame_alignment b c 65 n (omega arith)))

-- an octet by which an alignment is not lost
place-kept : (b : Option ℕ) (c : List ℕ) (x age ws wd : ℕ) → IsAlignedRun age ws wd c
    → is_third_wrong (c ++ x ∷ []) (length c) ≡ false
    → Slot (length c % 32) ((length c / 32) % 2 == 0) ≡ place_since frames b (c ++ x ∷ []) (length c)
unfolding place_since
place-kept b c x age ws wd h kept =
    ap place_of (sym (age-standing 65 (length c) (alignments_from frame_alignment b (c ++ x ∷ []) 0)
    (alignments-standing frame_alignment frame_is_framing b (c ++ x ∷ [])
    (λ t. rw (append_assoc c (x ∷ []) t) (search-found c (x ∷ t) h.found h.fas h.nfas h.confirmed))
    (kept-more frame_alignment frame_is_framing c x h.kept kept)) (omega arith)))

abbrev IsNoSpeech : Place → Type 0
IsNoSpeech p = number_of p % 16 ≡ 0

-- half a frame from a signal there is no slot of speech, whether the alignment is lost or not
pub place-signal : (b : Option ℕ) (c : List ℕ) (x age ws wd : ℕ) → IsAlignedRun age ws wd c → age % 16 ≡ 0
    → number_of (place_since frames b (c ++ x ∷ []) (length c)) % 16 ≡ 0
place-signal b c x age ws wd h e = elim (cases_Bool (is_third_wrong (c ++ x ∷ []) (length c))) [
  | inl lost ↦ subst IsNoSpeech (place-over frames b c x (RestartsAfter-lost frame_alignment frame_is_framing b c x
      (λ t. search-found c t h.found h.fas h.nfas h.confirmed) h.kept lost)) refl
  | inr kept ↦
      let counted = h.counted in
      subst IsNoSpeech (place-kept b c x age ws wd h kept) (omega arith)
]

-- without alignment after the octet, it has no place
pub place-unless_after : (after : SyncState) (b : Option ℕ) (c : List ℕ) (x : ℕ) → Follows after b (c ++ x ∷ [])
    → ((a s d : ℕ) → after ≡ Aligned a s d → ⊥) → Hunting ≡ place_since frames b (c ++ x ∷ []) (length c)
place-unless_after Searching b c x f unless = place-over frames b c x f
place-unless_after (Candidate age) b c x f unless = search (rules, length_push, place-early)
place-unless_after (Aligned a s d) b c x f unless = absurd (unless a s d refl)

-- nor without one before
pub place-unless_before : (before : SyncState) (b : Option ℕ) (c : List ℕ) (x : ℕ) → Describes before c
    → ((a s d : ℕ) → before ≡ Aligned a s d → ⊥) → Hunting ≡ place_since frames b (c ++ x ∷ []) (length c)
place-unless_before Searching b c x f unless = place-early b (c ++ x ∷ []) (length c) (rw f (omega arith))
place-unless_before (Candidate age) b c x f unless =
    let a = f.counted in let y = f.young in place-early b (c ++ x ∷ []) (length c) (omega arith)
place-unless_before (Aligned a s d) b c x f unless = absurd (unless a s d refl)

-- nor is there one before alignment is found
pub place-unless_aligned : (phase : SyncState) (b : Option ℕ) (c : List ℕ) (x : ℕ) → Describes phase c
    → ((a s d : ℕ) → phase ≡ Aligned a s d → ⊥) → IsNoSpeech (place_since frames b (c ++ x ∷ []) (length c))
place-unless_aligned phase b c x f unless = subst IsNoSpeech (place-unless_before phase b c x f unless) refl

-- the same in the whole history
pub place-left : (phase : SyncState) (history : List ℕ) (octet : ℕ) (h : HasHistory (record { phase = phase }) history)
    → IsNoSpeech (place_since frames (last_of None h.earlier) (h.since ++ octet ∷ []) (length h.since))
    → number_of (place (history ++ octet ∷ []) (length history)) % 16 ≡ 0
place-left phase history octet h is =
    subst IsNoSpeech (place-history frames history h.earlier h.since octet h.whole h.over) is

-- the aligner has the history with one more octet
pub stands-follows : (phase : SyncState) (history earlier since : List ℕ) (x : ℕ) → history ≡ earlier ++ since
    → RestartsAfter frame_alignment None earlier → Follows phase (last_of None earlier) (since ++ x ∷ [])
    → HasHistory (record { phase = phase }) (history ++ x ∷ [])
stands-follows Searching history earlier since x e over f =
    since-anew frame_alignment _ history earlier since x e over f refl
stands-follows (Candidate age) history earlier since x e over f =
    since-more frame_alignment _ history earlier since x e over f
stands-follows (Aligned age ws wd) history earlier since x e over f =
    since-more frame_alignment _ history earlier since x e over f

-- an aligner that has seen nothing
pub stands-new : HasHistory (record { phase = Searching }) []
stands-new = since-nothing frame_alignment _ refl

-- the alarm, by the phase
abbrev pub alarm_of : SyncState → Bool
alarm_of Searching = true
alarm_of (Candidate age) = true
alarm_of (Aligned age ws wd) = false

-- the alarm, by the octets since the last restart
alarm-after : (phase : SyncState) (earlier since : List ℕ) → RestartsAfter frame_alignment None earlier
    → Describes phase since
    → alarm_of phase ≡ alarm_after (earlier ++ since)
alarm-after Searching earlier since over f = rw f (alarm-over frames earlier over)
alarm-after (Candidate age) earlier since over f =
    ap is_none (sym (age-early frame_alignment (last_of None earlier) since 64 (length since - 1) (omega arith)))
    ∙ alarm-since frames earlier since over (omega arith)
alarm-after (Aligned age ws wd) earlier since over f =
    ap is_none (sym (age-aligned (last_of None earlier) since 64 (length since - 1) age ws wd f (omega arith)))
    ∙ alarm-since frames earlier since over (omega arith)

-- the alarm, in each phase
alarm-stands : (phase : SyncState) (history : List ℕ) → HasHistory (record { phase = phase }) history
    → alarm_of phase ≡ alarm_after history
alarm-stands phase history h = rw h.whole (alarm-after phase h.earlier h.since h.over h.fields)

-- the same, if the phase is known
pub alarm-in : (phase is : SyncState) (history : List ℕ) → phase ≡ is → HasHistory (record { phase = phase }) history
    → alarm_of is ≡ alarm_after history
alarm-in phase is history e h = sym (ap alarm_of e) ∙ alarm-stands phase history h
