-- A mover with a history, one octet more.
use Rattle.std.proofs.Common.{rules, ◌≡◌, ◌⊎◌, ℕ, ◌+◌, ◌-◌, ◌<◌, ◌≤◌, ◌%◌, min, List, [], ◌∷◌, ◌++◌, length, Bool, true}
use Rattle.std.proofs.Common.{false, None, Some, refl, sym, ap, ◌∙◌, arith, append_assoc, subst, inl, inr}
use Rattle.std.proofs.lemmas.Grind.{common_steps}
use Rattle.std.specs.Prelude.{◌&&◌, nat_le, slice_index, slice_set, suc, option_map}
use Rattle.std.proofs.lemmas.Bool.{and_cases, leb-false}
use Rattle.std.proofs.lemmas.List.{length-append, length_push, append-nil, length-set}
use Rattle.g704_framing.specs.Alignment.{alignments_from}
use Rattle.g704_framing.specs.Age.{age_in}
use Rattle.g704_framing.specs.Restart.{RestartsAfter, last_of}
use Rattle.g704_framing.proofs.Standings.{since-nothing, since-anew}
use Rattle.g704_framing.proofs.Ages.{age-over, age-at_over}
use Rattle.g704_slots.specs.declared.mover.SlotMover.{SlotMover}
use Rattle.g704_slots.specs.declared.mover.SearchState.{SearchState}
use Rattle.g704_slots.specs.declared.mover.SearchState.TheVariants.{Searching, Aligned}
use Rattle.g704_slots.specs.Search.{is_whole, is_found}
use Rattle.g704_slots.specs.Loss.{slot_16}
use Rattle.g704_slots.specs.Shown.{age, delay, late_after, shown_at, silence, slots_reply}
use Rattle.g704_slots.specs.Mover.{IsSearching, IsAlignedRun, IsFollowed, Describes, FollowsAlignment, Stands}
use Rattle.g704_slots.specs.Mover.{HasHistory}
use Rattle.g704_slots.proofs.Wholes.{whole-behind, found-within, found-append}
use Rattle.g704_slots.proofs.Memories.{kept-octet}
use Rattle.g704_slots.proofs.Steps.{followed-passed}
use Rattle.g704_slots.proofs.Spans.{none-yet, one-stands, over-lost, age-present}
use Rattle.g704_slots.proofs.Searches.{searching-nothing, searching-few, searching-whole, searching-other}
use Rattle.g704_slots.proofs.Searches.{searching-found}

-- no octet came
pub stands-nothing : (first : ℕ) → Stands (Searching 0 0) 0 first []
stands-nothing first =
    since-nothing slot_16 (λ before octets. Describes (Searching 0 0) 0 first 0 octets) (refl, searching-nothing)

-- what was so of the octets since the last restart is so with one more
stands-more : (phase after : SearchState) (pass next first : ℕ) (history : List ℕ) (octet : ℕ)
    → (s : Stands phase pass first history)
    → Describes after next first (length (history ++ octet ∷ [])) (s.since ++ octet ∷ [])
    → Stands after next first (history ++ octet ∷ [])
stands-more phase after pass next first history x s d = grind (arith, common_steps)

-- what comes behind an alignment finds nothing before it
none-longer : (sk al : List ℕ) (x age : ℕ) (wrong zero : Bool) → IsAlignedRun age wrong zero al
    → ((k : ℕ) → k < length sk → is_found (sk ++ al) k ≡ false)
    → (k : ℕ) → k < length sk → is_found (sk ++ (al ++ x ∷ [])) k ≡ false
none-longer sk al x age wrong zero h none k lt = search (rules, found-within, length-append, append_assoc, found-append)

-- an alignment goes on, or is lost
pub stands-aligned : (frame pass next : ℕ) (wrong zero : Bool) (late first : ℕ) (history : List ℕ) (x : ℕ)
    (after : SearchState) → Stands (Aligned frame wrong zero late) pass first history
    → ((octets : List ℕ) → IsFollowed frame pass wrong zero octets → FollowsAlignment after next late octets x)
    → Stands after next first (history ++ x ∷ [])
stands-aligned frame pass next wrong zero late first history x (Aligned frame' wrong' zero' late') s follows =
    let a = s.fields.0 in
    let more = follows a.aligned a.fields in
    let none : (k : ℕ) → k < length a.skipped → is_found (a.skipped ++ a.aligned) k ≡ false
    = λ k lt. ap (λ s. is_found s k) (sym a.whole) ∙ a.none k lt in
    let whole : s.since ++ x ∷ [] ≡ a.skipped ++ (a.aligned ++ x ∷ [])
    = ap (λ s. s ++ x ∷ []) a.whole ∙ append_assoc a.skipped a.aligned (x ∷ []) in
    let longer : (k : ℕ) → k < length a.skipped → is_found (a.skipped ++ (a.aligned ++ x ∷ [])) k ≡ false
    = λ k lt. none-longer a.skipped a.aligned x _ wrong zero a.fields.run none k lt in
    let same : length (history ++ x ∷ []) - length (a.aligned ++ x ∷ []) ≡ length history - length a.aligned
    = omega (arith, length_push history x, length_push a.aligned x) in
    stands-more (Aligned frame wrong zero late) (Aligned frame' wrong' zero' late') pass next first history x s (
      record {
        skipped = a.skipped;
        aligned = a.aligned ++ x ∷ [];
        whole = whole;
        none = λ k lt. ap (λ s. is_found s k) whole ∙ longer k lt;
        fields = more.1;
      },
      more.0 ∙ s.fields.1 ∙ ap (λ n. delay (first + n)) (sym same),
    )
stands-aligned frame pass next wrong zero late first history x (Searching seen alone) s follows =
    let a = s.fields.0 in
    let lost = follows a.aligned a.fields in
    let none : (k : ℕ) → k < length a.skipped → is_found (a.skipped ++ a.aligned) k ≡ false
    = λ k lt. ap (λ s. is_found s k) (sym a.whole) ∙ a.none k lt in
    let whole : s.since ++ x ∷ [] ≡ (a.skipped ++ a.aligned) ++ x ∷ [] = ap (λ s. s ++ x ∷ []) a.whole in
    let over : RestartsAfter slot_16 (last_of None s.earlier) (s.since ++ x ∷ [])
    = subst (RestartsAfter slot_16 (last_of None s.earlier)) (sym whole)
    (over-lost (last_of None s.earlier) a.skipped a.aligned x _ wrong zero a.fields.run none lost.3) in
    since-anew slot_16
    (λ before octets. Describes (Searching seen alone) next first (length (history ++ x ∷ [])) octets)
    history s.earlier s.since x s.whole s.over over (lost.0, rw (lost.1, lost.2) searching-nothing)

-- an octet passes
pub stands-passed : (phase : SearchState) (pass first : ℕ) (history : List ℕ) (x : ℕ) → 0 < pass
    → Stands phase pass first history → Stands phase (pass - 1) first (history ++ x ∷ [])
stands-passed (Searching seen alone) pass first history x some s = absurd (omega (arith, s.fields.0))
stands-passed (Aligned frame wrong zero late) pass first history x some s =
    stands-aligned frame pass (pass - 1) wrong zero late first history x (Aligned frame wrong zero late) s
    (λ octets h. (refl, followed-passed octets x frame pass wrong zero h some))

-- the age of the last octet while slot 16 is followed
pub age-followed : (frame pass : ℕ) (wrong zero : Bool) (late first : ℕ) (history : List ℕ) (last : ℕ)
    → last + 1 ≡ length history → (s : Stands (Aligned frame wrong zero late) pass first history)
    → age history last ≡ Some (length s.fields.0.aligned - 1)
age-followed frame pass wrong zero late first history n e s =
    let a = s.fields.0 in
    let l : length history ≡ length s.earlier + length s.since = ap length s.whole ∙ length-append s.earlier s.since in
    let m : length s.since ≡ length a.skipped + length a.aligned
    = ap length a.whole ∙ length-append a.skipped a.aligned in
    let long = found-within a.aligned 0 a.fields.run.found in
    let at : n ≡ length s.earlier + (length s.since - 1) = omega arith in
    let none : (k : ℕ) → k < length a.skipped → is_found (a.skipped ++ a.aligned) k ≡ false
    = λ k lt. ap (λ s. is_found s k) (sym a.whole) ∙ a.none k lt in
    let same : (length s.since - 1) - length a.skipped ≡ length a.aligned - 1 = omega arith in
    ap (λ c. age c n) s.whole ∙ ap (age (s.earlier ++ s.since)) at
    ∙ age-over slot_16 None s.earlier s.since 1984 (length s.since - 1) s.over
    ∙ age-present 1984 (length a.skipped) (length s.since - 1) _
    (ap (λ c. alignments_from slot_16 (last_of None s.earlier) c 0) a.whole
    ∙ one-stands (last_of None s.earlier) a.skipped a.aligned _ wrong zero a.fields.run none) (omega arith)
    ∙ ap Some same

-- and while it is searched for
pub age-searched : (seen alone pass first : ℕ) (history : List ℕ) (last : ℕ) → last + 1 ≡ length history
    → Stands (Searching seen alone) pass first history → age history last ≡ None
age-searched seen alone pass first history n e s = ap (λ c. age c n) s.whole ∙ go s.since s.fields.1 (
    ap length s.whole ∙ length-append s.earlier s.since)
  where
    go : (since : List ℕ) → IsSearching seen alone since → length history ≡ length s.earlier + length since
        → age (s.earlier ++ since) n ≡ None
    go [] f l =
        ap (λ c. age c n) (append-nil s.earlier)
        ∙ age-at_over slot_16 None s.earlier 1984 n s.over (omega arith)
    go (y ∷ since) f l =
        let at : n ≡ length s.earlier + length since = omega arith in
        ap (age (s.earlier ++ y ∷ since)) at
        ∙ age-over slot_16 None s.earlier (y ∷ since) 1984 (length since) s.over
        ∙ ap (λ ds. age_in 1984 ds (length since)) (none-yet (last_of None s.earlier) (y ∷ since) f.none)

-- three multiframes end in the history as they do in the octets since the last restart
pub whole-since : (history earlier since : List ℕ) (octet : ℕ) → history ≡ earlier ++ since → 1488 ≤ length since
    → is_whole (history ++ octet ∷ []) (length history - 1488) ≡ is_whole (since ++ octet ∷ []) (length since - 1488)
whole-since history earlier since x e long =
    let at : length (earlier ++ since) - 1488 ≡ length earlier + (length since - 1488)
    = omega (arith, length-append earlier since) in
    ap (λ c. is_whole (c ++ x ∷ []) (length c - 1488)) e
    ∙ ap (is_whole ((earlier ++ since) ++ x ∷ [])) at
    ∙ ap (λ c. is_whole c (length earlier + (length since - 1488))) (append_assoc earlier since (x ∷ []))
    ∙ whole-behind earlier (since ++ x ∷ []) (length since - 1488)

-- a search with these octets
module _ (seen alone pass first : ℕ) (history : List ℕ) (x : ℕ) (s : Stands (Searching seen alone) pass first history)
  where
    -- how many they are, by those since the last restart
    all-since : length history ≡ length s.earlier + length s.since
    all-since = ap length s.whole ∙ length-append s.earlier s.since

    -- enough for three multiframes
    pub searched-long : 1488 ≤ seen → 1488 ≤ length history
    searched-long enough = grind (arith, all-since)

    -- how many came since the last restart
    enough-since : 1488 ≤ seen → 1488 ≤ length s.since
    enough-since enough = let n = s.fields.1.counted in omega arith

    -- one more, too few for three multiframes
    pub stands-few : seen < 1488 → Stands (Searching (seen + 1) 0) 0 first (history ++ x ∷ [])
    stands-few few =
        stands-more (Searching seen alone) (Searching (seen + 1) 0) pass 0 first history x s
        (refl, searching-few seen alone s.since x s.fields.1 few)

    -- one behind three
    pub stands-whole : 1488 ≤ seen → is_whole (history ++ x ∷ []) (length history - 1488) ≡ true
        → (nat_le 1984 seen && nat_le 495 alone) ≡ false
        → Stands (Searching (min seen 1983 + 1) 0) 0 first (history ++ x ∷ [])
    stands-whole enough whole few =
        stands-more (Searching seen alone) (Searching (min seen 1983 + 1) 0) pass 0 first history x s (
          refl,
          searching-whole seen alone s.since x s.fields.1 enough
              (sym (whole-since history s.earlier s.since x s.whole (enough-since enough)) ∙ whole) (too_few few),
        )
      where
        too_few : (nat_le 1984 seen && nat_le 495 alone) ≡ false → (seen < 1984) ⊎ (alone < 495)
        too_few e = elim (and_cases (nat_le 1984 seen) _ e) [
          | inl a ↦ inl (leb-false 1984 seen a)
          | inr b ↦ inr (leb-false 495 alone b)
        ]

    -- and one that is not
    pub stands-other : 1488 ≤ seen → is_whole (history ++ x ∷ []) (length history - 1488) ≡ false
        → Stands (Searching (min seen 1983 + 1) (min alone 494 + 1)) 0 first (history ++ x ∷ [])
    stands-other enough other =
        let last = sym (whole-since history s.earlier s.since x s.whole (enough-since enough)) ∙ other in
        stands-more (Searching seen alone) (Searching (min seen 1983 + 1) (min alone 494 + 1)) pass 0 first history x
        s (refl, searching-other seen alone s.since x s.fields.1 enough last)

    -- slot 16 is found
    pub stands-found : (place late : ℕ) → 1984 ≤ seen → 495 ≤ alone
        → is_whole (history ++ x ∷ []) (length history - 1488) ≡ true → place ≡ (first + length history) % 31
        → late ≡ delay place → Stands (Aligned 0 false true late) 30 first (history ++ x ∷ [])
    stands-found place late enough apart whole at is =
        let long : 1488 ≤ seen = omega arith in
        let n = s.fields.1.counted in
        let l = all-since in
        let p = length_push history x in
        let f = searching-found seen alone s.since x s.fields.1 enough apart
        (sym (whole-since history s.earlier s.since x s.whole (enough-since long)) ∙ whole) in
        let same : place % 31 ≡ (first + (length (history ++ x ∷ []) - length f.0.aligned)) % 31 = omega arith in
        stands-more (Searching seen alone) (Aligned 0 false true late) pass 30 first history x s
        (f.0, is ∙ ap (λ n. (46 - n) % 31) same)

-- what is returned in a search
pub shown-searched : (seen alone pass first idle place : ℕ) (before : List ℕ) (octet : ℕ)
    → Stands (Searching seen alone) pass first (before ++ octet ∷ []) → place ≡ (first + length before) % 31
    → slots_reply idle first before octet ≡ silence idle (place + 1)
shown-searched seen alone pass first idle place before x s at =
    cc (age-searched seen alone pass first (before ++ x ∷ []) (length before) (sym (length_push before x)) s)

-- and while slot 16 is followed
pub shown-followed : (frame pass : ℕ) (wrong zero : Bool) (late first idle at : ℕ) (memory before : List ℕ) (octet : ℕ)
    → Stands (Aligned frame wrong zero late) pass first (before ++ octet ∷ [])
    → at % 2048 ≡ length (before ++ octet ∷ []) % 2048
    → ((position : ℕ) → position < length (before ++ octet ∷ []) → length (before ++ octet ∷ []) ≤ position + 2048
    → slice_index memory (position % 2048) ≡ slice_index (before ++ octet ∷ []) position)
    → slice_index memory ((at + (2047 - late)) % 65536 % 2048) ≡ slots_reply idle first before octet
shown-followed frame pass wrong zero late first idle at memory before x s is kept =
    let c = before ++ x ∷ [] in
    let p = length_push before x in
    let a = s.fields.0 in
    let l : length c ≡ length s.earlier + length s.since = ap length s.whole ∙ length-append s.earlier s.since in
    let m : length s.since ≡ length a.skipped + length a.aligned
    = ap length a.whole ∙ length-append a.skipped a.aligned in
    let long = found-within a.aligned 0 a.fields.run.found in
    let from : first + (length c - length a.aligned) ≡ first + (length before - (length a.aligned - 1)) = omega arith in
    let d : late ≡ delay (first + (length before - (length a.aligned - 1))) = s.fields.1 ∙ ap delay from in
    let i : (at + (2047 - late)) % 65536 % 2048 ≡ (length before - late) % 2048 = omega arith in
    ap (slice_index memory) i ∙ kept (length before - late) (omega arith) (omega arith)
    ∙ ap (λ n. slice_index c (length before - n)) d
    ∙ ap (shown_at idle first c (length before))
    (sym (age-followed frame pass wrong zero late first c (length before) (sym p) s))

-- the history with the octet, if its phase is that with the octet
pub history-more : (mover next : SlotMover) (first : ℕ) (history : List ℕ) (octet index place : ℕ)
    → HasHistory mover first history → next.memory ≡ mover.memory → next.at ≡ mover.at → next.place ≡ mover.place
    → Stands next.phase next.pass first (history ++ octet ∷ []) → index ≡ next.at % 2048
    → (next.place < 31 → place ≡ (next.place + 1) % 31)
    → HasHistory (record next {
      memory = slice_set next.memory index octet;
      at = (next.at + 1) % 65536;
      place = place;
    }) first (history ++ octet ∷ [])
history-more mover next first history x index place h m a p since here after =
    search (rules, length_push, length-set, kept-octet)

-- Others are not delayed in a search.
pub late-searched : (seen alone pass first : ℕ) (history : List ℕ) → Stands (Searching seen alone) pass first history
    → None ≡ late_after first history
unfolding alignments_from
late-searched seen alone pass first [] s = refl
late-searched seen alone pass first (x ∷ history) s =
    cc (age-searched seen alone pass first (x ∷ history) ((length (x ∷ history)) - 1) (omega arith) s)

-- While slot 16 is followed they are by what the phase has.
pub late-followed : (frame pass : ℕ) (wrong zero : Bool) (late first : ℕ) (history : List ℕ)
    → Stands (Aligned frame wrong zero late) pass first history → Some late ≡ late_after first history
late-followed frame pass wrong zero late first history s =
    let a = s.fields.0 in
    let l : length history ≡ length s.earlier + length s.since = ap length s.whole ∙ length-append s.earlier s.since in
    let m : length s.since ≡ length a.skipped + length a.aligned
    = ap length a.whole ∙ length-append a.skipped a.aligned in
    let long = found-within a.aligned 0 a.fields.run.found in
    let same : length a.aligned ≡ suc (length a.aligned - 1) = omega arith in
    ap Some (s.fields.1 ∙ ap (λ (k : ℕ). delay (first + (length history - k))) same)
    ∙ sym (ap (option_map (λ (age : ℕ). delay (first + (length history - suc age))))
    (age-followed frame pass wrong zero late first history (length history - 1) (omega arith) s))
