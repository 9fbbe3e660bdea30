-- An aligner with a history, one more window.
use Rattle.std.proofs.Common.{rules, ◌≡◌, ℕ, ◌+◌, ◌<◌, ◌≤◌, ◌%◌, List, [], ◌∷◌, ◌++◌, length, map, true, false, None}
use Rattle.std.proofs.Common.{sym, ap, ◌∙◌, arith, append_assoc, subst}
use Rattle.std.specs.Prelude.{slice_set}
use Rattle.std.proofs.lemmas.List.{length-append, append-nil}
use Rattle.g704_framing.specs.Alignment.{alignments_from}
use Rattle.g704_framing.specs.Restart.{RestartsAfter, last_of, moved}
use Rattle.g704_framing.proofs.Standings.{since-nothing, since-more, since-anew}
use Rattle.g704_bits.specs.Search.{is_confirmed}
use Rattle.g704_bits.specs.Loss.{is_lost_at, bit_alignment}
use Rattle.g704_bits.specs.Bits.{offset_of, offset_after}
use Rattle.g704_bits.specs.declared.aligner.SyncState.{SyncState}
use Rattle.g704_bits.specs.declared.aligner.SyncState.TheVariants.{Hunting, Aligned}
use Rattle.g704_bits.specs.Aligner.{IsHunting, IsAlignedRun, Describes, FollowsAlignment, HasHistory, next_seen}
use Rattle.g704_bits.specs.Aligner.{confirms}
use Rattle.g704_bits.proofs.Framing.{confirmed-append}
use Rattle.g704_bits.proofs.Spans.{none-yet, one-stands, one-lost, over-lost, offset-since}
use Rattle.g704_bits.proofs.Steps.{other-more}
use Rattle.g704_bits.proofs.Hunts.{hunting-nothing, hunting-more, aligned-found}

-- the offset while nothing was found since the last restart
offset-quiet : (earlier c : List ℕ) (over : RestartsAfter bit_alignment None earlier)
    → ((k : ℕ) → is_confirmed c k ≡ false) → offset_after (earlier ++ c) ≡ offset_of 7 over.earlier
offset-quiet earlier c over none = cc (offset-since earlier c over, none-yet (last_of None earlier) c none)

-- in alignment
offset-stands : (earlier sk al : List ℕ) (age ws wd : ℕ) (over : RestartsAfter bit_alignment None earlier)
    → IsAlignedRun age ws wd al → ((k : ℕ) → k < length sk → is_confirmed (sk ++ al) k ≡ false)
    → offset_after (earlier ++ (sk ++ al)) ≡ (length earlier + length sk) % 8
offset-stands earlier sk al age ws wd over h none =
    cc (offset-since earlier (sk ++ al) over, one-stands (last_of None earlier) sk al age ws wd h none)

-- if it is lost by the last window
offset-lost : (earlier sk al : List ℕ) (x age ws wd : ℕ) (over : RestartsAfter bit_alignment None earlier)
    → IsAlignedRun age ws wd al → ((k : ℕ) → k < length sk → is_confirmed (sk ++ al) k ≡ false)
    → is_lost_at (al ++ x ∷ []) (length al) ≡ true
    → offset_after (earlier ++ ((sk ++ al) ++ x ∷ [])) ≡ (length earlier + length sk) % 8
unfolding alignments_from
offset-lost earlier sk al x age ws wd over h none third =
    offset-since earlier ((sk ++ al) ++ x ∷ []) over
    ∙ ap (λ ds. offset_of (offset_of 7 over.earlier) (map (moved (length earlier)) ds))
    (ap (λ s. alignments_from bit_alignment (last_of None earlier) s 0) (sym (append-nil ((sk ++ al) ++ x ∷ [])))
    ∙ one-lost (last_of None earlier) sk al x age ws wd h none third [])

-- what comes behind an alignment confirms nothing before it
none-longer : (sk al : List ℕ) (x age ws wd : ℕ) → IsAlignedRun age ws wd al
    → ((k : ℕ) → k < length sk → is_confirmed (sk ++ al) k ≡ false)
    → (k : ℕ) → k < length sk → is_confirmed (sk ++ (al ++ x ∷ [])) k ≡ false
none-longer sk al x age ws wd h none k lt = search (rules, length-append, append_assoc, confirmed-append)

-- a history with one more window, by the windows since the last restart
one_more : (history earlier since : List ℕ) (x : ℕ) → history ≡ earlier ++ since
    → offset_after (history ++ x ∷ []) ≡ offset_after (earlier ++ (since ++ x ∷ []))
one_more history earlier since x e =
    ap (λ s. offset_after (s ++ x ∷ [])) e ∙ ap offset_after (append_assoc earlier since (x ∷ []))

-- no window came
pub stands-new : (memory : List ℕ) → length memory ≡ 512
    → HasHistory (record { phase = Hunting 0; offset = 7; memory = memory }) []
unfolding offset_after alignments_from
stands-new memory l = search (rules, since-nothing, hunting-nothing)

-- nothing is found by the window
pub stands-hunting : (seen o : ℕ) (memory history : List ℕ) (x : ℕ)
    → HasHistory (record { phase = Hunting seen; offset = o; memory = memory }) history
    → confirms seen memory x ≡ false
    → HasHistory (record { phase = Hunting (next_seen seen); offset = o; memory = slice_set memory (seen % 512) x })
    (history ++ x ∷ [])
stands-hunting seen o memory history x s quiet =
    let h = s.since in
    let more = hunting-more seen memory h.since x h.fields quiet in
    record {
      since = since-more bit_alignment
          (λ before windows. Describes (Hunting (next_seen seen)) (slice_set memory (seen % 512) x) windows)
          history h.earlier h.since x h.whole h.over more;
      offset = s.offset ∙ ap offset_after h.whole ∙ offset-quiet h.earlier h.since h.over h.fields.none
          ∙ sym (offset-quiet h.earlier (h.since ++ x ∷ []) h.over more.none)
          ∙ sym (one_more history h.earlier h.since x h.whole);
      room = more.room;
    }

-- alignment is found by it
pub stands-found : (seen o bit : ℕ) (memory history : List ℕ) (x : ℕ)
    → HasHistory (record { phase = Hunting seen; offset = o; memory = memory }) history
    → confirms seen memory x ≡ true → bit ≡ length history % 8
    → HasHistory (record { phase = Aligned 1 0 0; offset = bit; memory = memory }) (history ++ x ∷ [])
stands-found seen o bit memory history x s sure at =
    let h = s.since in
    let found = aligned-found seen memory h.since x h.fields sure in
    let a = found.0 in
    let l : length history ≡ length h.earlier + length h.since = ap length h.whole ∙ length-append h.earlier h.since in
    let here : bit ≡ (length h.earlier + length a.skipped) % 8 = omega arith in
    let none : (k : ℕ) → k < length a.skipped → is_confirmed (a.skipped ++ a.aligned) k ≡ false
    = λ k lt. ap (λ s. is_confirmed s k) (sym a.whole) ∙ a.none k lt in
    record {
      since = since-more bit_alignment (λ before windows. Describes (Aligned 1 0 0) memory windows)
          history h.earlier h.since x h.whole h.over a;
      offset = here
          ∙ sym (offset-stands h.earlier a.skipped a.aligned 1 0 0 h.over a.fields none)
          ∙ sym (one_more history h.earlier h.since x h.whole
          ∙ ap (λ s. offset_after (h.earlier ++ s)) a.whole);
      room = h.fields.room;
    }

-- an alignment goes on, or is lost
pub stands-aligned : (age ws wd o : ℕ) (memory history : List ℕ) (x : ℕ) (after : SyncState)
    → HasHistory (record { phase = Aligned age ws wd; offset = o; memory = memory }) history
    → ((windows : List ℕ) → IsAlignedRun age ws wd windows → FollowsAlignment after windows x)
    → HasHistory (record { phase = after; offset = o; memory = memory }) (history ++ x ∷ [])
stands-aligned age ws wd o memory history x (Aligned age' ws' wd') s follows =
    let h = s.since in
    let a = h.fields in
    let next = follows a.aligned a.fields in
    let none : (k : ℕ) → k < length a.skipped → is_confirmed (a.skipped ++ a.aligned) k ≡ false
    = λ k lt. ap (λ s. is_confirmed s k) (sym a.whole) ∙ a.none k lt in
    let whole : h.since ++ x ∷ [] ≡ a.skipped ++ (a.aligned ++ x ∷ [])
    = ap (λ s. s ++ x ∷ []) a.whole ∙ append_assoc a.skipped a.aligned (x ∷ []) in
    let more : (k : ℕ) → k < length a.skipped → is_confirmed (a.skipped ++ (a.aligned ++ x ∷ [])) k ≡ false
    = λ k lt. none-longer a.skipped a.aligned x age ws wd a.fields none k lt in
    record {
      since = since-more bit_alignment (λ before windows. Describes (Aligned age' ws' wd') memory windows)
          history h.earlier h.since x h.whole h.over (record {
            skipped = a.skipped;
            aligned = a.aligned ++ x ∷ [];
            whole = whole;
            none = λ k lt. ap (λ s. is_confirmed s k) whole ∙ more k lt;
            fields = next;
          });
      offset = s.offset ∙ ap offset_after h.whole ∙ ap (λ s. offset_after (h.earlier ++ s)) a.whole
          ∙ offset-stands h.earlier a.skipped a.aligned age ws wd h.over a.fields none
          ∙ sym (offset-stands h.earlier a.skipped (a.aligned ++ x ∷ []) age' ws' wd' h.over next more)
          ∙ sym (one_more history h.earlier h.since x h.whole
          ∙ ap (λ s. offset_after (h.earlier ++ s)) whole);
      room = s.room;
    }
stands-aligned age ws wd o memory history x (Hunting seen) s follows =
    let h = s.since in
    let a = h.fields in
    let lost = follows a.aligned a.fields in
    let none : (k : ℕ) → k < length a.skipped → is_confirmed (a.skipped ++ a.aligned) k ≡ false
    = λ k lt. ap (λ s. is_confirmed s k) (sym a.whole) ∙ a.none k lt in
    let whole : h.since ++ x ∷ [] ≡ (a.skipped ++ a.aligned) ++ x ∷ [] = ap (λ s. s ++ x ∷ []) a.whole in
    let over : RestartsAfter bit_alignment (last_of None h.earlier) (h.since ++ x ∷ [])
    = subst (RestartsAfter bit_alignment (last_of None h.earlier)) (sym whole)
    (over-lost (last_of None h.earlier) a.skipped a.aligned x age ws wd a.fields none lost.1) in
    record {
      since = since-anew bit_alignment (λ before windows. Describes (Hunting seen) memory windows)
          history h.earlier h.since x h.whole h.over over
          (subst (λ n. IsHunting n memory []) (sym lost.0) (hunting-nothing memory s.room));
      offset = s.offset ∙ ap offset_after h.whole ∙ ap (λ s. offset_after (h.earlier ++ s)) a.whole
          ∙ offset-stands h.earlier a.skipped a.aligned age ws wd h.over a.fields none
          ∙ sym (offset-lost h.earlier a.skipped a.aligned x age ws wd h.over a.fields none lost.1)
          ∙ sym (one_more history h.earlier h.since x h.whole
          ∙ ap (λ s. offset_after (h.earlier ++ s)) whole);
      room = s.room;
    }

-- Windows between those of slot 0 keep an alignment.
pub stands-skipped : (x : ℕ) (xs : List ℕ) (age ws wd o : ℕ) (memory history : List ℕ) → 0 < age % 256
    → age % 256 + length (x ∷ xs) ≤ 256
    → HasHistory (record { phase = Aligned age ws wd; offset = o; memory = memory }) history
    → HasHistory (record { phase = Aligned ((age + length (x ∷ xs)) % 512) ws wd; offset = o; memory = memory })
    (history ++ x ∷ xs)
stands-skipped x [] age ws wd o memory history lt le s =
    stands-aligned age ws wd o memory history x (Aligned ((age + 1) % 512) ws wd) s
    (λ windows h. other-more windows x age ws wd h (λ e. absurd (omega (arith, e))) (λ e. absurd (omega (arith, e))))
stands-skipped x (y ∷ xs) age ws wd o memory history lt le s =
    let first = stands-aligned age ws wd o memory history x (Aligned ((age + 1) % 512) ws wd) s
    (λ windows h. other-more windows x age ws wd h (λ e. absurd (omega (arith, e))) (λ e. absurd (omega (arith, e)))) in
    let all = stands-skipped y xs ((age + 1) % 512) ws wd o memory (history ++ x ∷ []) (omega arith) (omega arith) first in
    let same : ((age + 1) % 512 + length (y ∷ xs)) % 512 ≡ (age + length (x ∷ (y ∷ xs))) % 512 = omega arith in
    rw (← same, ← append_assoc history (x ∷ []) (y ∷ xs)) all

-- So do the eight windows of an octet.
pub stands-octet-skipped : (age ws wd o next : ℕ) (memory history windows : List ℕ) → 0 < age % 256
    → age % 256 ≤ 248 → next ≡ (age + 8) % 512 → length windows ≡ 8
    → HasHistory (record { phase = Aligned age ws wd; offset = o; memory = memory }) history
    → HasHistory (record { phase = Aligned next ws wd; offset = o; memory = memory }) (history ++ windows)
stands-octet-skipped age ws wd o next memory history [] lt le is eight s = absurd (omega (arith, eight))
stands-octet-skipped age ws wd o next memory history (x ∷ xs) lt le is eight s =
    grind (arith, stands-skipped x xs age ws wd o memory history lt (omega (arith, eight)) s)
