-- Octets in a buffer.
use Rattle.gw_records.proofs.Common.{◌≡◌, ◌+◌, ◌-◌, ◌<◌, ◌≤◌, ℕ, true, List, ◌++◌, length, take, drop, sym, ap, ◌∙◌}
use Rattle.gw_records.proofs.Common.{length-take-le, length-drop, arith, copy_within, Some, slice_index, Reader, held}
use Rattle.gw_records.proofs.Common.{take_at, take-append-le, drop-take, paste, take-append-add, common_steps}
use Rattle.gw_records.proofs.Common.{AcceptedKinds, RecordsEnd, end_of, is_open, is_cut}
use Rattle.std.proofs.lemmas.List.Edits.{take-paste}
use Rattle.gw_records.specs.declared.records.RecordsEnd.TheVariants as endings
use Rattle.gw_records.proofs.Firsts.{found_in}

-- moved to the front
pub moved : (xs : List ℕ) (start filled n : ℕ) → start ≤ filled → filled ≤ length xs → n ≡ filled - start
    → take n (copy_within xs start filled 0) ≡ drop start (take filled xs)
moved xs start filled n h k e =
    let none : n ≡ 0 + (filled - start) = omega arith in
    let all : start + (filled - start) ≡ filled = omega arith in
    let cut = sym (drop-take start (filled - start) xs) in
    ap (λ (m : ℕ). take m (paste xs 0 (drop start xs) (filled - start))) none
    ∙ take-paste xs 0 (drop start xs) (filled - start) (omega arith) (omega (arith, length-drop start xs))
    ∙ rw all at cut

-- read behind what was there
pub behind : (xs buf post : List ℕ) (filled n : ℕ) → filled ≤ length xs → n ≤ length buf
    → take (filled + n) (take filled xs ++ (buf ++ post)) ≡ take filled xs ++ take n buf
behind xs buf post filled n q r =
    rw (length-take-le filled xs q, take-append-le n buf post r) at (take-append-add (take filled xs) (buf ++ post) n)

-- if more octets may matter, the octets are few
pub open_is_short : (kinds : AcceptedKinds) (octets : List ℕ) (ending : RecordsEnd)
    → ((i : ℕ) → slice_index octets i < 256)
    → end_of kinds octets ≡ Some ending → is_open ending ≡ true → length octets < 65540
unfolding is_cut
open_is_short kinds octets endings.End bytes e o = grind (arith, found_in kinds octets (Some endings.End) e)
open_is_short kinds octets endings.Truncated bytes e o =
    grind (arith, found_in kinds octets (Some endings.Truncated) e, bytes 2, bytes 3)
open_is_short kinds octets _ bytes e o = cc

-- what is held fits the buffer
pub held_fits : (r : Reader) → length (held r) ≤ 131078
unfolding held
held_fits r = let f = r.within in grind (arith, common_steps)

-- the first items of two lists, as many as the first list has, are that list
pub kept : (len : ℕ) (xs ys : List ℕ) → length xs ≡ len → take len (xs ++ ys) ≡ xs
kept len xs ys e = take_at xs ys len e
