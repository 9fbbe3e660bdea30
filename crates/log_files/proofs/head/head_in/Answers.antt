use Rattle.std.proofs.Common.{◌≡◌, ◌∙◌, ◌++◌, ℕ, List, take, drop, ap, refl, sym, arith}
use Rattle.std.proofs.lemmas.Bool.Decides.{Decides-eqb}
use Rattle.std.proofs.lemmas.List.{take-append-drop}
use Rattle.std.proofs.lemmas.Slice.Eq.{slice_eq-Decides}
use Rattle.log_files.proofs.Heads.{reads_as}
use Rattle.log_files.proofs.head.head_in.Goals as goal

pub returns-then-content-lt-HEAD_LEN-clause-none :
    goal.returns-then-content-lt-HEAD_LEN-clause-none
returns-then-content-lt-HEAD_LEN-clause-none c turn len sum h =
    let long = (reads_as h).long in absurd (omega arith)

pub returns-then-eq-clause-some : goal.returns-then-eq-clause-some
returns-then-eq-clause-some c =
    let same = (slice_eq-Decides Decides-eqb _ _ _ c.eq.ensures).0 c.if-eq.true in
    record {
      behind = drop 24 c.args.content.now;
      content_is = sym (take-append-drop 24 c.args.content.now)
          ∙ ap (λ (xs : List ℕ). xs ++ drop 24 c.args.content.now) (same ∙ c.head_of-octets.ensures);
      turn_fits = omega arith;
      len_fits = omega arith;
      sum_fits = omega arith;
    }

pub returns-else-eq-clause-none : goal.returns-else-eq-clause-none
returns-else-eq-clause-none c turn len sum h =
    let r = reads_as h in
    let same : take 24 c.args.content.now ≡ c.head_of-octets.result =
    r.head_is ∙ sym (c.head_of-octets.ensures ∙ rw (
      c.read_u64.ensures,
      c.read_u32.ensures,
      c.read_u32-2.ensures,
      r.turn_is,
      r.len_is,
      r.sum_is,
    ) refl) in
    let equal = (slice_eq-Decides Decides-eqb _ _ _ c.eq.ensures).1 same in
    cc
