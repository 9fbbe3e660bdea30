use Rattle.std.proofs.Common.{◌∙◌, arith, sym}
use Rattle.log_files.proofs.Heads.{area_of, none_without_head, of_head}
use Rattle.log_files.proofs.area.area_in.Goals as goal
use Rattle.log_files.proofs.area.area_in.Goals.{then-octets-len-via-then-octets-len}
use Rattle.log_files.proofs.area.area_in.Goals.{then-octets-len-via-else-octets-len+then-adler_of-head}

pub returns-in_err-head-clause-none : goal.returns-in_err-head-clause-none
returns-in_err-head-clause-none c = rw c.from_residual.ensures (none_without_head c.in_err-head.ensures.none)

pub returns-then-octets-len-clause-none : goal.returns-then-octets-len-clause-none
returns-then-octets-len-clause-none c turn octets a =
    let rest = c.split_at.ensures.back in
    let is = of_head c.in_ok-head.ensures.some a in
    let long = is.long in
    elim c.then-octets-len.branch [
      | then-octets-len-via-then-octets-len w ↦ let short = rw rest at w.if-octets-len.true in absurd (omega arith)
      | then-octets-len-via-else-octets-len+then-adler_of-head w ↦
          w.if-adler_of-head.true (w.adler_of.ensures ∙ rw rest is.same)
    ]

pub returns-clause-some : goal.returns-clause-some
returns-clause-some c = rw c.split_at.ensures.back (area_of _ _ _ _ c.in_ok-head.ensures.some
    (rw c.split_at.ensures.back at c.if-octets-len.false)
    (rw c.split_at.ensures.back at (sym c.adler_of.ensures ∙ c.if-adler_of-head.false)))
