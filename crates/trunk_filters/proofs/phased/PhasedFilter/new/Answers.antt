use Rattle.std.proofs.Common.{◌≤◌, ◌∙◌, [], length, sym, ap, append-nil, arith}
use Rattle.std.proofs.lemmas.List.{take-replicate, length-replicate}
use Rattle.trunk_filters.proofs.phased.PhasedFilter.new.Goals as goal

pub returns-clause-begins : goal.returns-clause-begins
returns-clause-begins g c =
    let fits : c.args.place ≤ 512 = omega (arith, c.requires.place) in
    let ones = take-replicate c.args.place 512 255 fits in (
      c.filter_buffer.new.octets,
      c.filter_buffer.ensures.len ∙ ap length ones ∙ length-replicate c.args.place 255 ∙ sym c.of.ensures,
      rw (append-nil, append-nil, c.of.ensures)
          (rw ones at (c.filter_buffer.ensures.stands [] [] c.requires.begins)),
    )
