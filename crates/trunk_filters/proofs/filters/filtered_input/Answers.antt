use Rattle.trunk_filters.proofs.Filtered.{aligner-begins}
use Rattle.trunk_filters.proofs.filters.filtered_input.Goals as goal

pub new-aligned-requires-clause-begins : goal.new-aligned-requires-clause-begins
new-aligned-requires-clause-begins g c =
    aligner-begins c.new.result.filter c.args.aligner c.new.ensures c.requires.aligner
