use Rattle.std.proofs.Common.{rules, ℤ, sym, zero-le}
use Rattle.std.specs.Int.RustNames.{int_le}
use Rattle.std.proofs.lemmas.List.Sorted.{IsPartitionPoint-from_clause}
use Rattle.g726_quant.proofs.Counting.{parted, count_first}
use Rattle.g726_quant.proofs.quantiser.quan_magnitude.Goals as goal

pub returns-clause-value : goal.returns-clause-value
returns-clause-value c =
    let xs = c.args.thresholds.now in
    let count = c.partition_point.result in
    let reached = λ (x : ℤ). int_le x c.args.dln in
    let point = IsPartitionPoint-from_clause reached xs count c.partition_point.ensures.partitioned
    (parted xs c.args.dln c.requires) (λ a r f called. search rules) in
    sym (count_first reached xs count c.partition_point.ensures.bound (λ k d few. point.0 k d zero-le few) point.1)
