use Rattle.gw_records.proofs.Common.{◌++◌, take, ◌∙◌}
use Rattle.gw_records.proofs.Writes.{Appends-join, split_more, took_some}
use Rattle.gw_records.proofs.writing.write_all.Goals as goal

pub loop-rest-preserved : goal.loop-rest-preserved
loop-rest-preserved g c =
    let w = c.loop-rest.invariant.written in
    let rest = c.loop-rest.rest.now in
    let n = c.in-Ok.n in
    record {
      written = (
        w.0 ++ take n rest,
        split_more _ _ rest n c.in-Ok.ensures.bound w.1,
        Appends-join _ _ _ _ _ w.2
            c.in-Ok.ensures.takes,
      );
      same = took_some n _ _ _ c.if-n-gt0.true c.in-Ok.ensures.counts ∙ c.loop-rest.invariant.same;
    }
