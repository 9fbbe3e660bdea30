use Rattle.std.proofs.Common.{◌++◌, ◌∷◌, ◌∙◌, [], arith, take, map, ap, refl}
use Rattle.std.proofs.lemmas.List.{take_all}
use Rattle.g704_crc4.specs.Reporting.{Errored}
use Rattle.gw_filter.proofs.Arrivals.{arrives-next}
use Rattle.gw_filter.proofs.Sends.{sends-same, report-taken}
use Rattle.gw_filter.proofs.sending.Crc4Sender.report_all.Goals as goal

pub loop-count-preserved : goal.loop-count-preserved
loop-count-preserved c arrivals sent s =
    let before = c.loop-count.invariant arrivals sent s in
    let counts = c.args.counts.now in
    let first = arrivals ++ map Errored (take c.loop-count.count-index counts) in
    sends-same _ _ _ _ _
    (ap (λ n. first ++ Errored n ∷ []) c.from.ensures
    ∙ arrives-next Errored arrivals counts c.loop-count.count-index (omega arith)) refl
    (report-taken c.loop-count.self _ _ sent _ before (c.report.ensures _ before.bits) refl)

pub returns : goal.returns
returns c arrivals sent s =
    sends-same _ _ _ _ _
    (ap (λ xs. arrivals ++ map Errored xs) (take_all c.loop-count.count-index c.args.counts.now (omega arith))) refl
    (c.loop-count.invariant arrivals sent s)
