use Rattle.std.proofs.Common.{refl}
use Rattle.std.proofs.Math.Logic.{∥∥₁_map}
use Rattle.gw_session.proofs.Ends.{either_way}
use Rattle.run_trunk.proofs.Carried.{carried}
use Rattle.run_trunk.proofs.serving.serve_trunk.Goals as goal

pub returns-clause-carries : goal.returns-clause-carries
returns-clause-carries g c = record {
  holds = refl;
  served = either_way _ _ c.serve_logged.result c.serve_logged.ensures.ok c.serve_logged.ensures.fault;
  carried = λ config before new. ∥∥₁_map c.serve_logged.new.line.source.woven (λ w.
      carried _ _ config before c.serve_logged.result _ _ _ _ _ _
      (record { unread = c.requires.unread.2; read = refl; untaken = c.requires.untaken.1; took = refl })
      (record {
        gives = w;
        went_are = c.serve_logged.new.line.sink.passed.went_are;
        told_are = c.serve_logged.new.line.told;
      }) new c.serve_logged.ensures.ok c.serve_logged.ensures.fault);
}
