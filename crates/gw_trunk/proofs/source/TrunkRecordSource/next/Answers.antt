use Rattle.std.proofs.Math.Logic.{∥∥₁_map}
use Rattle.gw_trunk.proofs.Cutting.{read-cut}
use Rattle.gw_trunk.proofs.source.TrunkRecordSource.next.Goals as goal

pub invariant_of-self : goal.invariant_of-self
invariant_of-self g c = record {
  woven = ∥∥₁_map c.args.self.now.woven
      (λ w. read-cut _ _ _ _ _ _ _ c.in-Ok.got w c.in-Ok.ensures.reads c.log_first.ensures);
  in_turn = c.in-Ok.ensures.turn;
}
