use Rattle.std.proofs.Common.{rules, ◌≡◌, ◌++◌, take}
use Rattle.std.proofs.Math.Logic.{∥∥₁_map}
use Rattle.trunk_filters.proofs.Returned.{passed-on}
use Rattle.trunk_filters.proofs.outgoing.FilteredOutput.pass_on.Goals as goal

pub invariant_of-self : goal.invariant_of-self
invariant_of-self g c =
    let went : g.O.TrunkOutput.went c.write.new.self
    ≡ g.O.TrunkOutput.went c.args.self.now.outgoing ++ take c.in-Ok-Some.n c.args.octets.now = search rules in
    record {
      returned = ∥∥₁_map c.args.self.now.returned
          (passed-on _ _ _ _ _ _ _ c.requires.off c.requires.none c.append.ensures went);
    }
