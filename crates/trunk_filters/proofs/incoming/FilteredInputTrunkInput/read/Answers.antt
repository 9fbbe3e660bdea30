use Rattle.std.proofs.Math.Logic.{∥∥₁_map}
use Rattle.std.proofs.Common.{drop}
use Rattle.trunk_filters.proofs.Returned.{front-is}
use Rattle.trunk_filters.proofs.incoming.FilteredInputTrunkInput.read.Goals as goal

pub invariant_of-self : goal.invariant_of-self
invariant_of-self g c =
    let s = c.args.self.now in
    let n = c.in-Ok-Octets.n in
    let came = rw c.in-Ok-Octets.field-0-is at c.in-Ok-Octets.ensures.came in
    let bound = rw c.in-Ok-Octets.field-0-is at c.in-Ok-Octets.ensures.bound in
    let front = front-is n c.filter_buffer.new.octets (drop n c.read.new.room) c.read.new.room
    c.filter_buffer.ensures.len bound.1 in
    record {
      filtered = ∥∥₁_map s.filtered (λ t.
          rw (c.append.ensures, front, came) (c.filter_buffer.ensures.stands _ _ t));
    }
