use Rattle.std.proofs.Common.{◌-◌, ℕ, List, take, drop, ap, ◌∙◌, refl, arith}
use Rattle.gw_records.proofs.Buffers.{moved}
use Rattle.gw_tell.specs.Backlog.{waiting}
use Rattle.gw_tell.proofs.backlog.Backlog.compact.Goals as goal

pub returns-clause-waits : goal.returns-clause-waits
unfolding waiting
returns-clause-waits c =
    let s = c.args.self.now in
    ap (λ (xs : List ℕ). drop 0 (take (s.filled - s.start) xs))
    (rw c.deref_mut.ensures.value at c.copy_within.ensures.after)
    ∙ moved s.room.value s.start s.filled _ (omega (arith, s.order)) (omega (arith, s.len, s.within)) refl
