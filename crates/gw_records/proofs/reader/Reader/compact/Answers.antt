use Rattle.gw_records.proofs.Common.{◌-◌, ℕ, List, take, drop, ap, ◌∙◌, refl, arith, held}
use Rattle.gw_records.proofs.Buffers.{moved}
use Rattle.gw_records.proofs.reader.Reader.compact.Goals as goal

pub returns-clause-holds : goal.returns-clause-holds
unfolding held
returns-clause-holds c =
    let s = c.args.self.now in
    ap (λ (xs : List ℕ). drop 0 (take (s.filled - s.start) xs))
    (rw c.deref_mut.ensures.value at c.copy_within.ensures.after)
    ∙ moved s.buffer.value s.start s.filled _ (omega arith) (omega (arith, s.room)) refl
