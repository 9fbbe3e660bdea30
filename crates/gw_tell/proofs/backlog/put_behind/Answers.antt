use Rattle.std.proofs.Common.{◌≡◌, ◌∙◌, length, take, ap, arith, take_all, refl}
use Rattle.gw_records.proofs.Buffers.{behind}
use Rattle.gw_tell.proofs.backlog.put_behind.Goals as goal

pub returns-clause-front : goal.returns-clause-front
returns-clause-front c =
    let n = length c.args.octets.now in
    let copied = c.copy_from_slice.ensures.after in
    let all : take n c.args.octets.now ≡ c.args.octets.now = take_all n c.args.octets.now (omega arith) in
    behind c.args.room.now c.copy_from_slice.new.self _ c.args.filled n (omega (arith, c.requires))
    (omega (arith, ap length copied)) ∙ rw (copied, all) refl
