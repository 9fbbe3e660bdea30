use Rattle.std.proofs.Common.{◌≡◌, ◌≤◌, ◌∙◌, length, take, arith, length-take}
use Rattle.std.proofs.lemmas.List.{drop-append-le}
use Rattle.gw_tell.specs.Backlog.{waiting}
use Rattle.gw_tell.proofs.backlog.Backlog.append.Goals as goal

pub returns : goal.returns
unfolding waiting
returns c =
    let s = c.args.self.now in
    let same : c.as_mut_slice.result.now ≡ s.room.value = c.as_mut_slice.ensures.value ∙ c.deref_mut.ensures.value in
    let within : s.start ≤ length (take s.filled s.room.value) = omega
    (arith, s.order, s.within, s.len, length-take s.filled s.room.value) in
    rw (c.put_behind.ensures.front, same) (drop-append-le s.start _ c.args.octets.now within)
