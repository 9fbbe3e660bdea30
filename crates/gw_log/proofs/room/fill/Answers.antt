use Rattle.std.proofs.Common.{◌+◌, ◌∙◌, ◌≡◌, arith, sym}
use Rattle.log_files.proofs.Known.{where_same, where_then}
use Rattle.gw_log.specs.Room.{FillsUpTo}
use Rattle.gw_log.proofs.Filling.{fills_none, fills_on}
use Rattle.gw_log.proofs.room.fill.Goals as goal

pub loop-at-init : goal.loop-at-init
loop-at-init g c = (
  omega arith,
  omega (arith, c.room-room.ensures, c.requires),
  c.room-room.ensures,
  c.room-room.ensures,
  where_same _ (FillsUpTo c.args.from c.args.from) (λ start. fills_none c.args.from start),
)

pub loop-at-preserved : goal.loop-at-preserved
loop-at-preserved g c = (
  omega (arith, c.loop-at.invariant.0),
  omega (arith, c.min-len.ensures, c.loop-at-test.true),
  c.loop-at.invariant.2 ∙ sym c.in_ok-write_zeros.ensures.room,
  c.loop-at.invariant.3,
  where_then (FillsUpTo c.args.from (c.loop-at.at + c.min-len.result)) c.loop-at.invariant.4
      c.in_ok-write_zeros.ensures.ok
      (λ start old new so w. fills_on _ _ _ start old new c.loop-at.invariant.0 so w),
)

pub returns : goal.returns
returns g c =
    let end : c.loop-at.at ≡ c.room-room.result = omega (arith, c.loop-at.invariant.1, c.loop-at-test.false) in
    record { ok = rw (end, c.room-room.ensures) at c.loop-at.invariant.4 }
