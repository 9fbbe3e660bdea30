use Rattle.std.proofs.Common.{refl}
use Rattle.log_files.specs.Area.{head_of}
use Rattle.log_files.proofs.head.head_of.Goals as goal

pub returns : goal.returns
unfolding head_of
returns c = rw (
  c.write_u32-3.ensures,
  c.adler_of-sum.ensures,
  c.write_u32-2.ensures,
  c.write_u32.ensures,
  c.write_u64.ensures,
  c.copy_from_slice.ensures.after,
) refl
