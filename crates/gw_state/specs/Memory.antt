-- Want of memory.
use Rattle.std.specs.Prelude.{⊤}

-- Memory was asked for and refused. Std says nothing of that, so it always holds; but it is unfolded only in
-- functions that do nothing but ask for memory, so for all others it holds of what was refused.
unfoldable pub MemoryIsRefused : Type 0
MemoryIsRefused = ⊤
