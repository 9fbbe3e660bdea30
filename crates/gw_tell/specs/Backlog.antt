-- Octets that wait for a client (module `backlog`).
use Rattle.std.specs.Prelude.{ℕ, List, take, drop}
use Rattle.gw_tell.specs.declared.backlog.Backlog.{Backlog}

-- the octets that wait
unfoldable pub waiting : Backlog → List ℕ
waiting b = drop b.start (take b.filled b.room.value)
