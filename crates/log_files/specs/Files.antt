-- What the system does with files (module `file_store`). Std says nothing of it, so each of these relations
-- holds of all; but each is unfolded only where the system is asked, so for all others it holds of what was
-- done.
use Rattle.std.specs.Prelude.{⊤, ℕ, List}
use Rattle.std.specs.declared.fs.File.{File}

-- a file took these octets, all of them, from this octet on
unfoldable pub SystemPutsAt : File → ℕ → List ℕ → Type 0
SystemPutsAt file at octets = ⊤

-- .. or that failed
unfoldable pub SystemFailsToPutAt : File → ℕ → List ℕ → Type 0
SystemFailsToPutAt file at octets = ⊤
