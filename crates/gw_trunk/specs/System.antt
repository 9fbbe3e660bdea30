-- What the system answered to calls at a client's connection (module `connection`). Std says nothing of
-- it, so these relations hold of every answer; but they are unfolded only in the functions that ask the
-- system, so for all others they hold only of answers received.
use Rattle.std.specs.Prelude.{⊤, ℕ, List, Result}
use Rattle.std.specs.declared.io.ErrorKind.{ErrorKind}

-- the last read of a client's connection returned this
unfoldable pub SystemRead : {S : Type 0} → S → Result ℕ ErrorKind → Type 0
SystemRead reader read = ⊤

-- the last write to a writer was of these octets, and returned this
unfoldable pub SystemWrote : {S : Type 0} → S → List ℕ → Result ℕ ErrorKind → Type 0
SystemWrote writer octets written = ⊤
