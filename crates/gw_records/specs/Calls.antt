-- What calls of std's readers and writers were given and returned (module `streams`). Std says nothing of it,
-- so these relations hold of every answer; but they are unfolded only in the functions that make a call, so
-- for all others they hold only of answers received.
use Rattle.std.specs.Prelude.{⊤, ℕ, List, Result, Err}
use Rattle.std.specs.declared.io.ErrorKind.{ErrorKind}

-- the last read of a reader returned this
unfoldable pub SystemGave : {R : Type 0} → R → Result ℕ ErrorKind → Type 0
SystemGave reader read = ⊤

-- .. and was offered room for this many octets
unfoldable pub SystemWasOffered : {R : Type 0} → R → ℕ → Type 0
SystemWasOffered reader room = ⊤

-- the last write to a writer returned this
unfoldable pub SystemTookSome : {W : Type 0} → W → Result ℕ ErrorKind → Type 0
SystemTookSome writer written = ⊤

-- .. and was of these octets
unfoldable pub SystemWasGiven : {W : Type 0} → W → List ℕ → Type 0
SystemWasGiven writer octets = ⊤

-- the last read of a reader failed
abbrev pub HasFailedToRead : {R : Type 0} → R → Type 0
HasFailedToRead reader = (kind : ErrorKind) × SystemGave reader (Err kind)

-- the last write to a writer failed
abbrev pub HasFailedToWrite : {W : Type 0} → W → Type 0
HasFailedToWrite writer = (kind : ErrorKind) × SystemTookSome writer (Err kind)
