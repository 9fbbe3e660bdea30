-- The octets that a machine returns, one for each that it receives, by those received before.
use Rattle.std.specs.Prelude.{ℕ, List, [], ◌∷◌, ◌++◌}

-- The octets returned after a history, given the reply to the next one.
unfoldable pub replies_after : (List ℕ → ℕ → ℕ) → List ℕ → List ℕ → List ℕ
replies_after reply before [] = []
replies_after reply before (octet ∷ octets) =
    reply before octet ∷ replies_after reply (before ++ octet ∷ []) octets

-- The octets returned for a whole stream.
abbrev pub stream_replies : (List ℕ → ℕ → ℕ) → List ℕ → List ℕ
stream_replies reply octets = replies_after reply [] octets
