-- The octets that a machine returns, one for each.
use Rattle.std.proofs.Common.{◌≡◌, ℕ, suc, List, [], ◌∷◌, ◌++◌, length, refl, sym, ap, append_assoc, append-nil}
use Rattle.g704_framing.specs.Replies.{replies_after}

-- One octet is returned for each.
pub length-replies : (reply : List ℕ → ℕ → ℕ) (before octets : List ℕ)
    → length (replies_after reply before octets) ≡ length octets
unfolding replies_after
length-replies reply before [] = refl
length-replies reply before (x ∷ octets) = ap suc (length-replies reply (before ++ x ∷ []) octets)

-- What is returned for octets, and for others after them.
pub replies-append : (reply : List ℕ → ℕ → ℕ) (before octets others : List ℕ)
    → replies_after reply before (octets ++ others)
    ≡ replies_after reply before octets ++ replies_after reply (before ++ octets) others
unfolding replies_after
replies-append reply before [] others = ap (λ b. replies_after reply b others) (sym (append-nil before))
replies-append reply before (x ∷ octets) others =
    cc (replies-append reply (before ++ x ∷ []) octets others, append_assoc before (x ∷ []) octets)
