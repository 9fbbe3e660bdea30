-- Clients that are let in one after another.
use Rattle.std.proofs.Common.{◌≡◌, ◌⊎◌, inl, inr, ◌∙◌, ◌+◌, ◌<◌, ◌++◌, ℕ, List, None, refl, sym, ap, arith, [], ◌∷◌}
use Rattle.std.proofs.Common.{zero, suc, length, length-append}
use Rattle.mio.specs.declared.net.uds.stream.UnixStream.{UnixStream}
use Rattle.gw_switch.specs.declared.gateway.Gateway.{Gateway}
use Rattle.gw_tell.specs.declared.place.ClientSlot.{ClientSlot}
use Rattle.gw_tell.specs.declared.teller.Teller.{Teller}
use Rattle.gw_tell.specs.Clients.{at, AllFree, AllHaveRoom, IsOpen}
use Rattle.gw_tell.specs.Telling.{AsksDoor, LetAllIn, LetsIn, Welcomes}

-- one client was let in for each of this many connections
abbrev pub HasLetIn : Gateway → ℕ → Teller → Teller → Type 0
HasLetIn gateway turns first now = (streams : List UnixStream) × (length streams ≡ turns)
    × LetAllIn gateway streams first now

-- One more is let in.
let-more : (gateway : Gateway) (streams : List UnixStream) (stream : UnixStream)
    (first before opened after : Teller) → LetAllIn gateway streams first before → AsksDoor before opened
    → Welcomes gateway stream opened after → LetAllIn gateway (streams ++ stream ∷ []) first after
let-more gateway [] stream first before opened after all accepted one =
    (opened, after, rw all at accepted, one, refl)
let-more gateway (s ∷ streams) stream first before opened after all accepted one =
    (all.0, all.1, all.2, all.3, let-more gateway streams stream all.1 before opened after all.4 accepted one)

-- .. in the next turn
pub one-let-in : (gateway : Gateway) (turns : ℕ) (stream : UnixStream) (first before opened after : Teller)
    → HasLetIn gateway turns first before → AsksDoor before opened
    → Welcomes gateway stream opened after → HasLetIn gateway (turns + 1) first after
one-let-in gateway turns stream first before opened after (streams, count, all) accepted one = (
  streams ++ stream ∷ [],
  omega (arith, count, length-append streams (stream ∷ [])),
  let-more gateway streams stream first before opened after all accepted one,
)

-- Nobody is found at the door.
pub nobody-let-in : (gateway : Gateway) (turns : ℕ) (first now last : Teller) → turns < 8
    → HasLetIn gateway turns first now → AsksDoor now last → LetsIn gateway first last
nobody-let-in gateway turns first now last fewer (streams, count, all) nobody =
    record { streams = streams; last = now; all = all; ends = inr (omega (arith, count, fewer), nobody) }

-- All eight turns were used.
pub all-let-in : (gateway : Gateway) (turns : ℕ) (first now : Teller) → turns ≡ 8
    → HasLetIn gateway turns first now → LetsIn gateway first now
all-let-in gateway turns first now full (streams, count, all) =
    record { streams = streams; last = now; all = all; ends = inl (count ∙ full, refl) }

-- Eight places that are open are all free, and all have room.
pub all_open : (a b c d e f g h : ClientSlot) → IsOpen a → IsOpen b → IsOpen c → IsOpen d
    → IsOpen e → IsOpen f → IsOpen g → IsOpen h → AllFree (a ∷ b ∷ c ∷ d ∷ e ∷ f ∷ g ∷ h ∷ [])
    × AllHaveRoom (a ∷ b ∷ c ∷ d ∷ e ∷ f ∷ g ∷ h ∷ [])
all_open a b c d e f g h a' b' c' d' e' f' g' h' = (free, room)
  where
    free : (k : ℕ) → at (a ∷ b ∷ c ∷ d ∷ e ∷ f ∷ g ∷ h ∷ []) k ≡ None
    free zero = a'.0
    free (suc zero) = b'.0
    free (suc (suc zero)) = c'.0
    free (suc (suc (suc zero))) = d'.0
    free (suc (suc (suc (suc zero)))) = e'.0
    free (suc (suc (suc (suc (suc zero))))) = f'.0
    free (suc (suc (suc (suc (suc (suc zero)))))) = g'.0
    free (suc (suc (suc (suc (suc (suc (suc zero))))))) = h'.0
    free (suc (suc (suc (suc (suc (suc (suc (suc k)))))))) = refl

    room : AllHaveRoom (a ∷ b ∷ c ∷ d ∷ e ∷ f ∷ g ∷ h ∷ [])
    room zero lt = a'.1
    room (suc zero) lt = b'.1
    room (suc (suc zero)) lt = c'.1
    room (suc (suc (suc zero))) lt = d'.1
    room (suc (suc (suc (suc zero)))) lt = e'.1
    room (suc (suc (suc (suc (suc zero))))) lt = f'.1
    room (suc (suc (suc (suc (suc (suc zero)))))) lt = g'.1
    room (suc (suc (suc (suc (suc (suc (suc zero))))))) lt = h'.1
    room (suc (suc (suc (suc (suc (suc (suc (suc k)))))))) lt = absurd (omega (arith, lt))
