-- The packets of octets, one after another.
use Rattle.std.proofs.Common.{◌≡◌, ℕ, suc, ◌+◌, ◌*◌, ◌≤◌, ◌↔◌, Bool, List, [], ◌∷◌, ◌++◌, length, take, drop, refl}
use Rattle.std.proofs.Common.{arith, Result, Ok, Err, OnOk, IsErr}
use Rattle.std.proofs.lemmas.List.{take-append-le, drop-append-le, length-drop, drop-drop}
use Rattle.gw_satop.specs.declared.sender.SenderSettings.{SenderSettings}
use Rattle.gw_satop.specs.Sending.{packet_at, packets_from}

-- Octets after those of the packets change no packet.
pub packets-behind : (s : SenderSettings) (k : ℕ) (flags : List Bool) (octets more : List ℕ)
    → length flags * s.size ≤ length octets → packets_from s k flags (octets ++ more) ≡ packets_from s k flags octets
unfolding packets_from
packets-behind s k [] octets more h = refl
packets-behind s k (f ∷ flags) octets more h =
    let first : s.size ≤ length octets = omega arith in
    let rest : length flags * s.size ≤ length (drop s.size octets) = omega (arith, length-drop s.size octets) in
    rw (
      take-append-le s.size octets more first,
      drop-append-le s.size octets more first,
      packets-behind s (suc k) flags (drop s.size octets) more rest,
    ) refl

-- One more packet has the octets after those of the others.
pub packets-more : (s : SenderSettings) (k : ℕ) (flags : List Bool) (f : Bool) (octets : List ℕ)
    → packets_from s k (flags ++ f ∷ []) octets ≡ packets_from s k flags octets
    ++ packet_at s (k + length flags) f (take s.size (drop (length flags * s.size) octets)) ∷ []
unfolding packets_from
packets-more s k [] f octets =
    let here : k + 0 ≡ k = omega arith in
    let none : 0 * s.size ≡ 0 = omega arith in
    rw (here, none) refl
packets-more s k (g ∷ flags) f octets =
    let place : suc k + length flags ≡ k + suc (length flags) = omega arith in
    let behind : s.size + length flags * s.size ≡ suc (length flags) * s.size = omega arith in
    rw (
      packets-more s (suc k) flags f (drop s.size octets),
      place,
      drop-drop (length flags * s.size) s.size octets,
      behind,
    ) refl

-- A packet that is not too long is written.
pub written : {E P Q : Type 0} (r : Result (Unit {0}) E) → OnOk r P → (IsErr r ↔ Q) → (Q → ⊥) → P
written (Ok _) ok err fits = ok
written (Err e) ok err fits = absurd (fits (err.0 refl))
