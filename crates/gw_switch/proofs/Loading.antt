-- Slots and nibbles as octets, and back.
use Rattle.gw_switch.proofs.Common.{◌≡◌, ◌++◌, ◌∷◌, [], ◌<◌, ◌≤◌, ◌+◌, ℕ, List, length, All, flat_map, take, refl}
use Rattle.gw_switch.proofs.Common.{rules, common_steps, arith, sym, ap, subst, ◌∙◌, slice_set, slice_index_or, drop}
use Rattle.gw_switch.proofs.Common.{Option, Some, None, IfSome, take_all, length-take-le, All-push, Trunk, saved_slot}
use Rattle.gw_switch.proofs.Common.{saved_nibble, saved_slots, saved_nibbles, saved_alarms, IsNibble, saved_signalling}
use Rattle.gw_switch.proofs.Common.{saved_trunk, two_octets}
use Rattle.std.proofs.lemmas.Grind.{take-set_at, take_at_read}
use Rattle.gw_switch.specs.declared.trunk.signalling.Signalling.{Signalling}
use Rattle.gw_switch.specs.declared.trunk.saving.RemoteAlarms.{RemoteAlarms}
use Rattle.g704_align.specs.Saved.{saved_aligner}
use Rattle.g704_cas.specs.Saved.{saved_mf_aligner}
use Rattle.saved_octets.proofs.Items.{Tells, next-item, all-read}

-- the octets of a slot, and of what is behind it, tell both
pub slot-tells : Tells (λ slot. Unit {0}) saved_slot
slot-tells h0 h1 r s p q e = search rules

-- the octet of a nibble, and what is behind it, tell both
pub nibble-tells : Tells IsNibble saved_nibble
nibble-tells h0 h1 r s p q e = search rules

-- one item more of an array is read
pub one-read : {A : Type 0} (octets : A → List ℕ) (xs : List A) (i : ℕ) (x : A) (all now left : List ℕ)
    → all ≡ flat_map octets (take i xs) ++ now → now ≡ octets x ++ left → i < length xs
    → all ≡ flat_map octets (take (i + 1) (slice_set xs i x)) ++ left
one-read {A = A} octets xs i x all now left e f less = grind (arith, common_steps)

-- what holds of the items that were read holds with one more
pub one-more : {A : Type 0} (P : A → Type 0) (xs : List A) (i : ℕ) (x : A) → All P (take i xs) → P x → i < length xs
    → All P (take (i + 1) (slice_set xs i x))
one-more {A = A} P xs i x each p less =
    grind (arith, take-set_at xs i (i + 1) x refl (omega arith), All-push P (take i xs) x each p)

-- the first items and the next one
pub push-next : {A : Type 0} (xs : List A) (i : ℕ) (x d : A) → x ≡ slice_index_or xs i d → i < length xs
    → take i xs ++ x ∷ [] ≡ take (i + 1) xs
push-next {A = A} xs i x d is less =
    ap (λ (y : A). take i xs ++ y ∷ []) is ∙ sym (take_at_read xs i d (omega arith)).1

-- the octets of the saved items from one on begin with those of that one
pub next-saved : {A : Type 0} (octets : A → List ℕ) (saved : List A) (i : ℕ) (d : A) (now rest : List ℕ)
    → now ≡ flat_map octets (drop i saved) ++ rest → i < length saved
    → now ≡ octets (slice_index_or saved i d) ++ (flat_map octets (drop (i + 1) saved) ++ rest)
next-saved {A = A} octets saved i d now rest e less = grind (arith, common_steps)

-- with one item more the first ones are those that were saved
pub same-front : {A : Type 0} (mine saved : List A) (i : ℕ) (x : A) → take i mine ≡ take i saved
    → x ≡ slice_index_or saved i x → i < length mine → i < length saved
    → take (i + 1) (slice_set mine i x) ≡ take (i + 1) saved
same-front {A = A} mine saved i x front is less less' = grind (arith, common_steps)

-- one item more is saved
pub one-saved : {A : Type 0} (octets : A → List ℕ) (xs : List A) (i : ℕ) (x d : A) (old now new : List ℕ)
    → now ≡ old ++ flat_map octets (take i xs) → new ≡ now ++ octets x → x ≡ slice_index_or xs i d → i < length xs
    → new ≡ old ++ flat_map octets (take (i + 1) xs)
one-saved {A = A} octets xs i x d old now new e f is less = grind (arith, common_steps)

-- what holds of the items that were saved holds with one more
pub one-fits : {A : Type 0} (P : A → Type 0) (xs : List A) (i : ℕ) (x d : A) → All P (take i xs)
    → P x → x ≡ slice_index_or xs i d → i < length xs → All P (take (i + 1) xs)
one-fits {A = A} P xs i x d each p is less =
    subst (λ (ys : List A). All P ys) (push-next xs i x d is less) (All-push P (take i xs) x each p)

-- where items are left to be read, the octets that are left begin with one of them
pub one-left : {A : Type 0} (P : A → Type 0) (octets : A → List ℕ) (xs saved : List A) (i : ℕ) (all now rest : List ℕ)
    → Tells P octets → All P (take i xs) → All P saved → all ≡ flat_map octets (take i xs) ++ now
    → all ≡ flat_map octets saved ++ rest → length saved ≡ length xs → i < length xs
    → (y : A) × (others : List A) × P y × (now ≡ octets y ++ (flat_map octets others ++ rest))
one-left P octets xs saved i all now rest tells each those e f size less =
    let many : length (take i xs) ≡ i = length-take-le i xs (omega arith) in
    next-item P octets (take i xs) saved now rest tells each those (sym e ∙ f) (omega arith)

-- where none is left, they are those that were saved
pub none-left : {A : Type 0} (P : A → Type 0) (octets : A → List ℕ) (xs saved : List A) (i : ℕ) (all now rest : List ℕ)
    → Tells P octets → All P (take i xs) → All P saved → all ≡ flat_map octets (take i xs) ++ now
    → all ≡ flat_map octets saved ++ rest → length saved ≡ length xs → length xs ≤ i
    → (xs ≡ saved) × (now ≡ rest)
none-left P octets xs saved i all now rest tells each those e f size over =
    let whole = take_all i xs over in
    all-read P octets xs saved now rest tells (rw whole at each) those (sym (rw whole at e) ∙ f) (sym size)

-- the octets of what is received in the slots 0 and 16, and what is behind them
pub signalling-octets : (s : Signalling) (all rest : List ℕ) → all ≡ saved_signalling s ++ rest
    → all ≡ saved_mf_aligner s.multiframe
    ++ (saved_nibbles s.nibbles ++ (saved_alarms s.remote_frame s.remote_multiframe ++ rest))
unfolding saved_signalling
signalling-octets s all rest e = grind (arith, common_steps)

-- signalling by its parts
pub same-signalling : (one other : Signalling) (alarms : RemoteAlarms) → Some one.multiframe ≡ Some other.multiframe
    → one.nibbles ≡ other.nibbles
    → Some alarms ≡ Some (record { frame = other.remote_frame; multiframe = other.remote_multiframe })
    → one.remote_frame ≡ alarms.frame → one.remote_multiframe ≡ alarms.multiframe → one ≡ other
same-signalling one other alarms multiframe nibbles told frame multi = grind (arith, common_steps)

-- the octets of a trunk, and what is behind them
pub trunk-octets : (t : Trunk) (all rest : List ℕ) → all ≡ saved_trunk t ++ rest
    → all ≡ saved_aligner t.aligner
    ++ (two_octets t.position ++ (saved_slots t.octets ++ (saved_signalling t.signalling ++ rest)))
unfolding saved_trunk
trunk-octets t all rest e = grind (arith, common_steps)

-- a trunk by its parts
pub same-trunk : (one other : Trunk) → Some one.aligner ≡ Some other.aligner → Some one.position ≡ Some other.position
    → one.octets ≡ other.octets → one.signalling ≡ other.signalling → one ≡ other
same-trunk one other aligner position octets signalling = grind (arith, common_steps)

-- the parts of a trunk are read one after the other
pub trunk-read : (t : Trunk) (all one two three rest : List ℕ) → all ≡ saved_aligner t.aligner ++ one
    → one ≡ two_octets t.position ++ two → two ≡ saved_slots t.octets ++ three
    → (result : Option (Unit {0})) → IfSome result (λ done. three ≡ saved_signalling t.signalling ++ rest)
    → IfSome result (λ done. all ≡ saved_trunk t ++ rest)
unfolding saved_trunk
trunk-read t all one two three rest a p o None s = tt
trunk-read t all one two three rest a p o (Some done) s = grind (arith, common_steps)
