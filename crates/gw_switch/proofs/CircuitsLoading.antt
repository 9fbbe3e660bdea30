-- The circuits of a gateway as octets, and back.
use Rattle.gw_switch.proofs.Common.{◌≡◌, ◌<◌, ◌≤◌, ◌+◌, ℕ, List, length, sym, slice_set, rules, slice_index_or}
use Rattle.gw_switch.proofs.Common.{get_or-set_other, subst, BoxedCircuit, IsAlike, AreAlike}

-- the circuits behind the one that was read are as they were
pub same-behind : (first mine : List BoxedCircuit) (i : ℕ) (x : BoxedCircuit)
    → ((k : ℕ) (d : BoxedCircuit) → i ≤ k → slice_index_or mine k d ≡ slice_index_or first k d)
    → (k : ℕ) (d : BoxedCircuit) → i + 1 ≤ k → slice_index_or (slice_set mine i x) k d ≡ slice_index_or first k d
same-behind first mine i x later k d over = search (rules, get_or-set_other)

-- the saved circuit i has the law and the configuration of circuit i
pub alike-at : (first saved : List BoxedCircuit) (i : ℕ) (mine x : BoxedCircuit) → AreAlike first saved
    → mine ≡ slice_index_or first i mine → i < length first → IsAlike mine (slice_index_or saved i x)
alike-at first saved i mine x alike is less =
    subst (λ (m : BoxedCircuit). IsAlike m (slice_index_or saved i x)) (sym is) (alike.each i mine x less)
