-- Circuits that are opened one after another.
use Rattle.gw_switch.proofs.Common.{◌≡◌, ◌<◌, ◌+◌, ℕ, List, [], ◌∷◌, ◌++◌, length, slice_index_or, rules}
use Rattle.gw_switch.proofs.Common.{get_or-append_seam, cases_eq, get_or_append_left, Law, CircuitConfig, BoxedCircuit}
use Rattle.gw_circuit.specs.Standing.{HasHistory}

-- with a circuit more that is opened, one more is
pub one-more-open : (items : List BoxedCircuit) (configs : List CircuitConfig) (law : Law) (new : BoxedCircuit)
    (config : CircuitConfig) (n : ℕ) → length items ≡ n
    → ((e : CircuitConfig) → slice_index_or configs n e ≡ config)
    → ((i : ℕ) (d : BoxedCircuit) (e : CircuitConfig) → i < n
    → HasHistory (slice_index_or items i d).circuit law (slice_index_or configs i e) [])
    → HasHistory new.circuit law config []
    → (i : ℕ) (d : BoxedCircuit) (e : CircuitConfig) → i < n + 1
    → HasHistory (slice_index_or (items ++ new ∷ []) i d).circuit law (slice_index_or configs i e) []
one-more-open items configs law new config n many is before now i d e h =
    search (rules, cases_eq, get_or-append_seam, get_or_append_left)
