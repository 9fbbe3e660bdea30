-- The sockets of circuits, opened one after another.
use Rattle.std.proofs.Common.{◌≡◌, ℕ, ◌+◌, ◌-◌, ◌<◌, ◌≤◌, ◌++◌, ◌∷◌, [], List, length, Option, nat_lt, Bool}
use Rattle.std.proofs.Common.{true, false, refl, arith}
use Rattle.std.proofs.lemmas.Bool.{ltb-true, ltb-false}
use Rattle.std.proofs.lemmas.List.{get_or_append_left}
use Rattle.std.proofs.Math.Seq.{get_or-append_seam}
use Rattle.std.specs.Prelude.{IsSomeAnd, slice_index_or, ⊤}
use Rattle.gw_config.specs.declared.config.Port.{Port}
use Rattle.gw_udp.specs.declared.source_filter.SourceFilter.{SourceFilter}
use Rattle.gw_udp.specs.Opening.{BlamesPorts, IsFaultOf}
use Rattle.gw_udp.specs.Udp.{IsEndpoint, HasEndpoints}
use Rattle.gw_udp.specs.declared.udp.Endpoint.{Endpoint}
use Rattle.gw_udp.specs.declared.udp.OpenFault.{OpenFault}
use Rattle.gw_udp.specs.declared.udp.OpenFault.TheVariants as faults

-- a fault of a circuit with ports blames one with ports
pub ports_blamed : (ports : List (Option Port)) (circuit : ℕ) (f : OpenFault) → 1 ≤ circuit → circuit ≤ 30
    → ((d : Option Port) → IsSomeAnd (slice_index_or ports (circuit - 1) d) (λ _. ⊤))
    → IsFaultOf circuit f → BlamesPorts ports f
ports_blamed ports circuit faults.OutOfMemory least most some is = tt
ports_blamed ports circuit (faults.Socket c) least most some is = rw is (least, most, some)

-- if the first circuits have the sockets of their own ports, and so does the next one, one more has
pub one_more : {S : Type 0} (host : List ℕ) (senders : SourceFilter) (ports : List (Option Port))
    (endpoints : List (Option (Endpoint S))) (port : Option Port) (e : Option (Endpoint S)) (n : ℕ)
    → length endpoints ≡ n → ((d : Option Port) → slice_index_or ports n d ≡ port)
    → HasEndpoints host senders ports endpoints n → IsEndpoint host senders port e
    → HasEndpoints host senders ports (endpoints ++ e ∷ []) (n + 1)
one_more {S} host senders ports endpoints port e n len at have is =
    λ i d f below. go i d f below (nat_lt i n) refl
  where
    go : (i : ℕ) (d : Option Port) (f : Option (Endpoint S)) → i < n + 1 → (b : Bool) → nat_lt i n ≡ b
        → IsEndpoint host senders (slice_index_or ports i d) (slice_index_or (endpoints ++ e ∷ []) i f)
    go i d f below true early =
        let old : i < n = ltb-true i n early in
        rw (get_or_append_left endpoints (e ∷ []) f i (omega (arith, old, len))) (have i d f old)
    go i d f below false late =
        let last : i ≡ length endpoints = omega (arith, below, ltb-false i n late, len) in
        let port_is : slice_index_or ports (length endpoints) d ≡ port = rw len (at d) in
        rw last (rw (get_or-append_seam endpoints e [] f, port_is) is)
