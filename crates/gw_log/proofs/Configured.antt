-- The events of records, and waits, configure no circuit.
use Rattle.std.proofs.Common.{◌≡◌, ◌∙◌, ◌∷◌, [], ℕ, Bool, true, false, List, cond, refl, ap}
use Rattle.std.proofs.Common.{fold, map}
use Rattle.std.proofs.lemmas.Grind.{fold-append}
use Rattle.std.specs.List.{AllByRecursion}
use Rattle.std.specs.Prelude.{Option, Some, None, ◌==◌, ◌&&◌, ◌%◌, ◌/◌}
use Rattle.gw_circuit.specs.declared.config.CircuitConfig.{CircuitConfig}
use Rattle.g704_cas.specs.Numbers.{frame_with, slot_of}
use Rattle.gw_switch.specs.Hearing.{heard, signalled}
use Rattle.gw_switch.specs.Events.{CircuitEvent, Event, octets, octets_after, seen_of, view, view_from}
use Rattle.gw_switch.specs.Lives.{next_config}
use Rattle.gw_switch.specs.Saved.{AreConfiguredAlike}
use Rattle.gw_switch.specs.Whole.{config_of}
use Rattle.gw_switch.specs.declared.GatewayConfig.{GatewayConfig}
use Rattle.gw_records.specs.Octets.{codec_of, command_of}
use Rattle.gw_records.specs.Records.{Record}
use Rattle.gw_records.proofs.Sessions.{All-join}
use Rattle.gw_session.specs.Answers.{events, events_of}
use Rattle.gw_log.specs.Starts.{given_wait}

-- what a circuit sees of an event configures it not
abbrev pub IsPlain : Event → Type 0
IsPlain event = (c : ℕ) (s : List ℕ) (n : ℕ) (k : CircuitConfig) → fold next_config k (seen_of c s n event) ≡ k

-- an item that is seen, or not
maybe_seen : (b : Bool) (item : CircuitEvent) (rest : List CircuitEvent) (k : CircuitConfig)
    → next_config k item ≡ k → fold next_config k rest ≡ k → fold next_config k (cond b (item ∷ []) rest) ≡ k
maybe_seen true item rest k same others = same
maybe_seen false item rest k same others = others

-- an octet
plain_octet : (octet : ℕ) → IsPlain (Event.Octet octet)
plain_octet octet c s n k =
    let signals = (n % 32 == 16) && ((n / 32) % 16 == frame_with c) in
    let signal = CircuitEvent.Signal (signalled c s n) in
    maybe_seen (n % 32 == slot_of c) (CircuitEvent.Slot (heard c s n)) (cond signals (signal ∷ []) []) k refl
    (maybe_seen signals signal [] k refl refl)

-- .. and octets
plain_octets : (octets : List ℕ) → AllByRecursion IsPlain (map Event.Octet octets)
plain_octets [] = tt
plain_octets (octet ∷ octets) = (plain_octet octet, plain_octets octets)

-- what is given to a circuit, but a configuration
plain_given : (circuit : ℕ) (item : CircuitEvent) → ((k : CircuitConfig) → next_config k item ≡ k)
    → IsPlain (Event.Given circuit item)
plain_given circuit item same c s n k = maybe_seen (circuit == c) item [] k (same k) refl

-- the events of a record
plain_of : (r : Record) → AllByRecursion IsPlain (events_of r)
plain_of (Record.Trunk octets) = plain_octets octets
plain_of (Record.Datagram circuit octets) =
    (plain_given circuit (CircuitEvent.Datagram octets) (λ k. refl), tt)
plain_of (Record.Command circuit command) =
    (plain_given circuit (CircuitEvent.Command (command_of command)) (λ k. refl), tt)
plain_of (Record.Codec circuit codec payload_type) =
    (plain_given circuit (CircuitEvent.Codec (codec_of codec) payload_type) (λ k. refl), tt)

-- .. of records
pub plain_events : (records : List Record) → AllByRecursion IsPlain (events records)
plain_events [] = tt
plain_events (r ∷ records) = All-join IsPlain (events_of r) (events records) (plain_of r) (plain_events records)

-- a wait
pub plain_wait : (wait : Option ℕ) → AllByRecursion IsPlain (given_wait wait)
plain_wait None = tt
plain_wait (Some signals) = (λ c s n k. refl, tt)

-- a circuit that sees such events stays configured as it is
plain_view : (c : ℕ) (s : List ℕ) (n : ℕ) (events : List Event) (k : CircuitConfig)
    → AllByRecursion IsPlain events → fold next_config k (view_from c s n events) ≡ k
plain_view c s n [] k plain = refl
plain_view c s n (event ∷ events) k plain =
    fold-append next_config k (seen_of c s n event) (view_from c s (octets_after n event) events)
    ∙ ap (λ (x : CircuitConfig). fold next_config x (view_from c s (octets_after n event) events))
    (plain.0 c s n k)
    ∙ plain_view c s (octets_after n event) events k plain.1

-- behind such events each circuit is configured as at first
pub configured_still : (config : GatewayConfig) (events : List Event) → AllByRecursion IsPlain events
    → AreConfiguredAlike config events config []
unfolding view
configured_still config events plain = record {
  law = refl;
  each = λ c low high. plain_view c (octets events) 0 events (config_of config c) plain;
}
