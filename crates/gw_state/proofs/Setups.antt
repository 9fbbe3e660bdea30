-- How a circuit is set up, as octets and back.
use Rattle.std.proofs.Common.{◌≡◌, ◌<◌, ◌≤◌, ◌++◌, ◌∷◌, ℕ, List, ap, ◌∙◌, append_assoc, arith}
use Rattle.std.proofs.Common.{Option, Some, None, IsSome, IfSome, ◌↔◌, unwrap_or, Result, Ok, Err}
use Rattle.std.proofs.Common.{length, take}
use Rattle.std.proofs.lemmas.List.{take_all}
use mathlib.Core.HLevel.{is_prop→PathP}
use Rattle.std.proofs.Props.{props}
use Rattle.rtp_pack.specs.PacketTime.{IsPacketTime}
use Rattle.gw_state.specs.declared.settings.Coding.{Coding}
use Rattle.gw_state.specs.declared.settings.Start.{Start}
use Rattle.saved_octets.specs.Numbers.{two_octets}
use Rattle.gw_circuit.specs.declared.config.CircuitConfig.{CircuitConfig}
use Rattle.gw_circuit.specs.Configuration.{IsWithinLimits}
use Rattle.gw_circuit.specs.Saved.{kind_number}
use Rattle.gw_state.specs.Layout.{role_octet, saved_start, saved_settings}

-- the octets of a circuit's settings, and what is behind them
pub settings-octets : (c : CircuitConfig) (rest : List ℕ) → saved_settings c ++ rest
    ≡ role_octet c.role ∷ kind_number c.codec ∷ c.payload_type ∷ c.ptime
    ∷ (two_octets c.prefill ++ (saved_start c.ssrc c.sequence c.timestamp ++ rest))
unfolding saved_settings
settings-octets c rest =
    ap (λ (os : List ℕ). role_octet c.role ∷ kind_number c.codec ∷ c.payload_type ∷ c.ptime ∷ os)
    (append_assoc (two_octets c.prefill) (saved_start c.ssrc c.sequence c.timestamp) rest)

-- both have the same eight values
pub record HasSameValues (one other : CircuitConfig) : Type 0 where
  pub role : one.role ≡ other.role
  pub codec : one.codec ≡ other.codec
  pub type : one.payload_type ≡ other.payload_type
  pub ptime : one.ptime ≡ other.ptime
  pub prefill : one.prefill ≡ other.prefill
  pub ssrc : one.ssrc ≡ other.ssrc
  pub sequence : one.sequence ≡ other.sequence
  pub timestamp : one.timestamp ≡ other.timestamp

-- settings by their values
pub same-settings : (one other : CircuitConfig) → HasSameValues one other → one ≡ other
same-settings one other same = λ i. record {
  role = same.role i;
  codec = same.codec i;
  payload_type = same.type i;
  ptime = same.ptime i;
  prefill = same.prefill i;
  ssrc = same.ssrc i;
  sequence = same.sequence i;
  timestamp = same.timestamp i;
  type_fits = is_prop→PathP (λ j. same.type j < 128) (λ j. Prim.hlevel props) one.type_fits other.type_fits i;
  ptime_fits = is_prop→PathP (λ j. IsPacketTime (same.ptime j)) (λ j. Prim.hlevel props) one.ptime_fits
      other.ptime_fits i;
  prefill_fits = is_prop→PathP (λ j. same.prefill j ≤ 1600) (λ j. Prim.hlevel props) one.prefill_fits
      other.prefill_fits i;
}

-- what is there is the same
pub some-same : {X : Type 0} (x y : X) → Some x ≡ Some y → x ≡ y
some-same x y e = ap (λ found. unwrap_or found x) e

-- settings of these values are made, if they are within the limits
pub is-made : (made : Option CircuitConfig) (other : CircuitConfig) (coding : Coding) (prefill : ℕ) (start : Start)
    → IsSome made ↔ IsWithinLimits coding.payload_type coding.ptime prefill
    → IfSome made (λ c. (c.role ≡ coding.role) × (c.codec ≡ coding.kind) × (c.payload_type ≡ coding.payload_type)
    × (c.ptime ≡ coding.ptime) × (c.prefill ≡ prefill) × (c.ssrc ≡ start.ssrc) × (c.sequence ≡ start.sequence)
    × (c.timestamp ≡ start.timestamp))
    → coding ≡ record { role = other.role; kind = other.codec; payload_type = other.payload_type; ptime = other.ptime }
    → prefill ≡ other.prefill
    → start ≡ record { ssrc = other.ssrc; sequence = other.sequence; timestamp = other.timestamp }
    → made ≡ Some other
is-made (Some k) other coding prefill start limits holds coded filled started = ap Some (same-settings k other (record {
  role = holds.0 ∙ ap (λ (c : Coding). c.role) coded;
  codec = holds.1 ∙ ap (λ (c : Coding). c.kind) coded;
  type = holds.2 ∙ ap (λ (c : Coding). c.payload_type) coded;
  ptime = holds.3 ∙ ap (λ (c : Coding). c.ptime) coded;
  prefill = holds.4 ∙ filled;
  ssrc = holds.5 ∙ ap (λ (s : Start). s.ssrc) started;
  sequence = holds.6 ∙ ap (λ (s : Start). s.sequence) started;
  timestamp = holds.7 ∙ ap (λ (s : Start). s.timestamp) started;
}))
is-made None other coding prefill start limits holds coded filled started =
    let type : coding.payload_type ≡ other.payload_type = ap (λ (c : Coding). c.payload_type) coded in
    let ptime : coding.ptime ≡ other.ptime = ap (λ (c : Coding). c.ptime) coded in
    absurd (cc (limits.1 (
      omega (arith, other.type_fits, type),
      rw ptime other.ptime_fits,
      rw filled other.prefill_fits,
    )))

-- all items are taken where there are no more
pub all-taken : {X : Type 0} (xs : List X) (i : ℕ) → length xs ≡ 30 → 30 ≤ i → take i xs ≡ xs
all-taken xs i thirty over = take_all i xs (omega (arith, thirty))

-- the value of a result, or this one
abbrev ok_or : {X : Type 0} → X → Result X ℕ → X
ok_or d (Ok x) = x
ok_or d (Err n) = d

-- what is Ok is the same
pub ok-same : {X : Type 0} (x y : X) → ◌≡◌ {A = Result X ℕ} (Ok x) (Ok y) → x ≡ y
ok-same x y e = ap (λ r. ok_or x r) e
