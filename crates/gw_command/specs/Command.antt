-- What the command line means where this program decides it.
use Rattle.std.specs.Prelude.{◌≡◌, ◌==◌, ◌^◌, ◌<◌, ◌≤◌, ◌+◌, ◌/◌, ℕ, List}
use Rattle.std.specs.List.{before_first, after_first}
use Rattle.std.specs.Str.Parse.{IsNumeral, digits_value, without_leading_plus}
use Rattle.e1_g711.specs.declared.Law.{Law}
use Rattle.g726_codec.specs.declared.CodecKind.{CodecKind}
use Rattle.g726_codec.specs.declared.CodecKind.TheVariants.{G711}
use Rattle.gw_circuit.specs.Coding.{static_type}

-- the payload type if none is asked for: that of the law in G.711, else the first dynamic one
abbrev pub usual_payload : Law → CodecKind → ℕ
usual_payload law G711 = static_type law
usual_payload law _ = 96

-- the text is this number, of 16 bits, in decimal digits, behind a plus sign or none
abbrev pub IsNumber : List ℕ → ℕ → Type 0
IsNumber text n = IsNumeral 10 (without_leading_plus text)
    × (digits_value 10 (without_leading_plus text) ≡ n) × (n < 2 ^ 16)

-- a wait of `ms` milliseconds is this number of signals, one of which comes every 2 ms
pub record IsWaitOf (ms signals : ℕ) : Type 0 where
  pub least : 200 ≤ ms
  pub most : ms ≤ 8000
  pub signals_are : signals ≡ (ms + 1) / 2

-- The text is a first and a last descriptor, before and behind its first hyphen. The first is 3 at least:
-- those before it are the standard streams.
pub record AreDescriptors (text : List ℕ) (first last : ℕ) : Type 0 where
  pub first_is : IsNumber (before_first (λ b. b == 45) text) first
  pub last_is : IsNumber (after_first (λ b. b == 45) text) last
  pub from_3 : 3 ≤ first
  pub in_order : first ≤ last
