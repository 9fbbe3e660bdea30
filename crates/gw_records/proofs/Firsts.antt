-- The first record of octets.
use Rattle.gw_records.proofs.Common.{◌≡◌, ◌≢◌, ◌+◌, ◌*◌, ◌<◌, ◌≤◌, ◌^◌, ◌⊎◌, inl, inr, ℕ, suc, true, false, List, []}
use Rattle.gw_records.proofs.Common.{rules, ◌∷◌, Bool, cond, Option, Some, None, nat_lt, ◌==◌, SomeIff, Ok, ok_or}
use Rattle.gw_records.proofs.Common.{length, take, get_or, sym, ◌∙◌, length-take-le, arith, slice_index, nat_tests}
use Rattle.gw_records.proofs.Common.{common_steps, AcceptedKinds, spelled, IsGood, body_len, has_bad_kind}
use Rattle.gw_records.proofs.Common.{has_bad_circuit, has_bad_length, has_bad_command, is_cut, end_of, IsCircuit}
use Rattle.gw_records.proofs.Common.{IsFirst, head_of, named, RecordsEnd, command_of, codec_of}
use Rattle.byteorder.specs.Endian.{big_bytes}
use Rattle.gw_records.specs.declared.records.RecordHead.{RecordHead}
use Rattle.gw_records.specs.declared.records.RecordHead.TheVariants as heads
use Rattle.gw_records.specs.declared.records.RecordsEnd.TheVariants as endings
use Rattle.gw_records.proofs.Again.{octet_of_command_again, octet_of_codec_again}

-- what is known of the tests of end_of, by what they give
abbrev pub Found : (none few kind circuit len cut command : Bool) → Option RecordsEnd → Type 0
Found none few kind circuit len cut command None =
    (few ≡ false) × (kind ≡ false) × (circuit ≡ false) × (len ≡ false) × (cut ≡ false) × (command ≡ false)
Found none few kind circuit len cut command (Some endings.End) = none ≡ true
Found none few kind circuit len cut command (Some endings.Truncated) = (few ≡ true) ⊎ (cut ≡ true)
Found none few kind circuit len cut command (Some endings.BadCommand) =
    (kind ≡ false) × ((len ≡ true) ⊎ (command ≡ true))
Found none few kind circuit len cut command (Some _) = Unit {0}

-- the end that the tests give, taken in this order, says this of them
first_found : (none few kind circuit len cut command : Bool) → Found none few kind circuit len cut command
    (cond none (Some endings.End) (cond few (Some endings.Truncated) (cond kind (Some endings.BadKind) (cond circuit
    (Some endings.BadCircuit) (cond len (Some endings.BadCommand) (cond cut (Some endings.Truncated) (cond command
    (Some endings.BadCommand) None)))))))
first_found none few kind circuit len cut command = search rules

-- .. of octets that end so
pub found_in : (kinds : AcceptedKinds) (octets : List ℕ) (o : Option RecordsEnd) → end_of kinds octets ≡ o
    → Found (length octets == 0) (nat_lt (length octets) 4) (has_bad_kind kinds octets) (has_bad_circuit octets)
    (has_bad_length octets) (is_cut octets) (has_bad_command octets) o
unfolding end_of
found_in kinds octets o e = search (rules, first_found)

-- the kind of a record that is not of a bad kind
pub kinds_are : (kinds : AcceptedKinds) (octets : List ℕ) → has_bad_kind kinds octets ≡ false
    → ((slice_index octets 0 ≡ 84) × (kinds.trunk ≡ true)) ⊎ (((slice_index octets 0 ≡ 68)
    × (kinds.datagrams ≡ true)) ⊎ (((slice_index octets 0 ≡ 67) × (kinds.commands ≡ true))
    ⊎ ((slice_index octets 0 ≡ 75) × (kinds.codecs ≡ true))))
unfolding has_bad_kind
kinds_are kinds octets h = grind (arith, nat_tests)

-- a good kind that is no trunk, datagram or command is a codec
pub kind_left : (kinds : AcceptedKinds) (octets : List ℕ) → has_bad_kind kinds octets ≡ false
    → slice_index octets 0 ≢ 84
    → slice_index octets 0 ≢ 68 → slice_index octets 0 ≢ 67 → slice_index octets 0 ≡ 75
kind_left kinds octets h p q r = let k = kinds_are kinds octets h in grind arith

-- a good circuit of a trunk record is 0, and of another from 1 to 30
pub circuit_is : (octets : List ℕ) → has_bad_circuit octets ≡ false
    → (slice_index octets 0 ≢ 84 → IsCircuit (slice_index octets 1))
    × (slice_index octets 0 ≡ 84 → slice_index octets 1 ≡ 0)
unfolding has_bad_circuit
circuit_is octets h = (λ p. (grind (arith, nat_tests), grind (arith, nat_tests)), λ p. grind (arith, nat_tests))

-- a good length of a command is one octet, and of a codec two
pub length_is : (octets : List ℕ) → has_bad_length octets ≡ false
    → (slice_index octets 0 ≡ 67 → body_len octets ≡ 1) × (slice_index octets 0 ≡ 75 → body_len octets ≡ 2)
unfolding has_bad_length
length_is octets h = (λ p. grind (arith, nat_tests), λ p. grind (arith, nat_tests))

-- a good command is from 1 to 6, a good codec from 1 to 5, and its payload type at most 127
command_is : (octets : List ℕ) → has_bad_command octets ≡ false
    → (slice_index octets 0 ≡ 67 → (1 ≤ slice_index octets 4) × (slice_index octets 4 ≤ 6))
    × (slice_index octets 0 ≡ 75 → (1 ≤ slice_index octets 4) × (slice_index octets 4 ≤ 5)
    × (slice_index octets 5 ≤ 127))
unfolding has_bad_command
command_is octets h = grind (arith, common_steps)

-- two octets that spell a length
length_spelled : (h l n : ℕ) → h < 256 → l < 256 → n ≡ h * 256 + l → big_bytes 2 n ≡ h ∷ l ∷ []
length_spelled h l n p q e = rw e (grind (arith, common_steps))

-- a head of four octets, and a body
firstly : (kinds : AcceptedKinds) (head : RecordHead) (k c h l : ℕ) (rest : List ℕ) → h * 256 + l ≤ length rest
    → k ∷ c ∷ h ∷ l ∷ take (h * 256 + l) rest ≡ spelled (named head (take (h * 256 + l) rest))
    → IsGood kinds (named head (take (h * 256 + l) rest))
    → IsFirst kinds (record { head = head; len = 4 + (h * 256 + l) }) (k ∷ c ∷ h ∷ l ∷ rest)
firstly kinds head k c h l rest fits whole good =
    let e : 4 + (h * 256 + l) ≡ suc (suc (suc (suc (h * 256 + l)))) = omega arith in
    record { more = omega arith; fits = omega arith; whole = rw e whole; good = rw e good }

-- a body of one octet is the first octet of the rest, and one of two the first two
first_octets : (n : ℕ) (rest : List ℕ) → n ≤ length rest → (n ≡ 1 → take n rest ≡ get_or rest 0 0 ∷ [])
    × (n ≡ 2 → take n rest ≡ get_or rest 0 0 ∷ get_or rest 1 0 ∷ [])
first_octets n rest h = (λ e. rw e (grind (arith, common_steps)), λ e. rw e (grind (arith, common_steps)))

-- the head returned is that of the first octets, which have no bad command
pub head_told : (octets : List ℕ) (o : Option RecordHead) (head : RecordHead)
    → SomeIff o (has_bad_command octets ≡ false) (head_of octets) → ok_or o endings.BadCommand ≡ Ok head
    → (has_bad_command octets ≡ false) × (head_of octets ≡ head)
head_told octets None head h e = cc
head_told octets (Some x) head h e = (h.0, let same : x ≡ head = cc in sym h.1 ∙ same)

-- the first record is good if nothing is wrong with it
pub good_first : (kinds : AcceptedKinds) (octets : List ℕ) → ((i : ℕ) → slice_index octets i < 256) → 4 ≤ length octets
    → has_bad_kind kinds octets ≡ false → has_bad_circuit octets ≡ false → has_bad_length octets ≡ false
    → 4 + body_len octets ≤ length octets → has_bad_command octets ≡ false
    → IsFirst kinds (record { head = head_of octets; len = 4 + body_len octets }) octets
unfolding head_of
good_first kinds (k ∷ c ∷ h ∷ l ∷ rest) bytes len kind circuit one whole command =
    let octets = k ∷ c ∷ h ∷ l ∷ rest in
    let fits : h * 256 + l ≤ length rest = omega (arith, whole) in
    let counted : length (take (h * 256 + l) rest) ≡ h * 256 + l = length-take-le (h * 256 + l) rest fits in
    let short : length (take (h * 256 + l) rest) < 2 ^ 16 = omega (arith, bytes 2, bytes 3) in
    let spelt = length_spelled h l _ (bytes 2) (bytes 3) counted in
    let lone = circuit_is octets circuit in
    let long = length_is octets one in
    let known = command_is octets command in
    let front = first_octets (h * 256 + l) rest fits in
    elim (kinds_are kinds octets kind) [
      | inl t ↦
          let zero = lone.1 (t.0) in
          rw (t.0) (firstly kinds heads.Trunk 84 c h l rest fits (cc) (t.1, short))
      | inr (inl t) ↦
          let in_range = lone.0 (λ p. absurd (omega (arith, p, t.0))) in
          rw (t.0) (firstly kinds (heads.Datagram c) 68 c h l rest fits (cc) (t.1, short, in_range))
      | inr (inr (inl t)) ↦
          let in_range = lone.0 (λ p. absurd (omega (arith, p, t.0))) in
          let body_is = front.0 (long.0 (t.0)) in
          let order = known.0 (t.0) in
          let again = octet_of_command_again (get_or rest 0 0) order.0 order.1 in
          rw (t.0) (firstly kinds (heads.Command c (command_of (get_or rest 0 0))) 67 c h l rest fits
          (rw (again, body_is) (cc)) (rw again (t.1, in_range, order.0, order.1)))
      | inr (inr (inr t)) ↦
          let in_range = lone.0 (λ p. absurd (omega (arith, p, t.0))) in
          let body_is = front.1 (long.1 (t.0)) in
          let codec = known.1 (t.0) in
          let again = octet_of_codec_again (get_or rest 0 0) codec.0 codec.1 in
          rw (t.0) (firstly kinds (heads.Codec c (codec_of (get_or rest 0 0)) (get_or rest 1 0)) 75 c h l rest fits
          (rw (again, body_is) (cc)) (rw again (t.1, in_range, codec.0, codec.1, codec.2)))
    ]
good_first kinds _ bytes len kind circuit one whole command = absurd (omega arith)
