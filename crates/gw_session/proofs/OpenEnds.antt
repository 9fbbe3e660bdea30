-- Octets of good records that are cut off end as octets do to which more may come.
use Rattle.gw_session.proofs.Common.{◌≡◌, ◌==◌, ℕ, Bool, true, false, cond, List, [], ◌∷◌, ◌++◌, length, refl, arith}
use Rattle.gw_session.proofs.Common.{rules, None, Some, AcceptedKinds, end_of, has_bad_kind, has_bad_circuit}
use Rattle.gw_session.proofs.Common.{has_bad_length, is_cut, has_bad_command}
use Rattle.gw_records.specs.declared.records.RecordsEnd.{RecordsEnd}
use Rattle.gw_records.specs.declared.records.RecordsEnd.TheVariants as endings
use Rattle.gw_records.specs.Records.{is_open}
use Rattle.gw_records.proofs.Firsts.{found_in}
use Rattle.std.proofs.lemmas.Bool.Decides.{nat_tests}
use Rattle.std.specs.Prelude.{nat_lt}

-- an end that tests give, in which no kind, circuit, length or whole command is bad
open_by : (none few kind circuit len cut command : Bool) (ending : RecordsEnd)
    → cond none (Some endings.End) (cond few (Some endings.Truncated) (cond kind (Some endings.BadKind) (cond circuit
    (Some endings.BadCircuit) (cond len (Some endings.BadCommand) (cond cut (Some endings.Truncated) (cond command
    (Some endings.BadCommand) None)))))) ≡ Some ending
    → kind ≡ false → circuit ≡ false → len ≡ false → (cut ≡ false → command ≡ false) → is_open ending ≡ true
open_by none few kind circuit len cut command ending h k c l m = search rules

-- a command that is whole is as good as with more octets behind it
same_command : (a b c d : ℕ) (t more : List ℕ) → has_bad_length (a ∷ b ∷ c ∷ d ∷ t) ≡ false
    → has_bad_command (a ∷ b ∷ c ∷ d ∷ (t ++ more)) ≡ false → is_cut (a ∷ b ∷ c ∷ d ∷ t) ≡ false
    → has_bad_command (a ∷ b ∷ c ∷ d ∷ t) ≡ false
unfolding has_bad_length has_bad_command is_cut
same_command a b c d (x ∷ y ∷ t) more len command whole = command
same_command a b c d (x ∷ []) more len command whole = grind (arith, nat_tests)
same_command a b c d [] more len command whole = grind (arith, nat_tests)

-- .. by four octets or more
cut_behind_front : (kinds : AcceptedKinds) (a b c d : ℕ) (t more : List ℕ) (ending : RecordsEnd)
    → end_of kinds (a ∷ b ∷ c ∷ d ∷ (t ++ more)) ≡ None → end_of kinds (a ∷ b ∷ c ∷ d ∷ t) ≡ Some ending
    → is_open ending ≡ true
unfolding end_of has_bad_kind has_bad_circuit has_bad_length
cut_behind_front kinds a b c d t more ending e h =
    let octets = a ∷ b ∷ c ∷ d ∷ t in
    let all = found_in kinds (a ∷ b ∷ c ∷ d ∷ (t ++ more)) None e in
    open_by (length octets == 0) (nat_lt (length octets) 4) (has_bad_kind kinds octets) (has_bad_circuit octets)
    (has_bad_length octets) (is_cut octets) (has_bad_command octets) ending h all.1 all.2 all.3
    (same_command a b c d t more all.3 all.5)

-- .. anywhere
pub cut_open : (kinds : AcceptedKinds) (rest more : List ℕ) (ending : RecordsEnd) → end_of kinds (rest ++ more) ≡ None
    → end_of kinds rest ≡ Some ending → is_open ending ≡ true
unfolding end_of
cut_open kinds [] more ending e h = let same : ending ≡ endings.End = cc in rw same refl
cut_open kinds (a ∷ []) more ending e h = let same : ending ≡ endings.Truncated = cc in rw same refl
cut_open kinds (a ∷ b ∷ []) more ending e h = let same : ending ≡ endings.Truncated = cc in rw same refl
cut_open kinds (a ∷ b ∷ c ∷ []) more ending e h = let same : ending ≡ endings.Truncated = cc in rw same refl
cut_open kinds (a ∷ b ∷ c ∷ d ∷ t) more ending e h = cut_behind_front kinds a b c d t more ending e h
