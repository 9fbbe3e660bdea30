use Rattle.g704_crc4.proofs.Common.{◌≡◌, ◌+◌, ◌<◌, ◌++◌, ◌∷◌, ℕ, List, [], length, take, drop, get_or, rules, subst}
use Rattle.g704_crc4.proofs.Common.{arith, append_assoc, length-drop, take_all}
use Rattle.std.proofs.Math.Seq.{take-add}
use Rattle.std.proofs.lemmas.List.{take_rest}
use Rattle.g704_crc4.specs.Receivers.{ChecksTrunk}
use Rattle.g704_crc4.proofs.Counted.{next-octet}
use Rattle.g704_crc4.proofs.CountsOfEvents.{checks-silent}
use Rattle.g704_crc4.proofs.counting.TrunkChecker.octets.Goals as goal

-- The first octets, the next one, and more.
taken : (history octets : List ℕ) (i n : ℕ) → i < length octets
    → ((history ++ take i octets) ++ get_or octets i 0 ∷ []) ++ take n (drop (i + 1) octets)
    ≡ history ++ take (i + 1 + n) octets
taken history octets i n lt = search (rules, append_assoc, next-octet, take-add)

pub loop-at-preserved : goal.loop-at-preserved
loop-at-preserved c =
    let octets = c.args.octets.now in
    let at = c.loop-at.at in
    let rest = take_rest octets (at + 1) in
    record {
      within = omega (arith, length-drop (at + 1) octets);
      stands = λ history s.
          let one = c.octet.ensures _ (c.loop-at.invariant.stands history s) in
          subst (ChecksTrunk _) (taken history octets at c.pass_rest-at.result c.loop-at-test.true)
          (checks-silent c.octet.new.self c.pass_rest-at.new.self _ _ one
          (rw rest at (c.pass_rest-at.ensures.stands _ one.receives))
          (rw rest at (c.pass_rest-at.ensures.silent _ one.receives)));
    }

pub returns : goal.returns
returns c history s =
    rw (take_all c.loop-at.at c.args.octets.now (omega arith)) at (c.loop-at.invariant.stands history s)
