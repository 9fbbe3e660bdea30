use Rattle.byteorder.specs.Endian.{big_bytes}
use Rattle.gw_records.proofs.Common.{◌≡◌, ◌∷◌, ◌++◌, List, ℕ, length, append_assoc, err_from_is_err_and}
use Rattle.gw_records.proofs.Writes.{FailsAfterPrefix-more, Puts-then}
use Rattle.gw_records.specs.Records.{record_of}
use Rattle.gw_records.proofs.line.OctetLineLine.put_octets.Goals as goal

-- The front of a record behind what waits, and its octets.
framed : (waiting front octets : List ℕ) → front ≡ 84 ∷ 0 ∷ big_bytes 2 (length octets)
    → (waiting ++ front) ++ octets ≡ waiting ++ record_of 84 0 octets
framed waiting front octets e = rw e (append_assoc waiting (84 ∷ 0 ∷ big_bytes 2 (length octets)) octets)

pub returns-in_err-put-clause-puts : goal.returns-in_err-put-clause-puts
returns-in_err-put-clause-puts g c =
    let p = err_from_is_err_and c.from_residual.result c.from_residual.ensures.1 in
    let fault = c.in_err-put.ensures.puts in
    rw (p.1, p.2) (
      fault.0,
      rw (framed _ c.front_of.result _ c.front_of.ensures) at
          (FailsAfterPrefix-more _ _ _ c.args.octets.now fault.1),
    )

pub returns-clause-puts : goal.returns-clause-puts
returns-clause-puts g c = let put = c.in_ok-put.ensures.puts in
    rw (framed _ c.front_of.result _ c.front_of.ensures) at
    (Puts-then _ _ _ _ _ _ _ c.put_behind.result put.0 put.1 c.put_behind.ensures.puts)
