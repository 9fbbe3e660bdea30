use Rattle.gw_records.proofs.Writes.{Puts-on}
use Rattle.gw_records.proofs.line.OctetLine.put_behind.Goals as goal

pub returns-clause-puts : goal.returns-clause-puts
returns-clause-puts g c = let put = c.in_ok-put.ensures.puts in
    Puts-on _ _ _ _ _ _ c.write_if_at_once.result put.0 put.1 c.write_if_at_once.ensures.puts
