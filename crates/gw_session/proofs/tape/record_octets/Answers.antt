use Rattle.gw_session.proofs.Taping.{records_all}
use Rattle.gw_session.proofs.tape.record_octets.Goals as goal

pub returns-clause-recorded : goal.returns-clause-recorded
returns-clause-recorded g c = records_all _ _ _ _ c.batch_octets.ensures.batches c.write_batch.ensures.written
    c.write_batch.ensures.acts
