use Rattle.gw_trunk.proofs.Placing.{replies-then}
use Rattle.gw_trunk.proofs.client.Client.ask.Goals as goal

pub returns : goal.returns
returns c = replies-then c.next_record.result _ c.refill.new.self _ c.refill.ensures.stays
    c.next_record.ensures.ended c.next_record.ensures.replies
