use Rattle.gw_trunk.proofs.KnownOctets.{held-passed}
use Rattle.gw_trunk.proofs.Cutting.{client-spelled}
use Rattle.gw_trunk.proofs.client.Client.next_record.Goals as goal

pub invariant_of-self-clause-gives : goal.invariant_of-self-clause-gives
invariant_of-self-clause-gives c =
    let s = c.args.self.now in
    let held = c.as_slice.ensures.value in
    rw (c.append_record.ensures, c.drop_first.ensures)
    (held-passed _ s.gave.octets s.held.items _ c.in-Ok.first.len s.gives
    (client-spelled c.in-Ok.first _ _ held c.in-Ok.ensures.good))
