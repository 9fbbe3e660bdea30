use Rattle.std.proofs.Common.{rules}
use Rattle.gw_state.proofs.loading.gateway_of.Goals as goal

pub returns-else-is_empty-clause-err : goal.returns-else-is_empty-clause-err
returns-else-is_empty-clause-err c = λ config stands. rw c.of.ensures (record {
  gateway = c.in-Ok.gateway;
  left = c.load.new.octets;
  some = search rules;
  whole = search rules;
})
