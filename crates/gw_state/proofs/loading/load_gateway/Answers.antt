use Rattle.gw_state.proofs.Sums.{result-of}
use Rattle.gw_state.proofs.loading.load_gateway.Goals as goal

pub returns-clause-loaded : goal.returns-clause-loaded
returns-clause-loaded c =
    (result-of c.renewals_configure.ensures c.renewals_are_apart.ensures c.args.config.now c.args.octets.now
    c.in_ok-inner.inner.now
    c.read_gateway.result c.in_ok-inner.ensures.inner (rw c.new.ensures at c.read_gateway.ensures.ok)
    (rw c.new.ensures at c.read_gateway.ensures.err)).0

pub returns-clause-err : goal.returns-clause-err
returns-clause-err c =
    (result-of c.renewals_configure.ensures c.renewals_are_apart.ensures c.args.config.now c.args.octets.now
    c.in_ok-inner.inner.now
    c.read_gateway.result c.in_ok-inner.ensures.inner (rw c.new.ensures at c.read_gateway.ensures.ok)
    (rw c.new.ensures at c.read_gateway.ensures.err)).1
