use Rattle.gw_session.proofs.Common.{refl, ◌^◌, ◌<◌, arith}
use Rattle.gw_session.proofs.Common.{err_from_is_err_and, inr}
use Rattle.gw_session.proofs.Exchanging.{body_is}
use Rattle.gw_session.proofs.Inputs.{trunk_inputs}
use Rattle.gw_session.proofs.exchange.SessionBuffers.handle_trunk_record.Goals as goal

pub returns-clause-inputs : goal.returns-clause-inputs
returns-clause-inputs g c =
    let fits : c.args.self.now.totals.octets < 2 ^ 64 = omega arith in
    let body = body_is (rw c.requires.trunk at c.body-len.ensures) in
    rw c.requires.trunk (trunk_inputs _ _ _ c.saturating_add-self.result c.saturating_add-self-2.result _
    c.put_octets.result c.in_ok-exchange_all.ensures.exchanges refl refl c.as_slice.ensures.value
    c.saturating_add-self.ensures (rw body at c.saturating_add-self-2.ensures) fits c.put_octets.ensures.puts)

pub returns-in_err-exchange_all-clause-inputs : goal.returns-in_err-exchange_all-clause-inputs
returns-in_err-exchange_all-clause-inputs g c =
    let p = err_from_is_err_and c.from_residual.result c.from_residual.ensures.1 in
    let q = c.in_err-exchange_all.ensures.exchanges in
    let x = q.1 in
    rw (p.1, p.2, c.requires.trunk) (
      q.0,
      x.failed,
      inr (
        _,
        refl,
        record {
          turns = x.turns;
          rest = x.rest;
          split = x.split;
          trades = x.trades;
          stands = x.stands;
          took = x.took;
          failed = x.failed;
          packet = x.packet;
          some = x.some;
        },
        q.2,
      ),
    )
