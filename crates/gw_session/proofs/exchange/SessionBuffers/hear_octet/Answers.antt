use Rattle.gw_session.proofs.Common.{sym, sending_in}
use Rattle.gw_session.proofs.exchange.SessionBuffers.hear_octet.Goals as goal

pub returns-clause-hears : goal.returns-clause-hears
returns-clause-hears c =
    let out = c.octet_into-out in
    let on = c.if-not-self.false in
    record {
      sent = out.result.octet;
      behind = c.push.ensures.items;
      packet = (sending_in out.result out.new.room.items).packet;
      hears = λ config before h. (out.ensures.stands config before h, sym (out.ensures.reply config before h));
      held_are = rw (on, c.in_ok-circuit.was) c.push-2.ensures.packets;
      now = λ off. cc;
    }
