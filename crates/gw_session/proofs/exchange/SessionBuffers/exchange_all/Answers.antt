use Rattle.gw_session.proofs.Common.{ap, refl, sym, ◌∙◌, take_rest, length, arith, length-map, ℕ, List}
use Rattle.gw_session.proofs.Common.{err_from_is_err_and}
use Rattle.gw_session.specs.declared.exchange.SessionBuffers.{SessionBuffers}
use Rattle.gw_session.specs.declared.held.HeldPacket.{HeldPacket}
use Rattle.std.proofs.lemmas.Bool.{and_parts}
use Rattle.gw_session.proofs.Exchanging.{heard_all, some_now, body_is}
use Rattle.gw_session.proofs.exchange.SessionBuffers.exchange_all.Goals as goal

pub hear_all-requires-clause-holding : goal.hear_all-requires-clause-holding
hear_all-requires-clause-holding g c =
    let body = body_is (rw c.requires.trunk at c.body.ensures) in
    rw (c.begin_record.ensures.holds, ← body) c.begin_record.ensures.holding

pub returns-in_err-hear_all-clause-exchanges : goal.returns-in_err-hear_all-clause-exchanges
returns-in_err-hear_all-clause-exchanges g c =
    let p = err_from_is_err_and c.from_residual.result c.from_residual.ensures.1 in
    let totals = ap (λ (s : SessionBuffers). s.totals) c.begin_record.ensures.others in
    rw (p.1, p.2) (rw (c.begin_record.ensures.tells, c.begin_record.ensures.holds, totals) at
    c.in_err-hear_all.ensures.hears)

pub send_held-requires-clause-silent : goal.send_held-requires-clause-silent
send_held-requires-clause-silent g c = λ some.
    let as_packet : HeldPacket → ℕ × List ℕ = λ p. (p.circuit, p.octets.items) in
    let len = length-map c.hear_all.new.self.held.packets.items as_packet in
    let items = ap length c.as_slice-packets.ensures.value in
    let on = some_now _ _ _ c.in_ok-hear_all.ensures.hears.0 refl (omega (arith, len, items, some)) in
    let both = and_parts _ _ (sym c.begin_record.ensures.holding ∙ on) in
    c.requires.silent both.0

pub returns-clause-exchanges : goal.returns-clause-exchanges
returns-clause-exchanges g c =
    let totals = ap (λ (s : SessionBuffers). s.totals) c.begin_record.ensures.others in
    let body = body_is (rw c.requires.trunk at c.body.ensures) in
    let octets = body_is (rw (c.requires.trunk, c.hear_all.ensures.input) at c.body-octets.ensures) in
    let heard = rw (c.begin_record.ensures.tells, c.begin_record.ensures.holds, totals) at
    c.in_ok-hear_all.ensures.hears in
    let sends = rw c.as_slice-packets.ensures.value at c.send_held.ensures.sends in
    heard_all _ _ _ c.hear_all.new.self.recorded heard.0 refl
    (rw octets (take_rest _ c.hear_all.new.self.recorded)) c.record_octets.ensures.recorded refl
    (rw body at c.begin_record.ensures.holding) heard.1 c.before_answer.ensures sends c.send_held.ensures.passes
    c.send_held.ensures.no_failure
