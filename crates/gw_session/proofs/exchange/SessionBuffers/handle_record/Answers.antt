use Rattle.gw_session.proofs.Common.{refl, ◌∙◌, Event, TakesEvent, SessionInput, answer_to, given_by, dropped_for}
use Rattle.gw_session.proofs.Common.{Datagram, looks_at, body_of}
use Rattle.gw_session.proofs.Exchanging.{datagram_is}
use Rattle.gw_records.specs.Octets.{octet_of_command, octet_of_codec}
use Rattle.gw_records.proofs.Again.{command_again, codec_again}
use Rattle.gw_session.proofs.Inputs.{one_inputs, on_ok_always}
use Rattle.gw_session.proofs.Watching.{shown_other}
use Rattle.gw_session.proofs.exchange.SessionBuffers.handle_record.Goals as goal

pub returns-in-Datagram-clause-code : goal.returns-in-Datagram-clause-code
returns-in-Datagram-clause-code g c =
    let octets = datagram_is (rw c.in-Datagram.is at c.body-body.ensures) in
    let code = rw octets at c.give_shown-code.ensures.code in
    rw c.in-Datagram.is (on_ok_always c.put_answer.result
    (λ config before h. c.put_answer.ensures.code ∙ code config before h))

pub returns-in-Command-clause-code : goal.returns-in-Command-clause-code
returns-in-Command-clause-code g c =
    let takes = rw (← command_again c.in-Command.command) at c.give_command-code.ensures in
    rw c.in-Command.is (on_ok_always c.put_answer-in-Command.result
    (λ config before h. c.put_answer-in-Command.ensures.code ∙ (takes config before h).1))

pub returns-in-Codec-clause-code : goal.returns-in-Codec-clause-code
returns-in-Codec-clause-code g c =
    let takes = rw (← codec_again c.in-Codec.codec) at c.give_codec-code.ensures in
    rw c.in-Codec.is (on_ok_always c.put_answer-in-Codec.result
    (λ config before h. c.put_answer-in-Codec.ensures.code ∙ (takes config before h).1))

pub returns-in-Datagram-clause-inputs : goal.returns-in-Datagram-clause-inputs
unfolding answer_to given_by
returns-in-Datagram-clause-inputs g c =
    let circuit = c.in-Datagram.circuit in
    let body = body_of c.args.first.now (g.L.Line.input c.args.line.now).held.octets in
    let octets = datagram_is (rw c.in-Datagram.is at c.body-body.ensures) in
    let given = rw octets at c.give_shown-code.ensures.given in
    let code = rw octets at c.give_shown-code.ensures.code in
    let shown = rw octets at c.give_shown-code.ensures.shown in
    let recorded = rw (c.in-Datagram.is, octets) at c.log_record.ensures.recorded in
    let takes : TakesEvent c.args.gateway.now c.give_shown-code.new.gateway
    (Event.Given circuit (Datagram body)) c.give_shown-code.result =
    λ config before h. ((given config before h).0, code config before h) in
    rw c.in-Datagram.is (one_inputs _ (SessionInput.Datagram circuit body) _ c.give_shown-code.new.totals _ _ _ _ _ _
    c.put_answer.result refl refl shown (λ config before. refl) (λ config before. refl)
    (λ config before. refl) takes
    c.give_shown-code.ensures.others c.put_answer.ensures.counts
    (λ config before h. (given config before h).1)
    c.put_answer.ensures.puts recorded c.log_record.ensures.told)

pub returns-in-Command-clause-inputs : goal.returns-in-Command-clause-inputs
unfolding answer_to given_by dropped_for looks_at
returns-in-Command-clause-inputs g c =
    let command = c.in-Command.command in
    let recorded = rw c.in-Command.is at c.log_record-in-Command.ensures.recorded in
    rw c.in-Command.is (one_inputs _ (SessionInput.Command c.in-Command.circuit (octet_of_command command)) _
    c.args.self.now.totals _ _ _ _ _ _ c.put_answer-in-Command.result refl refl (shown_other (λ config before. refl))
    (λ config before. refl)
    (λ config before. refl) (λ config before. refl) (rw (← command_again command) at c.give_command-code.ensures)
    refl c.put_answer-in-Command.ensures.counts (λ config before h. refl)
    c.put_answer-in-Command.ensures.puts recorded c.log_record-in-Command.ensures.told)

pub returns-in-Codec-clause-inputs : goal.returns-in-Codec-clause-inputs
unfolding answer_to given_by dropped_for looks_at
returns-in-Codec-clause-inputs g c =
    let codec = c.in-Codec.codec in
    let recorded = rw c.in-Codec.is at c.log_record-in-Codec.ensures.recorded in
    rw c.in-Codec.is (one_inputs _ (SessionInput.Codec c.in-Codec.circuit
    (octet_of_codec codec) c.in-Codec.payload_type) _
    c.args.self.now.totals _ _ _ _ _ _ c.put_answer-in-Codec.result refl refl (shown_other (λ config before. refl))
    (λ config before. refl)
    (λ config before. refl) (λ config before. refl) (rw (← codec_again codec) at c.give_codec-code.ensures)
    refl c.put_answer-in-Codec.ensures.counts (λ config before h. refl)
    c.put_answer-in-Codec.ensures.puts recorded c.log_record-in-Codec.ensures.told)
