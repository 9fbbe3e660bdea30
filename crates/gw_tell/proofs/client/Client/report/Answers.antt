use Rattle.std.proofs.Common.{◌≡◌, ◌<◌, ◌++◌, ◌∙◌, length, drop, arith, sym}
use Rattle.std.proofs.Common.{length-drop}
use Rattle.std.proofs.lemmas.List.{take-append-drop}
use Rattle.std.proofs.lemmas.Bool.{ne_eqb}
use Rattle.gw_tell.specs.Lines.{at_line}
use Rattle.gw_tell.proofs.Sending.{sent_behind}
use Rattle.gw_tell.proofs.client.Client.report.Goals as goal

pub returns-clause-ok : goal.returns-clause-ok
returns-clause-ok c =
    let lines = drop c.args.front c.args.text.now in
    let some : 0 < length lines = simp length-drop (omega arith) in
    let sent = sent_behind c.args.self.now.last c.args.place lines (ne_eqb _ _ c.if-self-place.false) some in
    let whole : at_line c.args.place ++ lines ≡ c.args.text.now =
    rw (← c.requires.line) (take-append-drop c.args.front c.args.text.now) in
    rw (sent.0, whole) c.give-2.ensures.ok

pub returns-clause-last : goal.returns-clause-last
returns-clause-last c =
    let lines = drop c.args.front c.args.text.now in
    let some : 0 < length lines = simp length-drop (omega arith) in
    c.give-2.ensures.last
    ∙ sym (sent_behind c.args.self.now.last c.args.place lines (ne_eqb _ _ c.if-self-place.false) some).1

pub returns-clause-err : goal.returns-clause-err
returns-clause-err c =
    let lines = drop c.args.front c.args.text.now in
    let some : 0 < length lines = simp length-drop (omega arith) in
    let sent = sent_behind c.args.self.now.last c.args.place lines (ne_eqb _ _ c.if-self-place.false) some in
    let whole : at_line c.args.place ++ lines ≡ c.args.text.now =
    rw (← c.requires.line) (take-append-drop c.args.front c.args.text.now) in
    rw (sent.0, whole) c.give-2.ensures.err
