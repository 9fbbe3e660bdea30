use Rattle.gw_circuit.proofs.Common.{◌∙◌}
use Rattle.gw_circuit.proofs.AheadDecoders.{none-decoded, one-more-decoded, all-decoded}
use Rattle.gw_circuit.proofs.ahead.decode_from.Goals as goal

pub loop-i-init : goal.loop-i-init
loop-i-init c =
    c.replace_decoder.ensures.state ∙ none-decoded c.decoders_continue.ensures c.args.codec.now _ _ (c.copy.ensures)

pub decode-requires : goal.decode-requires
decode-requires c =
    rw c.loop-i.invariant (c.requires.words c.loop-i.i 0 c.loop-i-test.true)

pub loop-i-preserved : goal.loop-i-preserved
loop-i-preserved c =
    c.decode.ensures.state
    ∙ one-more-decoded c.decoders_continue.ensures c.args.codec.now _ _ c.args.words.now c.loop-i.i c.loop-i.invariant
    c.loop-i-test.true

pub returns : goal.returns
returns c = all-decoded c.args.codec.now _ _ c.args.words.now c.loop-i.i c.loop-i.invariant c.loop-i-test.false
