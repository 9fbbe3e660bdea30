use Rattle.std.proofs.Common.{◌∷◌, [], ◌∙◌, append_assoc}
use Rattle.std.specs.Fmt.{decimal}
use Rattle.gw_tell.specs.Lines.{spaced}
use Rattle.gw_tell.proofs.text.push_number.Goals as goal

pub returns-clause-number : goal.returns-clause-number
unfolding spaced
returns-clause-number c = c.push-2.ensures ∙ rw (c.push.ensures.items, c.as_bytes.ensures.value, c.format.ensures.text)
    (append_assoc c.args.text.now.items (32 ∷ []) (decimal c.args.n))
