use Rattle.gw_circuit.proofs.Common.{◌≡◌, ◌<◌, ◌∙◌, length, take, rules, arith, slice_index, length-take-le}
use Rattle.std.proofs.lemmas.List.{get_or-take}
use Rattle.gw_circuit.proofs.AheadDecoders.{kept-octet, one-more-played}
use Rattle.gw_circuit.proofs.ahead.AheadCodec.play.Goals as goal

pub returns-then-self-next-clause-octet : goal.returns-then-self-next-clause-octet
returns-then-self-next-clause-octet c =
    let s = c.self.inside in
    let left : s.played < s.known = search rules in
    let many : length (take s.known s.words) ≡ s.known = length-take-le s.known s.words (search rules) in
    let inside : s.played < length (take s.known s.words) = omega (arith, left, many) in
    let same : slice_index (take s.known s.words) s.played ≡ c.args.word =
    get_or-take s.known s.words s.played 0 left ∙ rw c.from-next.ensures at c.if-self-next.true in
    rw (← c.self.view_is, c.from-next.ensures, ← get_or-take s.known s.octets s.played 0 left)
    (kept-octet c.decoders_continue.ensures s.codec s.base (take s.known s.words) (take s.known s.octets) s.played
    c.args.word (c.self.invariant.ahead left) inside same)

pub returns-then-self-next-clause-state : goal.returns-then-self-next-clause-state
returns-then-self-next-clause-state c =
    let s = c.self.inside in
    let left : s.played < s.known = search rules in
    let many : length (take s.known s.words) ≡ s.known = length-take-le s.known s.words (search rules) in
    let inside : s.played < length (take s.known s.words) = omega (arith, left, many) in
    let same : slice_index (take s.known s.words) s.played ≡ c.args.word =
    get_or-take s.known s.words s.played 0 left ∙ rw c.from-next.ensures at c.if-self-next.true in
    rw (← c.self.view_is)
    (one-more-played c.decoders_continue.ensures s.codec s.base (take s.known s.words) (take s.known s.octets) s.played
    c.args.word (c.self.invariant.ahead left) inside same)
