use Rattle.gw_circuit.proofs.Common.{◌≡◌, ◌^◌, ◌*◌, ◌%◌, rules, ◌++◌, length, true, nat_lt, list_all}
use Rattle.gw_circuit.proofs.Loading.{words-pass}
use Rattle.gw_circuit.proofs.speech.saving.load_packet.Goals as goal

pub returns-then-not-are_words-clause-loaded : goal.returns-then-not-are_words-clause-loaded
returns-then-not-are_words-clause-loaded c = λ words rest few each e.
    let count = c.in_ok-count.ensures.next (length words) (words ++ rest) e in
    let many : c.in_ok-count.count ≡ length words = cc count.0 in
    let read = c.in_ok-words.ensures.next words rest (search (rules, many)) count.1 in
    let taken : c.in_ok-words.words.now ≡ words = cc read.0 in
    let pass = words-pass (2 ^ c.args.bits) words each in
    let no = c.if-not-are_words.ensures in
    let bound : 1 * 2 ^ c.args.bits % 65536 ≡ 2 ^ c.args.bits = search rules in
    let all : list_all (λ w. nat_lt w (1 * 2 ^ c.args.bits % 65536)) c.in_ok-words.words.now ≡ true =
    rw (bound, taken) pass in
    absurd (cc (no, all))
