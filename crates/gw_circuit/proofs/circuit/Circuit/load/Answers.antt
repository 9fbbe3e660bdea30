use Rattle.gw_circuit.proofs.Common.{◌++◌, [], refl, sym, ap, ◌∙◌, saved_line, CircuitConfig, Circuit, format_after}
use Rattle.gw_circuit.proofs.Common.{packet_size, heard_in, calls_in, saved_circuit, saved_clocks, saved_counts}
use Rattle.gw_circuit.proofs.Common.{saved_speech}
use Rattle.gw_circuit.proofs.Loading.{circuit-octets, numbers-told, same-circuit, stands-reset, none-holds, none-says}
use Rattle.gw_circuit.proofs.Loading.{some-says, some-is-there, read-three}
use Rattle.gw_circuit.proofs.Spells.{stretch-none}
use Rattle.gw_circuit.proofs.Turns.{keeps-of}
use Rattle.gw_circuit.proofs.circuit.Circuit.load.Goals as goal

pub returns-in_err-numbers-clause-loaded : goal.returns-in_err-numbers-clause-loaded
returns-in_err-numbers-clause-loaded c = λ other law config items before rest stands fits mine e.
    let told = c.in_err-numbers.ensures.loaded other (saved_line other.line ++ (saved_speech other.speech ++ rest))
    fits.numbers (e ∙ circuit-octets other rest) in
    absurd (cc told.0)

pub returns-in_err-load_line-clause-loaded : goal.returns-in_err-load_line-clause-loaded
returns-in_err-load_line-clause-loaded c = λ other law config items before rest stands fits mine e.
    let theirs = keeps-of other law config items stands in
    let cleared = c.clear.ensures.stands law config before mine in
    let ours = keeps-of c.clear.new.self law config [] cleared in
    let first = c.in_ok-numbers.ensures.loaded other (saved_line other.line ++ (saved_speech other.speech ++ rest))
    fits.numbers (e ∙ circuit-octets other rest) in
    let role = theirs.line.role_is ∙ sym (ap (λ (k : CircuitConfig). k.role) ours.config_is) in
    let told = c.in_err-load_line.ensures.loaded other.line
    (saved_speech other.speech ++ rest) role fits.line first.1 in
    absurd (cc told.0)

pub returns-in_err-load_line-clause-none : goal.returns-in_err-load_line-clause-none
returns-in_err-load_line-clause-none c = λ law config items stands.
    let cleared = c.clear.ensures.stands law config items stands in
    let ours = keeps-of c.clear.new.self law config [] cleared in
    let law_is = ap (λ (k : Circuit). k.law) c.in_err-load_line.ensures.rest ∙ ours.law_is in
    let config_is = ap (λ (k : Circuit). k.config) c.in_err-load_line.ensures.rest in
    let speech_is = ap (λ (k : Circuit). k.speech) c.in_err-load_line.ensures.rest in
    let speaks = rw (stretch-none law config) at ours.speech in
    none-holds _ _
    (stands-reset c.load_line.new.self c.clear.new.self law config c.load_line.new.self.line c.load_line.new.self.speech
    c.in_err-load_line.ensures.rest cleared (rw config_is c.in_err-load_line.ensures.none)
    (rw (speech_is, law_is) speaks))

pub returns-then-is_none-clause-loaded : goal.returns-then-is_none-clause-loaded
returns-then-is_none-clause-loaded c = λ other law config items before rest stands fits mine e.
    let theirs = keeps-of other law config items stands in
    let cleared = c.clear.ensures.stands law config before mine in
    let ours = keeps-of c.clear.new.self law config [] cleared in
    let first = c.in_ok-numbers.ensures.loaded other (saved_line other.line ++ (saved_speech other.speech ++ rest))
    fits.numbers (e ∙ circuit-octets other rest) in
    let role = theirs.line.role_is ∙ sym (ap (λ (k : CircuitConfig). k.role) ours.config_is) in
    let second = c.in_ok-load_line.ensures.loaded other.line
    (saved_speech other.speech ++ rest) role fits.line first.1 in
    let law_is = ap (λ (k : Circuit). k.law) c.in_ok-load_line.ensures.rest ∙ ours.law_is in
    let speech_is = ap (λ (k : Circuit). k.speech) c.in_ok-load_line.ensures.rest in
    let third = c.load.ensures.loaded other.speech (format_after law config items) (format_after law config [])
    (packet_size config) config.prefill (heard_in law config items) (heard_in law config [])
    (calls_in law config items) (calls_in law config []) rest (rw law_is theirs.speech)
    fits.speech (rw (speech_is, law_is) ours.speech) second.2 in
    absurd (some-is-there c.load.result c.is_none.result third.0 c.is_none.ensures c.if-is_none.true)

pub returns-then-is_none-clause-none : goal.returns-then-is_none-clause-none
returns-then-is_none-clause-none c = λ law config items stands.
    let cleared = c.clear.ensures.stands law config items stands in
    let ours = keeps-of c.clear.new.self law config [] cleared in
    let law_is = ap (λ (k : Circuit). k.law) c.in_ok-load_line.ensures.rest ∙ ours.law_is in
    let speech_is = ap (λ (k : Circuit). k.speech) c.in_ok-load_line.ensures.rest in
    stands-reset c.load_line.new.self c.clear.new.self law config c.new-self.result c.load.new.self
    c.in_ok-load_line.ensures.rest cleared c.new-self.ensures
    (none-says c.load.result _ c.is_none.result
    (c.load.ensures.none (format_after law config []) (packet_size config) config.prefill (heard_in law config [])
    (calls_in law config []) (rw (speech_is, law_is) ours.speech)) c.is_none.ensures c.if-is_none.true)

pub returns-clause-loaded : goal.returns-clause-loaded
returns-clause-loaded c = λ other law config items before rest stands fits mine e.
    let theirs = keeps-of other law config items stands in
    let cleared = c.clear.ensures.stands law config before mine in
    let ours = keeps-of c.clear.new.self law config [] cleared in
    let first = c.in_ok-numbers.ensures.loaded other (saved_line other.line ++ (saved_speech other.speech ++ rest))
    fits.numbers (e ∙ circuit-octets other rest) in
    let role = theirs.line.role_is ∙ sym (ap (λ (k : CircuitConfig). k.role) ours.config_is) in
    let second = c.in_ok-load_line.ensures.loaded other.line
    (saved_speech other.speech ++ rest) role fits.line first.1 in
    let law_is = ap (λ (k : Circuit). k.law) c.in_ok-load_line.ensures.rest ∙ ours.law_is in
    let speech_is = ap (λ (k : Circuit). k.speech) c.in_ok-load_line.ensures.rest in
    let third = c.load.ensures.loaded other.speech (format_after law config items) (format_after law config [])
    (packet_size config) config.prefill (heard_in law config items) (heard_in law config [])
    (calls_in law config items) (calls_in law config []) rest (rw law_is theirs.speech)
    fits.speech (rw (speech_is, law_is) ours.speech) second.2 in
    let config_is = ap (λ (k : Circuit). k.config) c.in_ok-load_line.ensures.rest ∙ ours.config_is in
    let numbers = numbers-told c.in_ok-numbers.numbers other.clock other.sequence other.sent_count other.received
    other.dropped first.0 in (
      refl,
      same-circuit _ other (law_is ∙ sym theirs.law_is) (config_is ∙ sym theirs.config_is) second.1 third.1 numbers.0
          numbers.1 numbers.2 numbers.3 numbers.4,
      third.2,
    )

pub returns-clause-read : goal.returns-clause-read
unfolding saved_circuit
returns-clause-read c =
    let n = c.in_ok-numbers.numbers in
    read-three
    (saved_clocks n.clocks.clock n.clocks.sequence ++ saved_counts n.counts.sent n.counts.received n.counts.dropped)
    (saved_line c.load_line.new.self.line) (saved_speech c.load.new.self) _ _ _ _ c.in_ok-numbers.ensures.read
    c.in_ok-load_line.ensures.read
    (some-says c.load.result _ c.is_none.result c.load.ensures.read c.is_none.ensures c.if-is_none.false)
