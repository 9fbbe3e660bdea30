use Rattle.gw_circuit.proofs.Common.{◌++◌, ◌∙◌, append_assoc, saved_clocks, saved_counts}
use Rattle.gw_circuit.proofs.circuit.saving.load_numbers.Goals as goal

pub returns-in_err-counts-clause-loaded : goal.returns-in_err-counts-clause-loaded
returns-in_err-counts-clause-loaded c = λ k rest fits e.
    let counts = saved_counts k.sent_count k.received k.dropped in
    let first = c.in_ok-clocks.ensures.loaded k.clock k.sequence (counts ++ rest) fits.clock fits.sequence
    (e ∙ append_assoc (saved_clocks k.clock k.sequence) counts rest) in
    let told = c.in_err-counts.ensures.loaded k.sent_count k.received k.dropped rest fits.sent_count fits.received
    fits.dropped first.1 in
    absurd (cc told.0)

pub returns-clause-loaded : goal.returns-clause-loaded
returns-clause-loaded c = λ k rest fits e.
    let counts = saved_counts k.sent_count k.received k.dropped in
    let first = c.in_ok-clocks.ensures.loaded k.clock k.sequence (counts ++ rest) fits.clock fits.sequence
    (e ∙ append_assoc (saved_clocks k.clock k.sequence) counts rest) in
    let second = c.in_ok-counts.ensures.loaded k.sent_count k.received k.dropped rest fits.sent_count fits.received
    fits.dropped first.1 in
    (cc (first.0, second.0), second.1)
