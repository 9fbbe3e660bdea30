use Rattle.std.proofs.Common.{◌++◌, ◌+◌, ◌≡◌, ◌∙◌, ◌<◌, [], length, length-set, drop, flat_map, List, arith, sym, refl}
use Rattle.std.proofs.Common.{ap}
use Rattle.std.proofs.lemmas.Bool.{false≢true}
use Rattle.std.proofs.lemmas.List.{drop_all}
use Rattle.gw_circuit.specs.declared.config.CircuitConfig.{CircuitConfig}
use Rattle.gw_state.specs.Layout.{saved_settings, SettingsFit}
use Rattle.gw_switch.proofs.Loading.{one-read, one-more, next-saved, same-front}
use Rattle.gw_state.proofs.Setups.{all-taken}
use Rattle.gw_state.proofs.settings.read_circuits.Goals as goal

pub returns-then-not-is_read-clause-next : goal.returns-then-not-is_read-clause-next
returns-then-not-is_read-clause-next c = λ saved rest thirty fit e.
    let i = c.loop-number.number in
    let less : i < length saved = omega (arith, thirty, c.loop-number-test.true) in
    let prior = c.loop-number.invariant.next saved rest thirty fit e in
    let x = c.read_or-is_read.result.0 in
    let told = c.read_or-is_read.ensures.next _ (flat_map saved_settings (drop (i + 1) saved) ++ rest)
    (fit i x less) (next-saved saved_settings saved i x c.loop-number.octets rest prior.1 less) in
    absurd (false≢true (sym c.if-not-is_read.true ∙ told.1))

pub loop-number-preserved : goal.loop-number-preserved
loop-number-preserved c =
    let i = c.loop-number.number in
    let mine = c.loop-number.circuits in
    let x = c.read_or-is_read.result.0 in
    let many = c.loop-number.invariant.many in
    let room : i < length mine = omega (arith, c.loop-number-test.true, many) in
    rw c.from-at.ensures record {
      many = length-set mine i x ∙ many;
      read = one-read saved_settings mine i x c.args.octets.now c.loop-number.octets c.read_or-is_read.new.octets
          c.loop-number.invariant.read (c.read_or-is_read.ensures.read c.if-not-is_read.false) room;
      fit = one-more SettingsFit mine i x c.loop-number.invariant.fit
          (c.read_or-is_read.ensures.fits c.if-not-is_read.false) room;
      next = λ saved rest thirty fit e.
          let less : i < length saved = omega (arith, thirty, c.loop-number-test.true) in
          let prior = c.loop-number.invariant.next saved rest thirty fit e in
          let told = c.read_or-is_read.ensures.next _ (flat_map saved_settings (drop (i + 1) saved) ++ rest)
          (fit i x less) (next-saved saved_settings saved i x c.loop-number.octets rest prior.1 less) in
          (same-front mine saved i x prior.0 told.0 room less, told.2);
    }

pub returns-clause-next : goal.returns-clause-next
returns-clause-next c = λ saved rest thirty fit e.
    let i = c.loop-number.number in
    let over = c.loop-number-test.false in
    let prior = c.loop-number.invariant.next saved rest thirty fit e in
    let none : drop i saved ≡ [] = drop_all i saved (omega (arith, thirty)) in (
      refl,
      sym (all-taken _ i c.loop-number.invariant.many over) ∙ prior.0 ∙ all-taken saved i thirty over,
      prior.1 ∙ ap (λ (cs : List CircuitConfig). flat_map saved_settings cs ++ rest) none,
    )

pub returns-clause-read : goal.returns-clause-read
returns-clause-read c =
    rw (all-taken c.loop-number.circuits c.loop-number.number c.loop-number.invariant.many c.loop-number-test.false)
    at c.loop-number.invariant.read

pub returns-clause-fits : goal.returns-clause-fits
returns-clause-fits c =
    rw (all-taken c.loop-number.circuits c.loop-number.number c.loop-number.invariant.many c.loop-number-test.false)
    at c.loop-number.invariant.fit
