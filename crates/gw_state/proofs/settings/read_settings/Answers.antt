use Rattle.std.proofs.Common.{◌++◌, ◌∙◌, ap, arith}
use Rattle.saved_octets.specs.Numbers.{two_octets}
use Rattle.gw_state.specs.Layout.{saved_start}
use Rattle.gw_state.proofs.Setups.{settings-octets, is-made, some-same}
use Rattle.gw_state.proofs.settings.read_settings.Goals as goal

pub returns-in_err-prefill-clause-next : goal.returns-in_err-prefill-clause-next
returns-in_err-prefill-clause-next c = λ k rest fits e.
    let behind = saved_start k.ssrc k.sequence k.timestamp ++ rest in
    let first = c.in_ok-coding.ensures.next k.role k.codec k.payload_type k.ptime (two_octets k.prefill ++ behind)
    (e ∙ settings-octets k rest) in
    let told = c.in_err-prefill.ensures.next k.prefill k.ssrc k.sequence k.timestamp rest
    (omega (arith, k.prefill_fits)) fits.ssrc fits.sequence fits.timestamp first.1 in
    absurd (cc told.0)

pub returns-clause-next : goal.returns-clause-next
returns-clause-next c = λ k rest fits e.
    let behind = saved_start k.ssrc k.sequence k.timestamp ++ rest in
    let first = c.in_ok-coding.ensures.next k.role k.codec k.payload_type k.ptime (two_octets k.prefill ++ behind)
    (e ∙ settings-octets k rest) in
    let told = c.in_ok-prefill.ensures.next k.prefill k.ssrc k.sequence k.timestamp rest
    (omega (arith, k.prefill_fits)) fits.ssrc fits.sequence fits.timestamp first.1 in
    let numbers = some-same _ _ told.0 in (
      is-made c.new.result k c.in_ok-coding.coding c.in_ok-prefill.prefill c.in_ok-prefill.start c.new.ensures.limits
          c.new.ensures.holds (some-same _ _ first.0) (ap (λ p. p.0) numbers) (ap (λ p. p.1) numbers),
      told.1,
    )
