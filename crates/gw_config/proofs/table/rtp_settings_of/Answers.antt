use Rattle.gw_config.specs.Meaning.{rtp_settings_of}
use Rattle.gw_config.proofs.table.rtp_settings_of.Goals as goal

pub returns : goal.returns
unfolding rtp_settings_of
returns c =
    let ssrc = rw c.from.ensures at c.in_ok-ssrc.ensures.value in
    rw (
      ← c.in_ok-ptime.ensures.value,
      ← c.in_ok-prefill.ensures.value,
      ← ssrc,
      ← c.in_ok-sequence.ensures.value,
      ← c.in_ok-timestamp.ensures.value,
    )
