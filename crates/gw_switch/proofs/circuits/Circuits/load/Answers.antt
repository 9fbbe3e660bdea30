use Rattle.gw_switch.proofs.Common.{◌++◌, ◌+◌, ◌∙◌, ◌<◌, length, drop, arith, refl, false≢true, saved_channel}
use Rattle.gw_switch.proofs.Common.{saved_circuits}
use Rattle.gw_switch.proofs.Loading.{one-read, next-saved, same-front}
use Rattle.gw_switch.proofs.CircuitsLoading.{same-behind, alike-at}
use Rattle.gw_switch.proofs.circuits.Circuits.load.Goals as goal

pub returns-then-not-load_channel-clause-loaded : goal.returns-then-not-load_channel-clause-loaded
returns-then-not-load_channel-clause-loaded c = λ saved rest alike e.
    let i = c.loop-number.number in
    let before = c.loop-number-test.true in
    let x = c.load_channel.new.channel in
    let all : i < length c.args.self.now.channels.items =
    omega (arith, c.args.self.now.thirty, c.args.self.now.channels.ok.0) in
    let was = rw c.from.ensures at c.index_mut-channel.ensures.value in
    let first = c.loop-number.invariant.later i c.index_mut-channel.result.now (omega arith) in
    let prior = c.loop-number.invariant.loaded saved rest alike e in
    let told = c.if-not-load_channel.ensures.loaded _ (saved_circuits (drop (i + 1) saved) ++ rest)
    (alike-at c.args.self.now.channels.items saved i c.index_mut-channel.result.now x alike (was ∙ first) all)
    (next-saved saved_channel saved i x c.loop-number.octets rest prior.1 (omega (arith, alike.many))) in
    absurd (false≢true told.0)

pub loop-number-preserved : goal.loop-number-preserved
loop-number-preserved c =
    let i = c.loop-number.number in
    let before = c.loop-number-test.true in
    let x = c.load_channel.new.channel in
    let mine = c.loop-number.self.channels.items in
    let all : i < length c.args.self.now.channels.items =
    omega (arith, c.args.self.now.thirty, c.args.self.now.channels.ok.0) in
    let now : i < length mine = omega (arith, c.loop-number.self.thirty, c.loop-number.self.channels.ok.0) in
    let was = rw c.from.ensures at c.index_mut-channel.ensures.value in
    let first = c.loop-number.invariant.later i c.index_mut-channel.result.now (omega arith) in
    rw c.from.ensures record {
      read = one-read saved_channel mine i x c.args.octets.now c.loop-number.octets c.load_channel.new.octets
          c.loop-number.invariant.read (c.if-not-load_channel.ensures.read refl) now;
      later = same-behind c.args.self.now.channels.items mine i x c.loop-number.invariant.later;
      loaded = λ saved rest alike e.
          let prior = c.loop-number.invariant.loaded saved rest alike e in
          let told = c.if-not-load_channel.ensures.loaded _ (saved_circuits (drop (i + 1) saved) ++ rest)
          (alike-at c.args.self.now.channels.items saved i c.index_mut-channel.result.now x alike (was ∙ first) all)
          (next-saved saved_channel saved i x c.loop-number.octets rest prior.1 (omega (arith, alike.many))) in
          (same-front mine saved i x prior.0 told.1 now (omega (arith, alike.many)), told.2);
    }
