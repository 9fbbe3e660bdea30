use Rattle.std.proofs.Common.{◌≡◌, ◌≢◌, ◌<◌, ◌*◌, length, slice_index, slice_index_or, arith, rules}
use Rattle.std.proofs.Common.{get_or-set_other, get_or-set_same, below_more, set, refl}
use Rattle.std.proofs.lemmas.List.{get_or_default}
use Rattle.gw_circuit.specs.declared.config.CircuitConfig.{CircuitConfig}
use Rattle.gw_circuit.specs.Replies.{packet_size}
use Rattle.gw_repeat.proofs.repeating.packet_words.Goals as goal

pub loop-place-preserved : goal.loop-place-preserved
loop-place-preserved c = record {
  len = search rules;
  each = λ i d below. below_more
      (λ k. (e : CircuitConfig) → slice_index (set c.loop-place.words c.loop-place.place
      (8 * (slice_index_or c.args.circuits.now c.loop-place.place c.index-circuits-place.result).ptime)) k
      ≡ packet_size (slice_index_or c.args.circuits.now k e)) c.loop-place.place
      (λ k h e. let ne : k ≢ c.loop-place.place = omega arith in
      rw get_or-set_other (c.loop-place.invariant.each k e h))
      (λ e. let lt : c.loop-place.place < length c.loop-place.words =
      omega (arith, c.loop-place.invariant.len, c.loop-place-test.true) in
      rw (
        get_or-set_same,
        get_or_default c.args.circuits.now c.loop-place.place e c.index-circuits-place.result
            (omega (arith, c.told-circuits, c.loop-place-test.true)),
        ← c.index-circuits-place.is,
      ) refl)
      i below d;
}
