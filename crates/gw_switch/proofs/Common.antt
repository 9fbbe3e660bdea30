-- The names that most modules of this crate cite, passed on from one place. Declares nothing.
pub use Rattle.e1_g711.specs.declared.Law.{Law}
pub use Rattle.g704_align.proofs.Callers.{place_alike, place_append}
pub use Rattle.g704_align.specs.Placing.{frames, number_of, place}
pub use Rattle.g704_align.specs.declared.alignment.Place.{Place}
pub use Rattle.g704_align.specs.declared.alignment.Place.TheVariants.{Hunting, Slot}
pub use Rattle.g704_cas.specs.Numbers.{circuit_in, frame_with, slot_of}
pub use Rattle.g704_cas.specs.Placing.{frame_of, multiframes}
pub use Rattle.g704_cas.specs.declared.alignment.MfPlace.{MfPlace}
pub use Rattle.g704_framing.specs.Places.{IsAlignedAlike, IsAlikeAlong, KeepsZero, alignments_in}
pub use Rattle.gw_circuit.proofs.Loading.{read-three}
pub use Rattle.gw_circuit.specs.Items.{CircuitEvent}
pub use Rattle.gw_circuit.specs.declared.circuit.Circuit.{Circuit}
pub use Rattle.gw_circuit.specs.declared.config.CircuitConfig.{CircuitConfig}
pub use Rattle.gw_switch.specs.Circuits.{IsCircuit, KeepsOthers, StandsAt, TakesWait}
pub use Rattle.gw_switch.specs.Events.{Event, at_octet, items_of, octets, octets_after, own_one, seen_of, view_from}
unfoldable pub use Rattle.gw_switch.specs.Events.{view}
pub use Rattle.gw_switch.specs.Hearing.{abcd, in_frame, in_slot, in_slot16, latest, multiframe_place, nibble_of}
pub use Rattle.gw_switch.specs.Hearing.{slot16_octets, speech, with_octet}
unfoldable pub use Rattle.gw_switch.specs.Hearing.{heard, remote_frame, remote_multiframe, signalled}
pub use Rattle.gw_switch.specs.Lending.{IsAt, with_circuit}
pub use Rattle.gw_switch.specs.Lives.{config_after, items_since, life, next_config, next_since, replies_from}
pub use Rattle.gw_switch.specs.Reconfigured.{AreRenewals, HasTaken, IsRenewal, RenewalsAreApart, RenewalsConfigure}
pub use Rattle.gw_switch.specs.Saved.{AreAlike, AreConfiguredAlike, ChannelFits, GatewayFits, IsAlike, IsNibble, IsSame}
pub use Rattle.gw_switch.specs.Saved.{saved_alarms, saved_channel, saved_circuits, saved_nibble, saved_nibbles}
pub use Rattle.gw_switch.specs.Saved.{saved_slot, saved_slots}
unfoldable pub use Rattle.gw_switch.specs.Saved.{saved_gateway, saved_signalling, saved_trunk}
pub use Rattle.gw_switch.specs.Standing.{AnswersOctet, CircuitsStand}
unfoldable pub use Rattle.gw_switch.specs.Standing.{HasHistory}
pub use Rattle.gw_switch.specs.Trunk.{AwaitsTurn, HasHeard, HasNoTurn, HasTurn, HearsAt, nibble_turn, since}
pub use Rattle.gw_switch.specs.Whole.{config_in, config_of, nibble_sent, plain, sent, spare_config, speech_out}
unfoldable pub use Rattle.gw_switch.specs.Whole.{octet_reply}
pub use Rattle.gw_switch.specs.declared.GatewayConfig.{GatewayConfig}
pub use Rattle.gw_switch.specs.declared.circuits.BoxedCircuit.{BoxedCircuit}
pub use Rattle.gw_switch.specs.declared.gateway.Gateway.{Gateway}
pub use Rattle.gw_switch.specs.declared.trunk.Trunk.{Trunk}
pub use Rattle.saved_octets.specs.Numbers.{two_octets}
pub use Rattle.std.proofs.Common.{All, Bool, IfSome, List, None, Option, Some, SomeIff, [], add-one, add-zero, ap}
pub use Rattle.std.proofs.Common.{append-nil, append_assoc, arith, cond, drop, eqb, false, flat_map, get_or}
pub use Rattle.std.proofs.Common.{get_or-set_other, inl, inr, length, refl, rules, slice_index_or, slice_set, subst}
pub use Rattle.std.proofs.Common.{suc, sym, take, true, vec_len, zero, zero-add, ℕ, ◌%◌, ◌*◌, ◌++◌, ◌+◌, ◌-◌, ◌/◌, ◌<◌}
pub use Rattle.std.proofs.Common.{◌∙◌, ◌∷◌, ◌≡◌, ◌≢◌, ◌≤◌, ◌⊎◌}
pub use Rattle.std.proofs.Math.ListN.{length-set}
pub use Rattle.std.proofs.Math.Seq.{get_or-append_seam}
pub use Rattle.std.proofs.lemmas.Bool.{cases_Bool, cases_eq, cases_lt, eq-eqb, false≢true, ne_eqb}
pub use Rattle.std.proofs.lemmas.Bool.Decides.{nat_tests}
pub use Rattle.std.proofs.lemmas.Grind.{common_steps}
pub use Rattle.std.proofs.lemmas.List.{get_or-drop, get_or-replicate, get_or_append_left, get_or_default, get_or_push}
pub use Rattle.std.proofs.lemmas.List.{length-append, length-take-le, length_push, set-get_or, take_all}
pub use Rattle.std.proofs.lemmas.List.Elements.{All-push, All-weaker, recursion_from_All}
pub use Rattle.std.proofs.lemmas.List.Sums.{fold-append}
pub use Rattle.std.specs.Prelude.{option_map, slice_index, unwrap_or, vec_capacity, ◌&&◌, ◌==◌}
