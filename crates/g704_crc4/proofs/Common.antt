-- The names that most modules of this crate cite, passed on from one place. Declares nothing.
pub use Rattle.g704_crc4.specs.Aligning.{aligned_octets, known_blocks, octets_from, octets_since, parts}
unfoldable pub use Rattle.g704_crc4.specs.Aligning.{checked_octets, count_in, errored_in, followed, is_excessive}
unfoldable pub use Rattle.g704_crc4.specs.Aligning.{is_given_up, learned, learned_of, multiframe_in, part_before}
unfoldable pub use Rattle.g704_crc4.specs.Aligning.{searched_octets, since_start}
pub use Rattle.g704_crc4.specs.Checking.{OneErrorIsFound, SentIsRight, block_event, check_bits_with, counts_of}
pub use Rattle.g704_crc4.specs.Checking.{counts_with, far_end_event, same}
unfoldable pub use Rattle.g704_crc4.specs.Checking.{counts_after, event_of, is_right}
pub use Rattle.g704_crc4.specs.Multiframe.{check_bit, sent_octets, si_at, with_si, zeroed}
unfoldable pub use Rattle.g704_crc4.specs.Multiframe.{check_bits_after, octet_at, sent_octet}
pub use Rattle.g704_crc4.specs.ReceiverCounts.{receiver_counts_with, tells_given_up}
unfoldable pub use Rattle.g704_crc4.specs.ReceiverCounts.{times_after}
pub use Rattle.g704_crc4.specs.Receivers.{GoesOn, IsFollowed, IsSearched, IsStage}
pub use Rattle.g704_crc4.specs.Receiving.{CheckBitsAreRight, LengthIsKept, OthersAreKept, SignalIsSent, cleared}
pub use Rattle.g704_crc4.specs.Receiving.{cleared_at}
unfoldable pub use Rattle.g704_crc4.specs.Receiving.{check_bits_in, remainder_in, si_of}
pub use Rattle.g704_crc4.specs.Remainder.{add, after_bits, after_octet, bit_number, crc_number, no_remainder, with_bit}
unfoldable pub use Rattle.g704_crc4.specs.Remainder.{remainder_of, sent_bits}
unfoldable pub use Rattle.g704_crc4.specs.Searching.{begins_multiframe, has_signal}
pub use Rattle.g704_crc4.specs.States.{ChecksAfter, SendsAfter, SendsNext}
unfoldable pub use Rattle.g704_crc4.specs.Submultiframes.{each_at, submultiframe}
pub use Rattle.g704_crc4.specs.declared.checking.Checker.{Checker}
pub use Rattle.g704_crc4.specs.declared.checking.Crc4Event.{Crc4Event}
pub use Rattle.g704_crc4.specs.declared.checking.Crc4Event.TheVariants.{Block}
pub use Rattle.g704_crc4.specs.declared.receiving.ReceiverEvent.TheVariants.{Found, GivenUp, Lost, Received}
pub use Rattle.g704_crc4.specs.declared.remainder.Remainder.{Remainder}
pub use Rattle.g704_framing.proofs.Standings.{since-anew, since-more, since-nothing}
pub use Rattle.g704_framing.specs.Age.{age_in}
pub use Rattle.g704_framing.specs.Laws.{IsFraming}
unfoldable pub use Rattle.g704_framing.specs.Replies.{replies_after}
pub use Rattle.g704_framing.specs.Restart.{RestartsAfter, last_of}
pub use Rattle.std.proofs.Common.{Bool, List, None, Option, Some, [], ap, append-nil, append_assoc, arith, cond, drop}
pub use Rattle.std.proofs.Common.{rules, false, get_or, inl, inr, length, length-drop, refl, slice_set, subst, suc, sym}
pub use Rattle.std.proofs.Common.{take, true, zero, ℕ, ◌%◌, ◌*◌, ◌++◌, ◌+◌, ◌-◌, ◌/◌, ◌<◌, ◌^◌, ◌∙◌, ◌∷◌, ◌≡◌, ◌≤◌}
pub use Rattle.std.proofs.Math.Seq.{drop-append_seam, take-suc}
pub use Rattle.std.proofs.lemmas.Bool.{agree_below, agree_below_at, and_left, and_parts, and_right, cases_Bool}
pub use Rattle.std.proofs.lemmas.Bool.{cases_eq, cases_lt, eq-eqb, eqb-true, false≢true, le-leb, le-ltb, lt-leb, lt-ltb}
pub use Rattle.std.proofs.lemmas.Bool.{ne_eqb, true≢false}
pub use Rattle.std.proofs.lemmas.Grind.{common_steps}
pub use Rattle.std.proofs.lemmas.List.{drop-append-le, drop_all, get_or_past, get_or_push, length-take-le, length_push}
pub use Rattle.std.proofs.lemmas.List.{take-append-le, take_all, take_more_set}
pub use Rattle.std.specs.Prelude.{bit_xor, if◌then◌else◌, min, nat_le, not, option_map, replicate, slice_index, ◌&&◌}
pub use Rattle.std.specs.Prelude.{◌==◌, ◌≢◌}
