-- The names that most modules of this crate cite, passed on from one place. Declares nothing.
pub use Rattle.g704_framing.specs.Age.{age_in, is_before_loss, is_standing}
pub use Rattle.g704_framing.specs.Alignment.{AlignmentSpan, Framing, later, later_alignment, search_ends_of}
unfoldable pub use Rattle.g704_framing.specs.Alignment.{after_loss, after_search, alignments_from, loss}
pub use Rattle.g704_framing.specs.Laws.{AgesAreSettled, AgreeAlong, AlignmentsAreAlike, AlignmentsTakeTurns}
pub use Rattle.g704_framing.specs.Laws.{IsFoundAfter, IsFraming, IsLostAlike, IsRead, IsUpToLoss, OthersAreNotRead}
unfoldable pub use Rattle.g704_framing.specs.Least.{least}
pub use Rattle.g704_framing.specs.Restart.{AllLostBefore, HoldsSince, IsLostBefore, RestartsAfter, last_of, moved}
pub use Rattle.std.proofs.lemmas.Bool.{and_left, and_right, cases_eq, cases_lt, false≢true, le-leb, le-ltb, lt-leb}
pub use Rattle.std.proofs.lemmas.Bool.{lt-ltb}
pub use Rattle.std.proofs.lemmas.Bool.Decides.{nat_tests}
pub use Rattle.std.proofs.lemmas.List.Elements.{All-from_recursion, All-weaker, recursion_from_All}
pub use Rattle.std.proofs.lemmas.Option.{same_Some}
pub use Rattle.std.specs.List.{AllByRecursion}
pub use Rattle.std.specs.Prelude.{is_none, nat_le, option_map, slice_index}
