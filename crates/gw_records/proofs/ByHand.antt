-- The names that proofs by hand cite, passed on from one place. Declares nothing.
pub use Rattle.std.proofs.Common.{List, [], ◌∷◌, refl, ◌++◌, ℕ, MutBor, ◌<◌, ◌^◌, length, take}
pub use base.Logic.{SProp, ent, sep, emp, via, fst∗, id⊢}
pub use contract.Monad.{Fun}
pub use contract.Running.{tables}
unfoldable pub use contract.Running.{tables_of}
pub use denote.Builtin.{RefOf, u8, usize}
pub use denote.Exit.{yes}
pub use denote.RattleType.{RattleType, Valss, owns}
pub use denote.Signature.{plain, types_at}
pub use denote.Steps.{nothing, owned, opens, closes}
pub use denote.Triple.Entry.{alive, on_entry}
pub use denote.Triple.Spec.{Meets, triple_of}
pub use denote.Triple.Table.{entered}
pub use denote.Triple.Walked.{says, Stays, stay_dropped, walk_of, ends_at, walk_Meets, Goes-dropped, stay_ref, AllGo}
pub use denote.Triple.Walked.{Goes-ref, Walks, walked, stay_none, stay_none_slice, Goes-none, Goes-none_slice}
pub use mir.Syntax.{Fn, Args, a_type, named, w8, w64}
pub use mir.Val.{Val, vstruct, vcons, vnil, vptr, vunit, vint}
pub use prog.Memory.{Memory}
pub use prog.Routine.{Routine}
pub use prog.Wp.{Calls, Loops, WpFn, Tables}
pub use seplogic.Ra.Ura.{Ura}
pub use sound.WpLaws.{WpFn-mono}
pub use types.ByLocal.{alloc_all, pass_all, free_all, look_at, get, sets}
pub use types.Kit.{Goal, Step, step, Item, ‵, ◌$◌, move, fjoin, fpack, feq_i, raw, ◌⊛◌, prop, ◌∵◌, !, qed, keep, drop}
pub use types.Kit.{split, fsplit, feq_l, regoal, suffices, done, by, use1, join, fsplit3, fjoin3, frame}
pub use types.Logic.{Logic}
pub use types.Part.{agg}
pub use types.Run.{enter, returns, and_then, no_more, unit_lit, of_opd}
