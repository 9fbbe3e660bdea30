use Rattle.std.proofs.Common.{◌∙◌}
use Rattle.g704_align.proofs.Standing.{place-aligned, place-unless_after, place-unless_before}
use Rattle.g704_align.proofs.alignment.place_between.Goals as goal

pub returns-in-Aligned-Aligned-clause-placed : goal.returns-in-Aligned-Aligned-clause-placed
returns-in-Aligned-Aligned-clause-placed c earlier octets octet h f =
    c.slot_at.ensures ∙ place-aligned earlier octets octet _ _ _ _ _ _ (rw c.in-Aligned-Aligned.is-0 at h)
    (rw c.in-Aligned-Aligned.is-1 at f)

pub returns-in_default-clause-placed : goal.returns-in_default-clause-placed
returns-in_default-clause-placed c earlier octets octet h f =
    place-unless_after c.args.after earlier octets octet f c.in_default.not-Aligned-1

pub returns-in_default-2-clause-placed : goal.returns-in_default-2-clause-placed
returns-in_default-2-clause-placed c earlier octets octet h f =
    place-unless_before c.args.before earlier octets octet h c.in_default.not-Aligned-0
