use Rattle.g704_framing.proofs.Standings.{place-over}
use Rattle.g704_cas.specs.Placing.{multiframes}
use Rattle.g704_cas.proofs.Standing.{place-first, place-next}
use Rattle.g704_cas.proofs.alignment.place_between.Goals as goal

pub returns-in_default-Searching-clause-placed : goal.returns-in_default-Searching-clause-placed
returns-in_default-Searching-clause-placed c earlier octets octet h f =
    place-over multiframes earlier octets octet (rw c.in_default-Searching.is-1 at f).0

pub returns-in-Searching-Aligned-clause-placed : goal.returns-in-Searching-Aligned-clause-placed
returns-in-Searching-Aligned-clause-placed c earlier octets octet h f =
    place-first earlier octets octet _ _ _ (rw c.in-Searching-Aligned.is-0 at h) (rw c.in-Searching-Aligned.is-1 at f)

pub returns-in-Aligned-Aligned-clause-placed : goal.returns-in-Aligned-Aligned-clause-placed
returns-in-Aligned-Aligned-clause-placed c earlier octets octet h f =
    place-next earlier octets octet _ _ _ _ (rw c.in-Aligned-Aligned.is-0 at h) (rw c.in-Aligned-Aligned.is-1 at f)
