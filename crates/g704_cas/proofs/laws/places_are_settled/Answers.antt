use Rattle.g704_cas.proofs.Callers.{place_append}
use Rattle.g704_cas.proofs.laws.places_are_settled.Goals as goal

pub returns : goal.returns
returns c = place_append
