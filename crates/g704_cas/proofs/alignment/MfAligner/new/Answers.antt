use Rattle.g704_cas.proofs.Standing.{stands-new}
use Rattle.g704_cas.proofs.alignment.MfAligner.new.Goals as goal

pub returns : goal.returns
returns c = stands-new
