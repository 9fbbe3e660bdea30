use Rattle.g704_align.proofs.Standing.{stands-new}
use Rattle.g704_align.proofs.alignment.Aligner.new.Goals as goal

pub returns : goal.returns
returns c = stands-new
