-- No pair is known at first.
use Rattle.std.proofs.Common.{refl}
use Rattle.q421_line.specs.Recognition.{recognised}
use Rattle.q421_line.proofs.recognition.Recognition.new.Goals as goal

pub returns : goal.returns
unfolding recognised
returns c = record { latest_is = refl; run_is = λ pair some. cc; recognised_is = refl }
