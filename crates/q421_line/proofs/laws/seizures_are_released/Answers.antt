use Rattle.q421_line.proofs.Callers.{seizure_released, seizure_released_by_the_hundredth}
use Rattle.q421_line.proofs.laws.seizures_are_released.Goals as goal

pub returns-clause-by_the_wait : goal.returns-clause-by_the_wait
returns-clause-by_the_wait c = seizure_released

pub returns-clause-by_the_hundredth : goal.returns-clause-by_the_hundredth
returns-clause-by_the_hundredth c = seizure_released_by_the_hundredth
