-- The laws, for the crates above.
use Rattle.std.proofs.Common.{◌≡◌, ◌∙◌, refl, arith}
use Rattle.std.specs.Prelude.{Result, Ok, Err}
use Rattle.q421_line.specs.declared.State.{State}
use Rattle.q421_line.specs.declared.LineFault.{LineFault}
use Rattle.q421_line.specs.Recognition.{recognised}
use Rattle.q421_line.specs.Tables.{sent_pair}
use Rattle.q421_line.specs.Commands.{command_outcome, told_of}
use Rattle.q421_line.specs.Signalling.{LineState, signalling, command, wait, after_outcome}
use Rattle.q421_line.specs.Laws.{PairsAreRecognisedByTen, SeizuresAreReleased}
use Rattle.q421_line.specs.Laws.{SeizuresAreReleasedByTheHundredth, RefusedCommandsChangeNothing}
use Rattle.q421_line.specs.Laws.{WaitsChangeNothingElse, SentPairsFit, IncomingIsNeverSeized}
use Rattle.q421_line.proofs.Runs.{recognised-replicate, recognised-short}
use Rattle.q421_line.proofs.Steps.{signalling-push}
use Rattle.q421_line.proofs.Seizure.{seizure-short, seizure-hundredth}
use Rattle.q421_line.proofs.Incoming.{incoming-never}

-- a pair is recognised when the last ten known pairs are it, and stays so until another one is
pub recognised_by_ten : PairsAreRecognisedByTen
unfolding recognised
recognised_by_ten = (refl, recognised-replicate, recognised-short)

-- no seizure lasts as many signals as the wait has
pub seizure_released : SeizuresAreReleased
seizure_released = seizure-short

-- none lasts a hundred if no wait was given
pub seizure_released_by_the_hundredth : SeizuresAreReleasedByTheHundredth
seizure_released_by_the_hundredth = seizure-hundredth

-- an outcome that is answered by a fault changes nothing
outcome-refused : (line : LineState) (led : Result State LineFault) (fault : LineFault) → told_of led ≡ Err fault
    → after_outcome line led ≡ line
outcome-refused line (Ok state) fault refused = cc
outcome-refused line (Err other) fault refused = refl

-- a refused command changes nothing of the signalling
pub signalling_refused : RefusedCommandsChangeNothing
signalling_refused role items asked fault refused =
    signalling-push role items (command asked)
    ∙ outcome-refused (signalling role items) (command_outcome role asked (signalling role items).state) fault refused

-- a wait changes only the wait
pub signalling_waiting : WaitsChangeNothingElse
signalling_waiting role items signals = signalling-push role items (wait signals)

-- a nibble that is sent is four bits
pub sent_nibble_fits : SentPairsFit
unfolding sent_pair
sent_nibble_fits = grind arith

-- an incoming line is never Seized or Releasing
pub incoming_never_seized : IncomingIsNeverSeized
incoming_never_seized = incoming-never
