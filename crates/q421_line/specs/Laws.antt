-- Laws of line signals (ITU-T Q.421), for every role, state and list of signals, commands and waits.
use Rattle.std.specs.Prelude.{◌≡◌, ◌≢◌, ℕ, ◌<◌, ◌≤◌, max, List, [], ◌∷◌, ◌++◌, length, map, take, replicate}
use Rattle.std.specs.Prelude.{fold, Option, Some, None, Err}
use Rattle.q421_line.specs.declared.Role.{Role}
use Rattle.q421_line.specs.declared.Role.TheVariants.{Incoming}
use Rattle.q421_line.specs.declared.State.{State}
use Rattle.q421_line.specs.declared.State.TheVariants.{Seized, Releasing}
use Rattle.q421_line.specs.declared.Cmd.{Cmd}
use Rattle.q421_line.specs.declared.LineFault.{LineFault}
use Rattle.q421_line.specs.Recognition.{run_of, recognised}
use Rattle.q421_line.specs.Tables.{sent_pair, sent_nibble}
use Rattle.q421_line.specs.Commands.{command_outcome, told_of}
use Rattle.q421_line.specs.Signalling.{LineEvent, signal, command, wait, signalling}

-- A pair is recognised after ten equal known pairs, until another is. At first none is.
abbrev pub PairsAreRecognisedByTen : Type 0
PairsAreRecognisedByTen = (recognised [] ≡ None)
    × ((pairs : List ℕ) (pair : ℕ) → recognised (pairs ++ replicate 10 pair) ≡ Some pair)
    × ((pairs : List ℕ) (pair : ℕ) → run_of pair (pairs ++ pair ∷ []) < 10
    → recognised (pairs ++ pair ∷ []) ≡ recognised pairs)

-- a refused command changes nothing of a line's signalling
abbrev pub RefusedCommandsChangeNothing : Type 0
RefusedCommandsChangeNothing = (role : Role) (items : List LineEvent) (asked : Cmd) (fault : LineFault)
    → told_of (command_outcome role asked (signalling role items).state) ≡ Err fault
    → signalling role (items ++ command asked ∷ []) ≡ signalling role items

-- the line is Seized after these items, and with each of these signals
abbrev pub IsSeizedThrough : Role → List LineEvent → List (Option ℕ) → Type 0
IsSeizedThrough role items signals = (count : ℕ) → count ≤ length signals
    → (signalling role (items ++ map signal (take count signals))).state ≡ Seized

-- the waits among items
abbrev pub waits : List LineEvent → List ℕ
waits [] = []
waits (wait signals ∷ items) = signals ∷ waits items
waits (item ∷ items) = waits items

-- the wait after items: the last one among them, or 100 signals
abbrev pub wait_after : List LineEvent → ℕ
wait_after items = fold (λ earlier latest. latest) 100 (waits items)

-- A seizure lasts fewer signals than the wait, whatever is received. If the wait is 0 or 1, the next signal
-- releases it.
abbrev pub SeizuresAreReleased : Type 0
SeizuresAreReleased = (role : Role) (items : List LineEvent) (signals : List (Option ℕ))
    → IsSeizedThrough role items signals → length signals < max 1 (wait_after items)

-- so if no wait was given, a seizure lasts fewer than a hundred signals
abbrev pub SeizuresAreReleasedByTheHundredth : Type 0
SeizuresAreReleasedByTheHundredth = (role : Role) (items : List LineEvent) (signals : List (Option ℕ))
    → waits items ≡ [] → IsSeizedThrough role items signals → length signals < 100

-- a wait changes only the release of a seizure
abbrev pub WaitsChangeNothingElse : Type 0
WaitsChangeNothingElse = (role : Role) (items : List LineEvent) (signals : ℕ)
    → signalling role (items ++ wait signals ∷ [])
    ≡ record (signalling role items) { released_after = signals }

-- the bits sent in a state are four
abbrev pub SentPairsFit : Type 0
SentPairsFit = (role : Role) (state : State) → sent_nibble (sent_pair role state) < 16

-- only an outgoing line seizes and releases
abbrev pub IncomingIsNeverSeized : Type 0
IncomingIsNeverSeized = (items : List LineEvent)
    → ((signalling Incoming items).state ≢ Seized) × ((signalling Incoming items).state ≢ Releasing)
