-- What reads and writes of a device do (module `device`).
use Rattle.std.specs.Prelude.{◌≡◌, ◌⊎◌, ◌≤◌, ◌<◌, ◌==◌, ◌^◌, ⊤, ℕ, Bool, true, false, List, [], take}
use Rattle.std.specs.Prelude.{Option, Some, None, Result, Ok, Err, nat_lt, pos}
use Rattle.std.specs.IoError.{error_kind, raw_os_error}
use Rattle.std.specs.declared.io.Error.{Error}
use Rattle.std.specs.declared.io.ErrorKind.{ErrorKind}
use Rattle.std.specs.declared.io.ErrorKind.TheVariants.{WouldBlock, Interrupted, BrokenPipe}
use Rattle.gw_trunk.specs.declared.device.DeviceFault.{DeviceFault}
use Rattle.gw_trunk.specs.declared.device.DeviceRead.{DeviceRead}
use Rattle.gw_trunk.specs.declared.device.DeviceRead.TheVariants.{Octets, NoneNow, Ended}

-- octets that were taken are one at least, and have room
abbrev pub IsTaken : DeviceRead → ℕ → Type 0
IsTaken (Octets n) room = (0 < n) × (n ≤ room)
IsTaken NoneNow room = ⊤
IsTaken Ended room = ⊤

-- the trunk was read: octets were taken, or none had come
abbrev pub WasRead : DeviceRead → Type 0
WasRead (Octets n) = ⊤
WasRead NoneNow = ⊤
WasRead Ended = ⊥

-- what a read is told of
abbrev pub ReadResult : Type 0
ReadResult = Result DeviceRead DeviceFault

-- the octets that a read took into a room
abbrev pub octets_taken : Result DeviceRead DeviceFault → List ℕ → List ℕ
octets_taken (Ok (Octets n)) room = take n room
octets_taken (Ok NoneNow) room = []
octets_taken (Ok Ended) room = []
octets_taken (Err e) room = []

-- the octets that a call of a reader gave
abbrev pub octets_read : Result ℕ ErrorKind → List ℕ → List ℕ
octets_read (Ok n) room = take n room
octets_read (Err kind) room = []

-- the octets that a write took
abbrev pub written_of : Result (Option ℕ) DeviceFault → List ℕ → List ℕ
written_of (Ok (Some n)) octets = take n octets
written_of (Ok None) octets = []
written_of (Err e) octets = []

-- a device has an event: no octet passes before somebody has taken it (ELAST of DAHDI's user.h)
abbrev pub HasEvent : Error → Type 0
HasEvent error = raw_os_error error ≡ Some (pos 500)

-- the kind of an error of a device: while it has an event a call is to be repeated; else that of the error
abbrev pub IsKindOf : Error → ErrorKind → Type 0
IsKindOf error kind = (HasEvent error → kind ≡ WouldBlock) × (¬ HasEvent error → kind ≡ error_kind error)

-- an error says only that a call is to be repeated
abbrev pub is_for_later : ErrorKind → Bool
is_for_later WouldBlock = true
is_for_later Interrupted = true
is_for_later _ = false

-- a call ended with any other error
abbrev pub HasFailed : (ErrorKind → Type 0) → Type 0
HasFailed fails = (kind : ErrorKind) × fails kind × (is_for_later kind ≡ false)

-- a device has failed, or was waited for 2^63 times
abbrev pub FailsOrStands : {O : Type 0} → (O → Type 0) → (O → ℕ) → O → Type 0
FailsOrStands has_failed waits device = has_failed device ⊎ (2 ^ 63 ≤ waits device)

-- a write was given all of these octets
abbrev pub WasGivenAll : {O : Type 0} → (O → List ℕ → Type 0) → List ℕ → Type 0
WasGivenAll {O} was_given octets = (written : O) × was_given written octets

-- how many octets passed in a read or a write
abbrev pub passed_count : Result ℕ ErrorKind → ℕ
passed_count (Ok n) = n
passed_count (Err kind) = 0

-- a read gave octets
abbrev pub has_octets : Result ℕ ErrorKind → Bool
has_octets (Ok n) = nat_lt 0 n
has_octets (Err kind) = false

-- nothing comes any more after a read: it found the end, or failed otherwise than that nothing has come
abbrev pub is_over : Result ℕ ErrorKind → Bool
is_over (Ok n) = n == 0
is_over (Err WouldBlock) = false
is_over (Err kind) = true

-- a write says that the other end has hung up
abbrev pub is_broken_pipe : Result ℕ ErrorKind → Bool
is_broken_pipe (Err BrokenPipe) = true
is_broken_pipe read = false

-- a read gave no octets, and this is whether nothing comes any more
abbrev pub FoundNone : (Result ℕ ErrorKind → Type 0) → Bool → Type 0
FoundNone has_read ended = (read : Result ℕ ErrorKind) × has_read read × (has_octets read ≡ false)
    × (is_over read ≡ ended)

-- a read ended so that nothing comes any more
abbrev pub IsOver : (Result ℕ ErrorKind → Type 0) → Type 0
IsOver has_read = (read : Result ℕ ErrorKind) × has_read read × (is_over read ≡ true)
