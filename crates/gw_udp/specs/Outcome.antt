-- The results of the system's socket calls.
use Rattle.std.specs.Prelude.{◌≡◌, ◌≢◌, ◌⊎◌, ⊤, ℕ, pos, Option, Some, None, Result, Ok, Err, IsErrAnd}
use Rattle.std.specs.IoError.{error_kind, raw_os_error}
use Rattle.std.specs.declared.io.Error.{Error}
use Rattle.std.specs.declared.io.ErrorKind.{ErrorKind}
use Rattle.std.specs.declared.io.ErrorKind.TheVariants.{WouldBlock, ConnectionRefused}
use Rattle.gw_records.specs.declared.ports.PortFault.{PortFault}

-- A receive that would have to wait, or an absent peer, which is no fault of the port.
abbrev pub IsNoFault : ErrorKind → Type 0
IsNoFault kind = (kind ≡ WouldBlock) ⊎ (kind ≡ ConnectionRefused)

-- The result of a receive with this kind of error: none waiting, or a fault.
abbrev pub IsByKind : {X : Type 0} → ErrorKind → Result (Option X) PortFault → Type 0
IsByKind kind (Ok got) = (got ≡ None) × IsNoFault kind
IsByKind kind (Err e) = ¬ IsNoFault kind

-- A failed receive found none waiting: by the kind of its error, or by the system's number, EAGAIN (11).
abbrev pub FoundNone : Error → Type 0
FoundNone error = (raw_os_error error ≡ Some (pos 11)) ⊎ IsNoFault (error_kind error)

-- The result of a receive of the system's: the datagram, None exactly if it failed because none is waiting,
-- or a fault.
abbrev pub IsReceived : {X : Type 0} → Result X Error → Result (Option X) PortFault → Type 0
IsReceived (Ok x) r = r ≡ Ok (Some x)
IsReceived (Err error) (Ok got) = (got ≡ None) × FoundNone error
IsReceived (Err error) (Err e) = ¬ FoundNone error

-- The result of a send of this many octets: it succeeds exactly if the system took all of them.
abbrev pub IsSent : Result ℕ Error → ℕ → Result (Unit {0}) PortFault → Type 0
IsSent (Ok taken) len (Ok tt) = taken ≡ len
IsSent (Ok taken) len (Err e) = taken ≢ len
IsSent (Err error) len (Ok tt) = ⊥
IsSent (Err error) len (Err e) = ⊤

-- a send was refused for an earlier datagram
abbrev pub WasRefused : Result ℕ Error → Type 0
WasRefused sent = IsErrAnd sent (λ error. error_kind error ≡ ConnectionRefused)
