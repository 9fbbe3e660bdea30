-- What is written to a connection, and why it is closed (module `client`).
use Rattle.std.specs.Prelude.{◌≡◌, ◌⊎◌, ◌<◌, ℕ, List, [], length, Result, Err, false}
use Rattle.std.specs.declared.io.ErrorKind.{ErrorKind}
use Rattle.mio.specs.declared.net.uds.stream.UnixStream.{UnixStream}
use Rattle.gw_trunk.specs.Device.{HasFailed, IsOver, is_over, passed_count}
use Rattle.gw_trunk.specs.System.{SystemRead, SystemWrote}

-- a write to a connection failed otherwise than that there is no room now
abbrev pub WriteFails : UnixStream → Type 0
WriteFails stream = (octets : List ℕ) × HasFailed (λ (kind : ErrorKind). SystemWrote stream octets (Err kind))

-- the last read of a connection says that its other end is there
abbrev pub IsThere : UnixStream → Type 0
IsThere stream = (read : Result ℕ ErrorKind) × SystemRead stream read × (is_over read ≡ false)

-- the other end of a connection has closed it, or the connection has failed
abbrev pub HasLeft : UnixStream → Type 0
HasLeft stream = WriteFails stream ⊎ IsOver (SystemRead stream)

-- the last write to a connection did not take all of its octets
abbrev pub IsShort : UnixStream → Type 0
IsShort stream = (octets : List ℕ) × (written : Result ℕ ErrorKind)
    × SystemWrote stream octets written × (passed_count written < length octets)

-- these octets wait for a connection, and only because it did not take all that was written last
abbrev pub WaitsShort : UnixStream → List ℕ → Type 0
WaitsShort stream waits = (waits ≡ []) ⊎ IsShort stream
