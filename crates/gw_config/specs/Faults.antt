-- The numbers of the kinds of faults.
use Rattle.std.specs.Prelude.{ℕ}
use Rattle.gw_config.specs.declared.fault.FaultKind.{FaultKind}
use Rattle.gw_config.specs.declared.fault.FaultKind.TheVariants.{Syntax, UnknownKey, Missing, WrongType}
use Rattle.gw_config.specs.declared.fault.FaultKind.TheVariants.{OutOfRange, Twice, LawCodec, TooLong}

-- the number of a kind
abbrev pub kind_number : FaultKind → ℕ
kind_number Syntax = 1
kind_number UnknownKey = 2
kind_number Missing = 3
kind_number WrongType = 4
kind_number OutOfRange = 5
kind_number Twice = 6
kind_number LawCodec = 7
kind_number TooLong = 8
