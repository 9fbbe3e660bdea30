-- The time that the clock of an emulated circuit tells (module `system`).
use Rattle.std.specs.Prelude.{◌/◌, ◌-◌, ◌^◌, ℕ, min, Option, Some, None}
use Rattle.std.specs.Duration.{as_nanos}
use Rattle.std.specs.declared.time.Duration.{Duration}

-- the whole microseconds of a time, up to the greatest u64
abbrev pub micros : Duration → ℕ
micros time = min (as_nanos time / 1000) (2 ^ 64 - 1)

-- the time that is told if the system shows that this has passed, or the last if it shows none
abbrev pub time_told : Option Duration → ℕ → ℕ
time_told (Some passed) last = micros passed
time_told None last = last
