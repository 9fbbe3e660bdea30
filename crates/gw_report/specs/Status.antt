-- The status of the program at each fault: 1 at a fault of a session, a socket or a trunk other than want of
-- memory, if a state is not saved, or a log has too little room or takes no writes, 3 for want of memory, and
-- else 2.
use Rattle.std.specs.Prelude.{ℕ}
use Rattle.gw_config.specs.declared.fault.ConfigFault.{ConfigFault}
use Rattle.gw_config.specs.declared.fault.ConfigFault.TheVariants as configs
use Rattle.gw_records.specs.declared.outcome.RunFault.{RunFault}
use Rattle.gw_records.specs.declared.outcome.RunFault.TheVariants as faults
use Rattle.gw_state.specs.declared.fault.LoadFault.{LoadFault}
use Rattle.gw_state.specs.declared.fault.LoadFault.TheVariants as loads
use Rattle.gw_report.specs.declared.program_fault.ProgramFault.{ProgramFault}
use Rattle.gw_report.specs.declared.program_fault.ProgramFault.TheVariants as program_faults

-- the status at a fault of a session
abbrev pub fault_status : RunFault → ℕ
fault_status faults.OutOfMemory = 3
fault_status _ = 1

-- the status where a configuration is refused
abbrev pub config_status : ConfigFault → ℕ
config_status configs.OutOfMemory = 3
config_status (configs.Refused kind place) = 2

-- the status where a state is refused
abbrev pub load_status : LoadFault → ℕ
load_status loads.OutOfMemory = 3
load_status (loads.Refused kind place) = 2

-- the status at any fault
abbrev pub program_fault_status : ProgramFault → ℕ
program_fault_status (program_faults.Session fault) = fault_status fault
program_fault_status (program_faults.Socket circuit) = 1
program_fault_status (program_faults.FarEnd words) = 1
program_fault_status (program_faults.Trunk words) = 1
program_fault_status (program_faults.LogRoom folder octets) = 1
program_fault_status (program_faults.LogLost folder) = 1
program_fault_status (program_faults.NotSaved words) = 1
program_fault_status (program_faults.State path fault) = load_status fault
program_fault_status (program_faults.Config fault) = config_status fault
program_fault_status program_faults.OutOfMemory = 3
program_fault_status _ = 2
