-- What a session's disk answers once it was stopped.
use Rattle.std.specs.Prelude.{ℕ, Option, Some, None, Result, Ok, Err}
use Rattle.disk_model.specs.declared.names.DiskError.{DiskError}
use Rattle.disk_model.specs.declared.names.DiskError.TheVariants.{Failed, NoMemory}
use Rattle.counted_disk.specs.declared.counted.Counted.{Counted}
use Rattle.counted_disk.specs.declared.counted.Stop.{Stop}
use Rattle.session_core.specs.declared.fault.EngineFault.{EngineFault}
use Rattle.session_core.specs.declared.fault.EngineFault.TheVariants.{DiskFault, Down, OutOfMemory}

-- the refusal of each call of a session whose disk was stopped by this error, at this turn
abbrev pub stopped_fault : DiskError → ℕ → EngineFault
stopped_fault Failed turn = Down turn
stopped_fault NoMemory turn = OutOfMemory

-- what a session answers before all else
abbrev pub up_or_refused : Option Stop → ℕ → Result (Unit {0}) EngineFault
up_or_refused None turn = Ok tt
up_or_refused (Some s) turn = Err (stopped_fault s.error turn)

-- the refusal of a call in which the disk answered this error, at this turn
abbrev pub device_fault : DiskError → ℕ → EngineFault
device_fault Failed turn = DiskFault turn
device_fault NoMemory turn = OutOfMemory
