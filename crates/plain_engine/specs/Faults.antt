-- The causes of refusals.
use Rattle.disk_model.specs.declared.names.DiskError.{DiskError}
use Rattle.disk_model.specs.declared.names.DiskError.TheVariants.{Failed, NoMemory}
use Rattle.plain_engine.specs.declared.fault.StartFault.{StartFault}
use Rattle.plain_engine.specs.declared.fault.StartFault.TheVariants.{DiskFault, OutOfMemory}

-- the refusal that tells an error of the disk
abbrev pub start_fault : DiskError → StartFault
start_fault Failed = DiskFault
start_fault NoMemory = OutOfMemory
