use Rattle.std.proofs.Common.{◌≡◌}
use Rattle.disk_model.specs.Contents.{events}
use Rattle.disk_model.specs.declared.names.FileName.TheVariants.{Log as LogFile}
use Rattle.places.specs.Places.{HasPlaces}
use Rattle.log_drill.proofs.crashing.count_scan.Given as goal
use Rattle.crash_image.specs.LogForm.{log_places}

abbrev pub invariant-loop : goal.invariant-loop
invariant-loop l = (l.log.blocks ≡ 32) × HasPlaces LogFile (log_places 32) (events l.disk.contents)
