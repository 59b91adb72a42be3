use Rattle.disk_model.specs.Contents.{events}
use Rattle.disk_model.specs.declared.names.FileName.TheVariants.{Log as LogFile}
use Rattle.log_drill.proofs.LogFiles.{places_crashed}
use Rattle.log_drill.proofs.rows.crashed.Goals as goal
use Rattle.crash_image.specs.LogForm.{log_places}

pub returns-clause-places : goal.returns-clause-places
returns-clause-places c = places_crashed LogFile (log_places 32) _ (events c.args.disk.now.contents) (events c.in-Ok.after.contents) c.requires c.in-Ok.ensures.crash
