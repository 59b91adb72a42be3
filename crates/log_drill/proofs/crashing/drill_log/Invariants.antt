use Rattle.std.proofs.Common.{◌≡◌, ◌*◌}
use Rattle.disk_model.specs.Contents.{events}
use Rattle.disk_model.specs.declared.names.FileName.TheVariants.{Log as LogFile}
use Rattle.places.specs.Places.{HasPlaces}
use Rattle.redo_log.specs.Blocks.{Keys, IsStoreKey}
use Rattle.log_drill.specs.Kept.{drill_key, IsBetween}
use Rattle.log_drill.proofs.crashing.drill_log.Given as goal
use Rattle.crash_image.specs.LogForm.{log_places}

abbrev pub invariant-loop-round : goal.invariant-loop-round
invariant-loop-round l = (l.log.blocks ≡ 32) × HasPlaces LogFile (log_places 32) (events l.disk.contents) × ((keys : Keys) → IsStoreKey keys drill_key → IsBetween keys (3 * l.round) l.log (events l.disk.contents))
