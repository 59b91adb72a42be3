-- A log's file of a ring of 4096 blocks that was made.
use Rattle.std.proofs.Common.{◌≡◌, ◌∷◌, Some, None, sym, subst, ◌∙◌}
use Rattle.std.proofs.lemmas.Option.{same_Some, none-some}
use Rattle.disk_model.specs.Event.{Make}
use Rattle.disk_model.specs.Past.{Past, At, grow}
use Rattle.disk_model.specs.declared.names.FileName.TheVariants.{Log as LogFile}
use Rattle.places.proofs.FileSteps.{file_of_places}
use Rattle.places.specs.Places.{HasFile}
use Rattle.redo_log.proofs.FreshLog.{fresh_make}
use Rattle.crash_image.specs.LogForm.{log_places}

pub places_made : (old new : Past) → new ≡ grow (Make LogFile 16789504) old → At (HasFile LogFile (log_places 4096)) new
places_made None new is = record { here = λ es e. absurd (none-some es (sym is ∙ e)) }
places_made (Some os) new is = record { here = λ es e. subst (HasFile LogFile (log_places 4096)) (same_Some (Make LogFile 16789504 ∷ os) es (sym is ∙ e)) (file_of_places LogFile (log_places 4096) _ (fresh_make 4096 os).places) }
