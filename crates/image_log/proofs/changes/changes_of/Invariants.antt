use Rattle.std.proofs.Common.{◌≡◌, length}
use Rattle.redo_text.specs.Text.{text_of}
use Rattle.image_log.proofs.ChangeLists.{ReadsUpTo}
use Rattle.image_log.proofs.changes.changes_of.Given as goal

abbrev pub invariant-reading : goal.invariant-reading
invariant-reading l = ReadsUpTo l.text l.changes.items l.reader.rest × (l.reader.at ≡ length (text_of l.changes.items))

abbrev pub decreases-reading : goal.decreases-reading
decreases-reading l = length l.reader.rest
