use Rattle.std.proofs.Common.{◌≡◌, List, length}
use Rattle.image_log.proofs.ChangeLists.{ReadsUpTo}
use Rattle.redo_text.specs.Text.{text_of}
use Rattle.redo_text.specs.declared.change.Change.{Change}
use Rattle.recovery.specs.Changing.{ChangesRange}
use Rattle.recovery.specs.Loading.{HoldsRange}
use Rattle.recovery.specs.Rounds.{has_later}
use Rattle.recovery.proofs.changing.apply_text.Given as goal

abbrev pub invariant-changes : goal.invariant-changes
invariant-changes l =
    HoldsRange (has_later l.notes l.last) l.round.info.space l.round.from l.round.end l.pool
    × ((cs : List Change) × ReadsUpTo l.text cs l.changes.rest × (l.changes.at ≡ length (text_of cs)) × ChangesRange l.notes l.last l.round.info.space l.round.from l.round.end l.lsn cs l.fn.pool l.pool)

abbrev pub decreases-changes : goal.decreases-changes
decreases-changes l = length l.changes.rest
