use Rattle.std.proofs.Common.{◌≡◌, drop}
use Rattle.store_files.specs.Pages.{Head, mtr_acts}
use Rattle.image_pages.proofs.acting.later_head.Given as goal
use Rattle.store_image.specs.Recovers.{later_by}

abbrev pub invariant-loop-entry : goal.invariant-loop-entry
invariant-loop-entry l = later_by mtr_acts l.lsn (drop l.entry-index l.run) l.space 0 (Head l.info) ≡ later_by mtr_acts l.lsn l.run l.space 0 (Head l.fn.info)
