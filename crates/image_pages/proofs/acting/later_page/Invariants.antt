use Rattle.std.proofs.Common.{◌≡◌, drop}
use Rattle.store_files.specs.Pages.{page_held, mtr_acts}
use Rattle.image_pages.proofs.acting.later_page.Given as goal
use Rattle.store_image.specs.Recovers.{later_by}

abbrev pub invariant-loop-entry : goal.invariant-loop-entry
invariant-loop-entry l = later_by mtr_acts l.lsn (drop l.entry-index l.run) l.space l.number (page_held l.page) ≡ later_by mtr_acts l.lsn l.run l.space l.number (page_held l.fn.page)
