use Rattle.std.proofs.Common.{◌≡◌, drop}
use Rattle.store_files.specs.Pages.{page_held, mtr_acts}
use Rattle.image_pages.proofs.acting.page_after_mtr.Given as goal

abbrev pub invariant-loop-change : goal.invariant-loop-change
invariant-loop-change l = mtr_acts (drop l.change-index l.change-items) l.space l.number (page_held l.page) ≡ mtr_acts l.change-items l.space l.number (page_held l.fn.page)
