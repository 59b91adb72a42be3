use Rattle.std.proofs.Common.{◌≡◌, drop}
use Rattle.store_files.specs.Pages.{Head, mtr_acts}
use Rattle.image_pages.proofs.acting.head_after_mtr.Given as goal

abbrev pub invariant-loop-change : goal.invariant-loop-change
invariant-loop-change l = mtr_acts (drop l.change-index l.change-items) l.space 0 (Head l.info) ≡ mtr_acts l.change-items l.space 0 (Head l.fn.info)
