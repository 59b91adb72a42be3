use Rattle.std.proofs.Common.{◌≡◌, drop}
use Rattle.store_files.specs.Pages.{mtr_names}
use Rattle.image_pages.proofs.acting.mtr_names.Given as goal

abbrev pub invariant-loop-change : goal.invariant-loop-change
invariant-loop-change l = mtr_names (drop l.change-index l.change-items) l.space l.number ≡ mtr_names l.change-items l.space l.number
