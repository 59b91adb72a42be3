use Rattle.std.proofs.Common.{◌≡◌, drop}
use Rattle.store_files.specs.Pages.{has_page}
use Rattle.image_reader.proofs.checks.has_page.Given as goal

abbrev pub invariant-loop-candidate : goal.invariant-loop-candidate
invariant-loop-candidate l = has_page (drop l.candidate-index l.spaces) l.space l.page ≡ has_page l.spaces l.space l.page
