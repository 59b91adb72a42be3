use Rattle.std.proofs.Common.{◌≡◌, drop}
use Rattle.script_core.specs.Checks.{first_found, pages_if}
use Rattle.script_core.proofs.checking.page_count_of.Given as goal

abbrev pub invariant-loop-info : goal.invariant-loop-info
invariant-loop-info l = first_found (pages_if l.space) (drop l.info-index l.spaces) ≡ first_found (pages_if l.space) l.spaces
