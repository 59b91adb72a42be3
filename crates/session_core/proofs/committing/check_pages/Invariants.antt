use Rattle.std.proofs.Common.{◌≡◌, drop}
use Rattle.session_core.specs.Committing.{first_missing_page}
use Rattle.session_core.proofs.committing.check_pages.Given as goal

abbrev pub invariant-loop-change : goal.invariant-loop-change
invariant-loop-change l = first_missing_page l.store.spaces (drop l.change-index l.changes) ≡ first_missing_page l.store.spaces l.changes
