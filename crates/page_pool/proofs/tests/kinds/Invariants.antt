use Rattle.redo_text.specs.Text.{AreAllowed}
use Rattle.page_pool.proofs.tests.kinds.Given as goal

abbrev pub invariant-loop-page : goal.invariant-loop-page
invariant-loop-page l = AreAllowed l.changes.items
