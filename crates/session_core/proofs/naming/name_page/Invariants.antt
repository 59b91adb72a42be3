use Rattle.std.proofs.Common.{◌≡◌, drop}
use Rattle.page_pool.specs.Changes.{name_page}
use Rattle.session_core.proofs.naming.name_page.Given as goal

abbrev pub invariant-loop-change : goal.invariant-loop-change
invariant-loop-change l = name_page (drop l.change-index l.changes) l.name ≡ name_page l.changes l.name
