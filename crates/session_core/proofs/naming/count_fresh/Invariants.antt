use Rattle.std.proofs.Common.{◌≡◌, ◌+◌, ◌≤◌, drop}
use Rattle.page_pool.specs.Changes.{fresh_pages}
use Rattle.session_core.proofs.naming.count_fresh.Given as goal

abbrev pub invariant-loop-i : goal.invariant-loop-i
invariant-loop-i l = (l.fresh ≤ l.i) × (l.fresh + fresh_pages (drop l.i l.changes) l.pool.dirty ≡ fresh_pages l.changes l.pool.dirty)
