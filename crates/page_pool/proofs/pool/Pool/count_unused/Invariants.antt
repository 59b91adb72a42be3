use Rattle.std.proofs.Common.{◌≡◌, ◌+◌, ◌≤◌, drop}
use Rattle.page_pool.specs.Changes.{unused_pages}
use Rattle.page_pool.proofs.pool.Pool.count_unused.Given as goal

abbrev pub invariant-loop-i : goal.invariant-loop-i
invariant-loop-i l = (l.unused ≤ l.i) × (l.unused + unused_pages (drop l.i l.changes) l.self ≡ unused_pages l.changes l.self)
