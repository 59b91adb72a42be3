use Rattle.std.proofs.Common.{◌≡◌, drop}
use Rattle.page_pool.specs.Changes.{is_dirty_at}
use Rattle.session_core.proofs.current.is_dirty_at.Given as goal

abbrev pub invariant-loop-entry : goal.invariant-loop-entry
invariant-loop-entry l = is_dirty_at l.name l.lsn (drop l.entry-index l.entries) ≡ is_dirty_at l.name l.lsn l.entries
