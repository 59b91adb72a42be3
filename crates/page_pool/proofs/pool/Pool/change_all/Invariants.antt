use Rattle.std.proofs.Common.{◌≡◌, drop, length, replicate, None}
use Rattle.redo_text.specs.Text.{AreAllowed}
use Rattle.store_model.specs.Fold.{used}
use Rattle.page_pool.specs.Changes.{HasPoolRoom, pool_after}
use Rattle.page_pool.proofs.pool.Pool.change_all.Given as goal

abbrev pub invariant-loop-change : goal.invariant-loop-change
invariant-loop-change l = record {
  after : pool_after l.lsn l.first (drop l.change-index l.changes) l.self ≡ pool_after l.lsn l.first l.changes l.fn.self;
  allowed : AreAllowed (drop l.change-index l.changes);
  room : HasPoolRoom (drop l.change-index l.changes) l.self (length l.spare.items);
  zero : l.spare.items ≡ replicate (length l.spare.items) (used None);
}
