use Rattle.std.proofs.Common.{◌≡◌, ◌≤◌, ◌++◌, length}
use Rattle.std.specs.Vec.{vec_capacity, vec_len}
use Rattle.std.specs.Vec.Iter.{into_iter_items}
use Rattle.page_batch.specs.Batch.{AreTextsOfPages}
use Rattle.page_batch.proofs.sealed.seal_batch.Given as goal

abbrev pub invariant-loop-copied : goal.invariant-loop-copied
invariant-loop-copied l = record {
  next : (goal.iterator-loop-copied).can_next l.copied-iterator;
  finite : (goal.iterator-loop-copied).is_finite l.copied-iterator;
  left : l.fn.batch.pages ≡ l.yielded ++ into_iter_items l.copied-iterator;
  done : AreTextsOfPages l.space l.version l.key l.yielded l.sealed.items;
  count : vec_len l.sealed ≡ length l.yielded;
  long : length l.sealed.items ≡ length l.yielded;
  room : length l.fn.batch.pages ≤ vec_capacity l.sealed;
}
