use Rattle.std.proofs.Common.{◌≡◌, ◌≤◌, ℕ, ◌+◌, ◌++◌, Option, length}
use Rattle.std.specs.List.{All}
use Rattle.std.specs.Vec.{vec_capacity}
use Rattle.std.specs.Vec.Iter.{into_iter_items}
use Rattle.page_batch.specs.Batch.{IsTextOfPage}
use Rattle.page_text.specs.declared.key.PageKey.{PageKey}
use Rattle.session_core.specs.Putting.{IsDirtyText, current_pages, texts_in}
use Rattle.session_core.proofs.current.current_texts.Given as goal

abbrev pub invariant-loop-sealed : goal.invariant-loop-sealed
invariant-loop-sealed l = record {
  next : (goal.iterator-loop-sealed).can_next l.sealed-iterator;
  finite : (goal.iterator-loop-sealed).is_finite l.sealed-iterator;
  pool : l.pool ≡ l.fn.pool;
  texts : l.texts.items ++ texts_in (current_pages l.fn.pool l.space (into_iter_items l.sealed-iterator)) ≡ texts_in (current_pages l.fn.pool l.space l.fn.parts.pages.items);
  room : length l.texts.items + length (into_iter_items l.sealed-iterator) ≤ vec_capacity l.texts;
  left : (version : ℕ) (key : Option PageKey) → All (IsTextOfPage l.space version key) l.fn.parts.pages.items → All (IsTextOfPage l.space version key) (into_iter_items l.sealed-iterator);
  due : (version : ℕ) (key : Option PageKey) → All (IsTextOfPage l.space version key) l.fn.parts.pages.items → All (IsDirtyText l.fn.pool l.space version) l.texts.items;
}
