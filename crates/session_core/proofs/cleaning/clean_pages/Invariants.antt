use Rattle.std.proofs.Common.{◌≡◌, drop, true, Some}
use Rattle.std.specs.List.{All}
use Rattle.page_pool.specs.Pages.{held_page, is_dirty}
use Rattle.page_pool.specs.declared.names.PageName.{PageName}
use Rattle.redo_log.specs.State.{LogState}
use Rattle.store_model.specs.declared.contents.PlainPage.{PlainPage}
use Rattle.session_core.specs.Dirty.{IsInRun}
use Rattle.session_core.specs.Putting.{cleaned_all}
use Rattle.session_core.proofs.cleaning.clean_pages.Given as goal

abbrev pub invariant-loop-i : goal.invariant-loop-i
invariant-loop-i l = record {
  cleaned : cleaned_all l.space (drop l.i l.texts) l.pool ≡ cleaned_all l.space l.texts l.fn.pool;
  held : (name : PageName) (page : PlainPage) → held_page name l.pool ≡ Some page → held_page name l.fn.pool ≡ Some page;
  dirty : (name : PageName) → is_dirty name l.pool.dirty ≡ true → is_dirty name l.fn.pool.dirty ≡ true;
  within : (log : LogState) → All (IsInRun log) l.fn.pool.dirty.entries → All (IsInRun log) l.pool.dirty.entries;
}
