-- What the disk reads as is told still behind a read.
use Rattle.std.proofs.Common.{◌≡◌, ◌≢◌, ◌⊎◌, ℕ, ◌<◌, false, List, length, slice_index_or, Some, sym, ap, ◌∙◌, subst, inl, inr}
use Rattle.disk_model.specs.Event.{Event}
use Rattle.disk_model.specs.Past.{Past}
use Rattle.key_ring.specs.Ring.{RingEntry}
use Rattle.page_pool.specs.Pages.{DirtyList, PoolState, held_page, is_dirty, is_held}
use Rattle.page_pool.specs.declared.names.DirtyPage.{DirtyPage}
use Rattle.page_pool.specs.declared.names.PageName.{PageName}
use Rattle.redo_log.specs.State.{LogState}
use Rattle.space_head.specs.declared.space.SpaceInfo.{SpaceInfo}
use Rattle.store_form.specs.Rest.{head_in_mode}
use Rattle.store_model.specs.declared.contents.PlainPage.{PlainPage}
use Rattle.session_core.specs.Dirty.{AreDirtyOf, AreMarked, HasPendingPage, IsInRun, name_of_page}
use Rattle.session_core.specs.Reading.{IsPageOf, IsPoolAfter}
use Rattle.session_core.specs.Spaces.{StoreSpaces}
use Rattle.session_core.specs.Told.{TellsHead, ReadsAsTold, SaysHead}
use Rattle.session_core.proofs.HeldPages.{dirty_behind, held_behind, typed_behind}

module _ (ring : List RingEntry) (store : StoreSpaces) (past : Past) (s p : ℕ) (old new : PoolState) (some : p ≢ 0) (after : IsPoolAfter ring store past s p old new) where
  same_dirty : new.dirty ≡ old.dirty
  same_dirty = dirty_behind ring store past s p old new after

  -- a page from page 1 on was read: the dirty pages are as they were
  pub dirty_read : (log : LogState) → AreDirtyOf store log old → AreDirtyOf store log new
  dirty_read log kept = record {
    marks = subst (AreMarked store) (sym same_dirty) kept.marks;
    typed = typed_behind ring store past s p old new some after kept.typed;
    within = subst (λ (d : DirtyList). (k : ℕ) (x : DirtyPage) → k < length d.entries → IsInRun log (slice_index_or d.entries k x)) (sym same_dirty) kept.within;
    pending = λ there. subst (λ (d : DirtyList). HasPendingPage log d.entries) (sym same_dirty) (kept.pending there);
  }

  head_read : (es : List Event) (info : SpaceInfo) → TellsHead info old es → TellsHead info new es
  head_read es info head = record {
    mode = head.mode;
    home = λ clean. head.home (ap (is_dirty (name_of_page info.space 0)) (sym same_dirty) ∙ clean);
    held = λ page is. by page (held_behind ring store past s p old new (name_of_page info.space 0) page after is);
  }
    where
      by : (page : PlainPage) → (held_page (name_of_page info.space 0) old ≡ Some page) ⊎ ((name_of_page s p ≡ name_of_page info.space 0) × (is_held (name_of_page s p) old ≡ false) × IsPageOf ring store old past s p (Some page)) → SaysHead page (head_in_mode head.mode info)
      by page (inl was) = head.held page was
      by page (inr (name, apart, read)) = absurd (some (ap (λ (n : PageName). n.page) name))

  -- and what the disk reads as is told of the session as before
  pub told_read : (log : LogState) (es : List Event) → ReadsAsTold store log old es → ReadsAsTold store log new es
  told_read log es told = record {
    front = told.front;
    homes = λ z q info is below clean. told.homes z q info is below (ap (is_dirty (name_of_page z q)) (sym same_dirty) ∙ clean);
    heads = λ z info is. head_read es info (told.heads z info is);
  }
