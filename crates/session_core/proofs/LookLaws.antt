-- What looking for pages from page 1 on leaves of what a session keeps.
use Rattle.std.proofs.Common.{◌≡◌, ◌≢◌, ◌⊎◌, ℕ, ◌<◌, Bool, true, false, true≢false, ◌||◌, List, [], ◌∷◌, length, slice_index_or, Some, refl, sym, ap, ◌∙◌, subst, inl, inr}
use Rattle.disk_model.specs.Event.{Event}
use Rattle.disk_model.specs.Past.{Past, At}
use Rattle.disk_model.proofs.Moments.{at_each, at_is}
use Rattle.key_ring.specs.Ring.{RingEntry}
use Rattle.page_batch.specs.Batch.{HasPageType}
use Rattle.page_pool.specs.Changes.{name_page, page_of_change}
use Rattle.page_pool.specs.Pages.{DirtyList, PoolState, held_page, is_dirty, is_name}
use Rattle.page_pool.specs.declared.names.DirtyPage.{DirtyPage}
use Rattle.page_pool.specs.declared.names.PageName.{PageName}
use Rattle.page_pool.proofs.Cleans.{same_name}
use Rattle.redo_log.specs.State.{LogState}
use Rattle.redo_text.specs.declared.change.Change.{Change}
use Rattle.space_head.specs.declared.space.SpaceInfo.{SpaceInfo}
use Rattle.store_form.specs.Rest.{head_in_mode}
use Rattle.store_model.specs.declared.contents.PlainPage.{PlainPage}
use Rattle.session_core.specs.Dirty.{AreDirtyOf, AreMarked, AreTyped, HasPendingPage, IsInRun, name_of_page}
use Rattle.session_core.specs.Entering.{AreFromOne}
use Rattle.session_core.specs.Holding.{IsHomeInUse, IsTakenFromHome, LooksForPages}
use Rattle.session_core.specs.Spaces.{StoreSpaces}
use Rattle.session_core.specs.Told.{ReadsAsTold, SaysHead, TellsHead}
use Rattle.session_core.proofs.HeldPages.{type_of_home}

-- a page that changes name is none of page 0
pub named_from : (cs : List Change) (name : PageName) → AreFromOne cs → name_page cs name ≡ true → name.page ≢ 0
named_from [] name from is = absurd (true≢false (sym is))
named_from (c ∷ cs) name from is = by (is_name name (page_of_change c)) refl is (named_from cs name from.1)
  where
    by : (b : Bool) → is_name name (page_of_change c) ≡ b → (b || name_page cs name) ≡ true → (name_page cs name ≡ true → name.page ≢ 0) → name.page ≢ 0
    by true test at later = subst (λ (n : PageName). n.page ≢ 0) (sym (same_name name (page_of_change c) test)) from.0
    by false test at later = later at

module _ (ring : List RingEntry) (store : StoreSpaces) (past : Past) (cs : List Change) (old new : PoolState) (from : AreFromOne cs) (looks : LooksForPages ring store past cs old new) where
  type_of_taken : (name : PageName) (page : PlainPage) → name.page ≢ 0 → IsTakenFromHome ring store past name page → HasPageType name.page page.kind
  type_of_taken name page some taken =
      subst (λ (x : PlainPage). HasPageType name.page x.kind) (sym taken.gives) (type_of_home taken.info.space name.page taken.info.key_id _ taken.read.bytes taken.left taken.was (λ test. some) taken.read.opened)

  typed_looks : AreTyped old → AreTyped new
  typed_looks typed name page is = by (looks.pages name page is)
    where
      by : (held_page name old ≡ Some page) ⊎ ((name_page cs name ≡ true) × (is_dirty name old.dirty ≡ false) × IsTakenFromHome ring store past name page × IsHomeInUse store name) → HasPageType name.page page.kind
      by (inl was) = typed name page was
      by (inr (named, clean, taken, in_use)) = type_of_taken name page (named_from cs name from named) taken

  -- the dirty pages are as they were
  pub dirty_looks : (log : LogState) → AreDirtyOf store log old → AreDirtyOf store log new
  dirty_looks log kept = record {
    marks = subst (AreMarked store) (sym looks.dirty) kept.marks;
    typed = typed_looks kept.typed;
    within = subst (λ (d : DirtyList). (k : ℕ) (x : DirtyPage) → k < length d.entries → IsInRun log (slice_index_or d.entries k x)) (sym looks.dirty) kept.within;
    pending = λ there. subst (λ (d : DirtyList). HasPendingPage log d.entries) (sym looks.dirty) (kept.pending there);
  }

  head_looks : (es : List Event) (info : SpaceInfo) → TellsHead info old es → TellsHead info new es
  head_looks es info head = record {
    mode = head.mode;
    home = λ clean. head.home (ap (is_dirty (name_of_page info.space 0)) (sym looks.dirty) ∙ clean);
    held = λ page is. by page (looks.pages (name_of_page info.space 0) page is);
  }
    where
      by : (page : PlainPage)
          → (held_page (name_of_page info.space 0) old ≡ Some page) ⊎ ((name_page cs (name_of_page info.space 0) ≡ true) × (is_dirty (name_of_page info.space 0) old.dirty ≡ false) × IsTakenFromHome ring store past (name_of_page info.space 0) page × IsHomeInUse store (name_of_page info.space 0))
          → SaysHead page (head_in_mode head.mode info)
      by page (inl was) = head.held page was
      by page (inr (named, clean, taken, in_use)) = absurd (named_from cs (name_of_page info.space 0) from named refl)

  -- and what the disk reads as is told of the session as before
  pub told_looks : (log : LogState) (es : List Event) → ReadsAsTold store log old es → ReadsAsTold store log new es
  told_looks log es told = record {
    front = told.front;
    homes = λ z q info is below clean. told.homes z q info is below (ap (is_dirty (name_of_page z q)) (sym looks.dirty) ∙ clean);
    heads = λ z info is. head_looks es info (told.heads z info is);
  }
