-- What is kept of the dirty pages of a session, and of what its pool holds.
use Rattle.std.specs.Prelude.{◌≡◌, ℕ, ◌*◌, ◌<◌, ◌≤◌, true, List, Contains, Some}
use Rattle.std.specs.List.{All}
use Rattle.page_batch.specs.Batch.{HasPageType}
use Rattle.page_pool.specs.Pages.{DirtyList, PoolState, held_page, is_dirty}
use Rattle.page_pool.specs.declared.names.DirtyPage.{DirtyPage}
use Rattle.page_pool.specs.declared.names.PageName.{PageName}
use Rattle.redo_log.specs.Log.{durable, pending_count}
use Rattle.redo_log.specs.State.{LogState}
use Rattle.space_head.specs.declared.space.Home.TheVariants.{Dirty}
use Rattle.store_image.specs.View.{block_bytes}
use Rattle.store_model.specs.declared.contents.PlainPage.{PlainPage}
use Rattle.session_core.specs.Spaces.{StoreSpaces, home_in}

abbrev pub name_of_page : ℕ → ℕ → PageName
name_of_page s p = record { space = s; page = p }

-- a page is marked as dirty in what is known of homes exactly where the pool has it so
pub record AreMarked (store : StoreSpaces) (dirty : DirtyList) : Type 0 where
  pub marked : (s p : ℕ) → is_dirty (name_of_page s p) dirty ≡ true → home_in store s p ≡ Dirty
  pub only : (s p : ℕ) → home_in store s p ≡ Dirty → is_dirty (name_of_page s p) dirty ≡ true

-- what is held of each page, dirty or clean, has a type that its number may have
abbrev pub AreTyped : PoolState → Type 0
AreTyped pool = (name : PageName) (page : PlainPage) → held_page name pool ≡ Some page → HasPageType name.page page.kind

-- the page became dirty by a block of the log that the last synced checkpoint keeps, and its last change ends behind that block, and no later than the log
pub record IsInRun (log : LogState) (d : DirtyPage) : Type 0 where
  pub from : log.from ≤ d.first
  pub first : d.first < log.next
  pub behind : d.first * block_bytes < d.lsn
  pub lsn : d.lsn ≤ log.next * block_bytes

-- one of the dirty pages has its last change among the pending blocks, and became dirty no later than by the first of them
pub record HasPendingPage (log : LogState) (dirty : List DirtyPage) : Type 0 where
  pub page : DirtyPage
  pub there : Contains dirty page
  pub first : page.first ≤ durable log
  pub lsn : durable log * block_bytes < page.lsn

-- The dirty pages of a session, by its store, its log and its pool: they are those that are marked so; each that is held has its type; their first blocks lie between the run's first one and the log's next one; and where blocks are pending a dirty page needs them all.
pub record AreDirtyOf (store : StoreSpaces) (log : LogState) (pool : PoolState) : Type 0 where
  pub marks : AreMarked store pool.dirty
  pub typed : AreTyped pool
  pub within : All (IsInRun log) pool.dirty.entries
  pub pending : 0 < pending_count log → HasPendingPage log pool.dirty.entries
