-- What the disk of a session reads as, while it runs.
use Rattle.std.specs.Prelude.{◌≡◌, ℕ, ◌<◌, false, List, length, Some, Ok}
use Rattle.disk_model.specs.Event.{Event, reads}
use Rattle.disk_model.specs.declared.names.FileName.TheVariants.{Log, Space}
use Rattle.page_places.specs.Texts.{page_bytes}
use Rattle.page_pool.specs.Pages.{PoolState, held_page, is_dirty, plain_page}
use Rattle.places.specs.Places.{place, shown}
use Rattle.redo_log.specs.State.{LogState}
use Rattle.space_head.specs.Head.{head_of}
use Rattle.space_head.specs.declared.head.SpaceHead.{SpaceHead}
use Rattle.space_head.specs.declared.space.SpaceInfo.{SpaceInfo}
use Rattle.store_files.specs.Checkpoint.{IsNewestCheckpoint}
use Rattle.store_files.specs.Header.{HeldHeader, header_in}
use Rattle.store_form.specs.Rest.{head_in_mode, home_told}
use Rattle.store_image.specs.View.{block_bytes}
use Rattle.store_model.specs.declared.contents.PlainPage.{PlainPage}
use Rattle.session_core.specs.Dirty.{name_of_page}
use Rattle.session_core.specs.Spaces.{StoreSpaces, home_in, space_with_id}

-- the log's file has this header, and its newest checkpoint is the last synced one of the log
pub record HasFront (header : HeldHeader) (log : LogState) (es : List Event) : Type 0 where
  pub is_header : header_in (place block_bytes 0 (reads Log es)) ≡ Some header
  pub checkpoint : IsNewestCheckpoint (reads Log es) (record { sequence = log.sequence; from = log.from })

-- each page with this type and body says this as page 0
abbrev pub SaysHead : PlainPage → SpaceHead → Type 0
SaysHead page head = (bytes : List ℕ) → length bytes ≡ page_bytes → plain_page bytes ≡ page → head_of bytes ≡ Ok head

-- page 0 of a space says what is told of the space: at home where it isn't dirty, and as it is held
pub record TellsHead (info : SpaceInfo) (pool : PoolState) (es : List Event) : Type 0 where
  pub mode : ℕ
  pub home : is_dirty (name_of_page info.space 0) pool.dirty ≡ false → head_of (shown (Space info.space) page_bytes 0 es) ≡ Ok (head_in_mode mode info)
  pub held : (page : PlainPage) → held_page (name_of_page info.space 0) pool ≡ Some page → SaysHead page (head_in_mode mode info)

-- the home of a page that isn't dirty tells what is known of it
abbrev pub TellHomes : StoreSpaces → PoolState → List Event → Type 0
TellHomes store pool es =
    (s p : ℕ) (info : SpaceInfo) → space_with_id store.spaces s ≡ Some info → p < info.pages → is_dirty (name_of_page s p) pool.dirty ≡ false → home_in store s p ≡ home_told (shown (Space s) page_bytes p es)

-- The disk reads as the session tells: the front of its log, the homes of the pages that aren't dirty, and page 0 of each space.
pub record ReadsAsTold (store : StoreSpaces) (log : LogState) (pool : PoolState) (es : List Event) : Type 0 where
  pub front : HasFront store.header log es
  pub homes : TellHomes store pool es
  pub heads : (s : ℕ) (info : SpaceInfo) → space_with_id store.spaces s ≡ Some info → TellsHead info pool es
