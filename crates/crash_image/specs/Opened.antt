-- A store that an opening begins with, and what its files have at each moment of the opening.
use Rattle.std.specs.Prelude.{◌≡◌, ℕ, ◌+◌, ◌*◌, true, List, [], length}
use Rattle.disk_model.specs.Event.{Event, reads}
use Rattle.disk_model.specs.Does.{Since}
use Rattle.disk_model.specs.declared.names.FileName.TheVariants.{Log, Double, Space}
use Rattle.key_ring.specs.Ring.{RingEntry}
use Rattle.places.specs.Beside.{LeavesFile}
use Rattle.places.specs.Places.{AreWhole}
use Rattle.places.specs.Batches.{IsFileSettled}
use Rattle.page_places.specs.Placed.{MayBePlaced}
use Rattle.page_places.specs.Texts.{page_bytes, slot_size, slots, pages}
use Rattle.page_places.specs.Views.{IsReadAs}
use Rattle.store_image.specs.Checkpoint.{front_blocks}
use Rattle.store_image.specs.Opening.{IsVersionAllowed}
use Rattle.store_image.specs.Places.{LogView, log_of}
use Rattle.store_image.specs.Recovers.{Theory, ViewRecovers, ViewRotated}
use Rattle.store_image.specs.View.{block_bytes, View}
use Rattle.redo_text.specs.declared.change.Change.{Change}
use Rattle.store_model.specs.declared.contents.SpaceContents.{SpaceContents}
use Rattle.store_files.specs.Header.{HeldHeader}
use Rattle.store_files.specs.Pages.{has_page, pages_of, salts_of}
use Rattle.store_files.specs.Run.{IsLogOf, IsClear}
use Rattle.crash_image.specs.LogForm.{log_places}
use Rattle.crash_image.specs.Recovers.{HasHeader, Reading}
use Rattle.crash_image.specs.Rest.{read_image}
use Rattle.crash_image.specs.StoreTheory.{store_theory}

-- what is opened: the header, the keys, what the disk reads as, the contents that it recovers to, and the active version
pub record StoreOpened : Type 0 where
  pub header : HeldHeader
  pub keys : List RingEntry
  pub view : View (List Change)
  pub contents : List SpaceContents
  pub active : ℕ

abbrev pub opened_theory : StoreOpened → Theory
opened_theory o = store_theory o.header o.keys (salts_of o.contents)

-- the log that the opening leaves: an empty run, a ring's length behind the one that was found
abbrev pub log_after : StoreOpened → LogView (List Change)
log_after o = record { from = o.view.end + o.header.blocks; end = o.view.end + o.header.blocks; run = [] }

-- The disk is such a store with nothing pending, and last is the number of its run's last block.
pub record IsOpenedAt (o : StoreOpened) (last : ℕ) (es : List Event) : Type 0 where
  pub is_last : last + 1 ≡ o.view.end
  pub reads_as : IsReadAs (λ l. l ≡ log_of o.view) o.view es
  pub log_settled : IsFileSettled Log block_bytes es
  pub log_whole : AreWhole Log (log_places o.header.blocks) es
  pub double_whole : AreWhole Double slots es
  pub spaces_whole : (z count : ℕ) → AreWhole (Space z) (pages count) es
  pub is_header : HasHeader (read_image es) o.header
  pub reading : Reading (read_image es) o.keys o.header (log_of o.view) o.contents
  pub recovers : ViewRecovers (opened_theory o) o.view (pages_of o.contents)
  pub rotated : ViewRotated (opened_theory o) o.view (pages_of o.contents)
  pub allowed : IsVersionAllowed (opened_theory o) o.active (pages_of o.contents)

-- Since the opening began at s each file has kept its length, each pending write is one of a whole place, and no home may hold another page's text.
pub record FilesStand (o : StoreOpened) (s m : List Event) : Type 0 where
  pub double_whole : AreWhole Double slots m
  pub double_long : length (reads Double m) ≡ length (reads Double s)
  pub spaces_whole : (z count : ℕ) → AreWhole (Space z) (pages count) m
  pub spaces_long : (z : ℕ) → length (reads (Space z) m) ≡ length (reads (Space z) s)
  pub placed : (z p : ℕ) → has_page o.header.spaces z p ≡ true → MayBePlaced z p m

-- and nothing was asked of the log
pub record FilesOpened (o : StoreOpened) (s m : List Event) : Type 0 where
  pub files : FilesStand o s m
  pub log : Since (LeavesFile Log) s m

-- nothing of the doublewrite file and of the spaces is pending
pub record FilesSettled (m : List Event) : Type 0 where
  pub double : IsFileSettled Double slot_size m
  pub spaces : (z : ℕ) → IsFileSettled (Space z) page_bytes m

-- what one space's file has behind some events
pub record SpaceStands (o : StoreOpened) (z : ℕ) (t m : List Event) : Type 0 where
  pub whole : (count : ℕ) → AreWhole (Space z) (pages count) m
  pub long : length (reads (Space z) m) ≡ length (reads (Space z) t)
  pub placed : (p : ℕ) → has_page o.header.spaces z p ≡ true → MayBePlaced z p m

-- The log's file, as the opening leaves it: nothing of it is pending, and no block of its ring has a number from the next one on.
pub record LogEnded (o : StoreOpened) (m : List Event) : Type 0 where
  pub is_header : HasHeader (read_image m) o.header
  pub long : length (reads Log m) ≡ (front_blocks + o.header.blocks) * block_bytes
  pub run : IsLogOf o.header o.keys (reads Log m) (log_after o)
  pub clear : IsClear o.header.blocks (reads Log m) (o.view.end + o.header.blocks)
  pub whole : AreWhole Log (log_places o.header.blocks) m
  pub settled : IsFileSettled Log block_bytes m
