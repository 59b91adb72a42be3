-- What an image of a store recovers to under keys: contents, and the number of the run's last block.
use Rattle.std.specs.Prelude.{◌≡◌, ℕ, ◌+◌, ◌*◌, true, List, [], ◌∷◌, length, Some}
use Rattle.disk_model.specs.Image.{Image}
use Rattle.disk_model.specs.declared.names.FileName.TheVariants.{Log, Double, Space}
use Rattle.key_ring.specs.Ring.{RingEntry}
use Rattle.places.specs.Places.{place}
use Rattle.page_places.specs.Placed.{IsPlaced}
use Rattle.page_places.specs.Views.{view}
use Rattle.store_image.specs.Places.{LogView}
use Rattle.store_image.specs.Recovers as pages
use Rattle.store_image.specs.View.{Logged, block_bytes, slot_count}
use Rattle.redo_text.specs.declared.change.Change.{Change}
use Rattle.redo_text.specs.declared.change.Change.TheVariants.{Put, Kind, Touch, Floor, Encrypt}
use Rattle.store_model.specs.declared.contents.SpaceContents.{SpaceContents}
use Rattle.store_files.specs.Header.{HeldHeader, HeldSpace, header_in}
use Rattle.store_files.specs.Pages.{has_page, pages_of, salts_of, HaveSpaces}
use Rattle.store_files.specs.Run.{IsLogOf, IsClear}
use Rattle.crash_image.specs.StoreTheory.{store_theory}
use Rattle.store_image.specs.Checkpoint.{front_blocks}
use Rattle.page_places.specs.Texts.{page_bytes, slot_size}

-- The header is block 0 of the log's file, where that is valid. A copy of it elsewhere would be looked for here alone.
abbrev pub HasHeader : Image → HeldHeader → Type 0
HasHeader image header = header_in (place block_bytes 0 (image.bytes Log)) ≡ Some header

-- each space has as many bytes as its pages
abbrev pub SpacesLong : Image → List HeldSpace → Type 0
SpacesLong image [] = Unit {0}
SpacesLong image (s ∷ ss) = (length (image.bytes (Space s.space)) ≡ s.pages * page_bytes) × SpacesLong image ss

-- each file is as long as the header says
pub record AreLong (image : Image) (header : HeldHeader) : Type 0 where
  pub log : length (image.bytes Log) ≡ (front_blocks + header.blocks) * block_bytes
  pub double : length (image.bytes Double) ≡ slot_count * slot_size
  pub spaces : SpacesLong image header.spaces

-- the change is one of the store's pages
abbrev pub IsOfStore : List HeldSpace → Change → Type 0
IsOfStore spaces (Put s page at bytes) = has_page spaces s page ≡ true
IsOfStore spaces (Kind s page kind) = has_page spaces s page ≡ true
IsOfStore spaces (Touch s page) = has_page spaces s page ≡ true
IsOfStore spaces (Floor s version) = has_page spaces s 0 ≡ true
IsOfStore spaces (Encrypt s) = has_page spaces s 0 ≡ true

abbrev pub AreOfStore : List HeldSpace → List Change → Type 0
AreOfStore spaces [] = Unit {0}
AreOfStore spaces (c ∷ cs) = IsOfStore spaces c × AreOfStore spaces cs

-- each change of the run is one of the store's pages
abbrev pub RunIsOfStore : List HeldSpace → List (Logged (List Change)) → Type 0
RunIsOfStore spaces [] = Unit {0}
RunIsOfStore spaces (e ∷ es) = AreOfStore spaces e.mtr × RunIsOfStore spaces es

module _ (image : Image) (keys : List RingEntry) where
  -- Under this header the files of the image say this, beside their pages: each is as long as the header says, the log's run is this and changes the store's pages alone, and the contents have the header's spaces.
  pub record Reading (header : HeldHeader) (log : LogView (List Change)) (c : List SpaceContents) : Type 0 where
    pub long : AreLong image header
    pub run : IsLogOf header keys (image.bytes Log) log
    pub of_store : RunIsOfStore header.spaces log.run
    -- no home has the text of another page
    pub placed : (s p : ℕ) → has_page header.spaces s p ≡ true → IsPlaced p (place page_bytes p (image.bytes (Space s)))
    pub spaces : HaveSpaces header.spaces c
    -- no ring block has a number that the blocks behind the run could meet
    pub clear : IsClear header.blocks (image.bytes Log) (log.end + header.blocks)

  -- Under this header and with this run the image recovers to these contents.
  pub record RecoversBy (header : HeldHeader) (log : LogView (List Change)) (c : List SpaceContents) : Type 0 where
    pub reading : Reading header log c
    -- each page is its chosen text's with the run's later changes, and so is what any live slot gives
    pub pages : pages.ViewRecovers (store_theory header keys (salts_of c)) (view log image) (pages_of c)

  -- The image recovers to these contents; last is the number of the run's last block, or that before the run where it is empty.
  pub record Recovers (c : List SpaceContents) (last : ℕ) : Type 0 where
    pub header : HeldHeader
    pub is_header : HasHeader image header
    pub log : LogView (List Change)
    pub is_last : last + 1 ≡ log.end
    pub by : RecoversBy header log c
