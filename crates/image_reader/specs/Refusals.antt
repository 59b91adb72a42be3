-- Why the files of a store recover to nothing: which condition of Recovers fails, and where.
use Rattle.std.specs.Prelude.{◌≡◌, ◌≢◌, ◌⊎◌, ℕ, ◌+◌, ◌*◌, ◌<◌, ◌≤◌, true, List, length, Option, Some}
use Rattle.disk_model.specs.Image.{Image}
use Rattle.disk_model.specs.declared.names.FileName.TheVariants.{Log, Double, Space}
use Rattle.key_ring.specs.Ring.{RingEntry}
use Rattle.places.specs.Places.{place}
use Rattle.page_places.specs.Placed.{IsPlaced}
use Rattle.page_places.specs.Views.{view}
use Rattle.space_head.specs.declared.space.SpaceInfo.{SpaceInfo}
use Rattle.store_image.specs.Places.{LogView}
use Rattle.store_image.specs.Recovers.{PageRecovers, SlotRecovers, ViewRecovers}
use Rattle.store_image.specs.View.{Text, IsChosen, IsLive, block_bytes, slot_count}
use Rattle.redo_text.specs.declared.change.Change.{Change}
use Rattle.store_model.specs.declared.contents.SpaceContents.{SpaceContents}
use Rattle.store_files.specs.Header.{HeldHeader, HeldSpace}
use Rattle.store_files.specs.Pages.{Page, Head as HeadPage, HaveSpaces, has_page, pages_of, salts_of}
use Rattle.store_files.specs.Run.{IsLogOf}
use Rattle.crash_image.specs.StoreTheory.{store_theory}
use Rattle.crash_image.specs.Recovers.{HasHeader, AreLong, RunIsOfStore, RecoversBy}
use Rattle.image_log.specs.Late.{IsLateBlock}
use Rattle.image_log.specs.Logs.{IsLogTextFault}
use Rattle.image_log.specs.declared.blocks.LateBlock.{LateBlock as Late}
use Rattle.image_log.specs.declared.fault.LogTextFault.{LogTextFault}
use Rattle.image_log.specs.declared.fault.LogTextFault.TheVariants as log
use Rattle.image_pages.specs.Recovering.{IsTextFault}
use Rattle.image_pages.specs.declared.fault.TextFault.{TextFault}
use Rattle.image_reader.specs.HeaderSpaces.{IsSpaceAt, IsPageAt, IsHeaderInfo}
use Rattle.image_reader.specs.Lengths.{IsFirstForeign, IsLengthFault}
use Rattle.image_reader.specs.declared.refusal.Refusal.{Refusal}
use Rattle.image_reader.specs.declared.refusal.Refusal.TheVariants.{NoHeader, Length, NoCheckpoint, NoKey, NoChanges, OtherPages, Mixed, NotChosen, NoText, Head, Slot, LateBlock, OutOfMemory}
use Rattle.store_image.specs.Checkpoint.{front_blocks}
use Rattle.page_places.specs.Texts.{page_bytes}

-- a fault of the log as a refusal
abbrev pub log_refusal : LogTextFault → Refusal
log_refusal log.NoCheckpoint = NoCheckpoint
log_refusal (log.NoKey number version) = NoKey number version
log_refusal (log.NoChanges first at) = NoChanges first at
log_refusal log.OutOfMemory = OutOfMemory

-- page q of space z comes before page p of space s: by id of space, then by page
abbrev pub Precedes : ℕ → ℕ → ℕ → ℕ → Type 0
Precedes z q s p = (z < s) ⊎ ((z ≡ s) × (q < p))

module _ (image : Image) (keys : List RingEntry) where
  -- the header and the lengths of the files are right
  pub record HasFiles (header : HeldHeader) : Type 0 where
    pub is_header : HasHeader image header
    pub long : AreLong image header

  -- and the log says this
  pub record HasLog (header : HeldHeader) (text : LogView (List Change)) : Type 0 where
    pub files : HasFiles header
    pub is : IsLogOf header keys (image.bytes Log) text

  -- and its changes are of the store's pages
  pub record HasStoreRun (header : HeldHeader) (text : LogView (List Change)) : Type 0 where
    pub log : HasLog header text
    pub of_store : RunIsOfStore header.spaces text.run

  -- and no home has the text of another page
  pub record HasHomes (header : HeldHeader) (text : LogView (List Change)) : Type 0 where
    pub run : HasStoreRun header text
    pub placed : (s p : ℕ) → has_page header.spaces s p ≡ true → IsPlaced p (place page_bytes p (image.bytes (Space s)))

  -- and these are the contents that all pages give
  pub record HasContents (header : HeldHeader) (text : LogView (List Change)) (c : List SpaceContents) : Type 0 where
    pub homes : HasHomes header text
    pub spaces : HaveSpaces header.spaces c
    pub pages : ViewRecovers (store_theory header keys (salts_of c)) (view text image) (pages_of c)

  -- the first home, by space and page, that has the text of another page
  pub record IsFirstMixedHome (header : HeldHeader) (s p : ℕ) : Type 0 where
    pub has : has_page header.spaces s p ≡ true
    pub before : (z q : ℕ) → has_page header.spaces z q ≡ true → Precedes z q s p → IsPlaced q (place page_bytes q (image.bytes (Space z)))
    pub other : IsPlaced p (place page_bytes p (image.bytes (Space s))) → ⊥

  module _ (header : HeldHeader) (text : LogView (List Change)) where
    -- the homes are right, and there are no contents
    pub record HasNoContents : Type 0 where
      pub homes : HasHomes header text
      pub none : (c : List SpaceContents) → HasContents header text c → ⊥

    -- page 0 of a space recovers to this head, whatever the salts are
    pub record HasHead (s : ℕ) (info : SpaceInfo) : Type 0 where
      pub is : (salts : ℕ → List ℕ) → PageRecovers (store_theory header keys salts) (view text image) (λ z q. HeadPage info) s 0

    -- the salt that page 0 of a space says
    pub record IsHeadSalt (s : ℕ) (salt : List ℕ) : Type 0 where
      pub info : SpaceInfo
      pub head : HasHead s info
      pub is : salt ≡ info.salt

    -- the page is one of the store's, and this is the salt under which it is read; page 0 is in clear, and needs none
    pub record IsReadUnder (s p : ℕ) (salt : List ℕ) : Type 0 where
      pub page : IsPageAt header.spaces s p
      pub salted : p ≢ 0 → IsHeadSalt s salt

    -- the page holds this under the salt, and each of its first n slots that is live gives the same
    pub record HoldsTo (s p : ℕ) (salt : List ℕ) (x : Page) (n : ℕ) : Type 0 where
      pub is : (salts : ℕ → List ℕ) → salts s ≡ salt → PageRecovers (store_theory header keys salts) (view text image) (λ z q. x) s p
      pub slots : (j : ℕ) (t : Text) → j < n → IsLive (view text image) s p j t → (salts : ℕ → List ℕ) → salts s ≡ salt → SlotRecovers (store_theory header keys salts) (view text image) (λ z q. x) s p t

    -- the page recovers, and each live slot gives the same
    pub record IsPageRight (s p : ℕ) : Type 0 where
      pub salt : List ℕ
      pub under : IsReadUnder s p salt
      pub holds : Page
      pub to : HoldsTo s p salt holds slot_count

    -- page 0 of the space says what the header says of it
    pub record IsHeadRight (s : ℕ) : Type 0 where
      pub space : HeldSpace
      pub named : IsSpaceAt header.spaces space
      pub id : s ≡ space.space
      pub info : SpaceInfo
      pub head : HasHead s info
      pub is : IsHeaderInfo space info

    -- each page before this one is right, and each page 0 before it says what the header says
    pub record AreRightBefore (s p : ℕ) : Type 0 where
      pub pages : (z q : ℕ) → has_page header.spaces z q ≡ true → Precedes z q s p → IsPageRight z q
      pub heads : (z : ℕ) → has_page header.spaces z 0 ≡ true → Precedes z 0 s p → IsHeadRight z

    -- the first page that isn't right is read from nothing
    pub record HasNoSource (s p : ℕ) : Type 0 where
      pub none : HasNoContents
      pub before : AreRightBefore s p
      pub page : IsPageAt header.spaces s p
      pub nothing : (o : Option Text) → IsChosen (view text image) s p o → ⊥

    -- or what it is read from doesn't give it
    pub record HasTextFault (s p : ℕ) (fault : TextFault) : Type 0 where
      pub none : HasNoContents
      pub before : AreRightBefore s p
      pub salt : List ℕ
      pub under : IsReadUnder s p salt
      pub is : (salts : ℕ → List ℕ) → salts s ≡ salt → IsTextFault header keys salts (view text image) s p fault

    -- or it recovers to what it holds, each live slot before slot i gives the same, and slot i is live with a text that gives another
    pub record HasOtherSlot (s p i : ℕ) : Type 0 where
      pub none : HasNoContents
      pub before : AreRightBefore s p
      pub salt : List ℕ
      pub under : IsReadUnder s p salt
      pub holds : Page
      pub to : HoldsTo s p salt holds i
      pub other : Text
      pub live : IsLive (view text image) s p i other
      pub differs : (salts : ℕ → List ℕ) → salts s ≡ salt → SlotRecovers (store_theory header keys salts) (view text image) (λ z q. holds) s p other → ⊥

    -- or it is a page 0 and right, and says another size or key id of its space than the header
    pub record HasOtherHead (s : ℕ) : Type 0 where
      pub none : HasNoContents
      pub before : AreRightBefore s 0
      pub space : HeldSpace
      pub named : IsSpaceAt header.spaces space
      pub id : s ≡ space.space
      pub info : SpaceInfo
      pub head : (salt : List ℕ) → HoldsTo s 0 salt (HeadPage info) slot_count
      pub other : IsHeaderInfo space info → ⊥

  -- Which condition fails, and where: the conditions before it, in the order of Refusal, hold.
  abbrev pub IsRefusalOf : Refusal → Type 0
  IsRefusalOf NoHeader = front_blocks * block_bytes ≤ length (image.bytes Log) → (header : HeldHeader) → HasHeader image header → ⊥
  IsRefusalOf (Length f) = (header : HeldHeader) × HasHeader image header × (front_blocks * block_bytes ≤ length (image.bytes Log)) × IsLengthFault image header (Length f)
  IsRefusalOf NoCheckpoint = (header : HeldHeader) × HasFiles header × IsLogTextFault header keys (image.bytes Log) log.NoCheckpoint
  IsRefusalOf (NoKey number version) = (header : HeldHeader) × HasFiles header × IsLogTextFault header keys (image.bytes Log) (log.NoKey number version)
  IsRefusalOf (NoChanges first at) = (header : HeldHeader) × HasFiles header × IsLogTextFault header keys (image.bytes Log) (log.NoChanges first at)
  IsRefusalOf (OtherPages first) = (header : HeldHeader) × (text : LogView (List Change)) × HasLog header text × IsFirstForeign header.spaces text.run first
  IsRefusalOf (Mixed s p) = (header : HeldHeader) × (text : LogView (List Change)) × HasStoreRun header text × IsFirstMixedHome header s p
  IsRefusalOf (NotChosen s p) = (header : HeldHeader) × (text : LogView (List Change)) × HasNoSource header text s p
  IsRefusalOf (NoText s p fault) = (header : HeldHeader) × (text : LogView (List Change)) × HasTextFault header text s p fault
  IsRefusalOf (Head s) = (header : HeldHeader) × (text : LogView (List Change)) × HasOtherHead header text s
  IsRefusalOf (Slot s p i) = (header : HeldHeader) × (text : LogView (List Change)) × HasOtherSlot header text s p i
  IsRefusalOf (LateBlock place number) =
      (header : HeldHeader) × (text : LogView (List Change)) × (c : List SpaceContents) × HasContents header text c
      × IsLateBlock header.blocks (image.bytes Log) (text.end + header.blocks) (record { place = place; number = number })
  IsRefusalOf OutOfMemory = Unit {0}

-- the header is the image's, the image recovers to the contents by it and by the log's text, and this is the run's last block
pub record IsRecovery (image : Image) (keys : List RingEntry) (header : HeldHeader) (text : LogView (List Change)) (c : List SpaceContents) (last : ℕ) : Type 0 where
  pub is_header : HasHeader image header
  pub by : RecoversBy image keys header text c
  pub is_last : last + 1 ≡ text.end

-- the log's file has no header, or there was no memory
abbrev pub IsHeaderFault : Image → Refusal → Type 0
IsHeaderFault image NoHeader = front_blocks * block_bytes ≤ length (image.bytes Log) → (header : HeldHeader) → HasHeader image header → ⊥
IsHeaderFault image OutOfMemory = Unit {0}
IsHeaderFault image r = ⊥
