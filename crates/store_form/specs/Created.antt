-- What a disk may hold while a store is created on it.
use Rattle.std.specs.Prelude.{◌≡◌, ◌⊎◌, ℕ, false, List, [], ◌∷◌, ◌++◌, None}
use Rattle.disk_model.specs.Event.{Event, is_there, marks, record_of}
use Rattle.disk_model.specs.Image.{Image, InFile, IsImage}
use Rattle.disk_model.specs.declared.names.FileName.TheVariants.{Log, Double, Space}
use Rattle.key_ring.specs.Ring.{RingEntry}
use Rattle.page_places.specs.Texts.{page_bytes, text_in}
use Rattle.places.specs.Places.{place}
use Rattle.space_head.specs.declared.space.SpaceInfo.{SpaceInfo}
use Rattle.store_files.specs.Header.{HeldHeader, header_in}
use Rattle.store_files.specs.Pages.{pages_of, salts_of}
use Rattle.store_image.specs.LifeStages.{AreCreated}
use Rattle.store_image.specs.View.{Text, block_bytes}
use Rattle.store_image.specs.Record.{Item, PageText, RingBlock}
use Rattle.store_model.specs.Fold.{empty}
use Rattle.crash_image.specs.Recovers.{Recovers}
use Rattle.crash_image.specs.StoreTheory.{store_theory}
use Rattle.crash_image.specs.Stands.{Lucky}
use Rattle.crash_image.specs.Writes.{written_items}
use Rattle.store_form.specs.Creation.{first_lsn, first_text}

-- no file of these spaces is there
abbrev pub AreAbsent : List SpaceInfo → List Event → Type 0
AreAbsent [] es = Unit {0}
AreAbsent (s ∷ ss) es = (is_there (Space s.space) es ≡ false) × AreAbsent ss es

-- no file of a store with these spaces is there
pub record HasNoFile (spaces : List SpaceInfo) (es : List Event) : Type 0 where
  pub log : is_there Log es ≡ false
  pub double : is_there Double es ≡ false
  pub absent : AreAbsent spaces es

-- each of these spaces has a file with room for page 0
abbrev pub HaveFirstPlaces : List SpaceInfo → List Event → Type 0
HaveFirstPlaces [] es = Unit {0}
HaveFirstPlaces (s ∷ ss) es = InFile (Space s.space) 0 page_bytes es × HaveFirstPlaces ss es

-- there is no valid header
abbrev pub IsNotFormatted : Image → Type 0
IsNotFormatted image = (image.is_made Log ≡ false) ⊎ (header_in (place block_bytes 0 (image.bytes Log)) ≡ None)

-- Each image whose torn places fail their checksums has no valid header, or recovers to the spaces with each page from page 1 on unused.
abbrev pub LeaveNoneOrEmpty : List SpaceInfo → List Event → Type 0
LeaveNoneOrEmpty spaces es = (image : Image) → IsImage es image → Lucky image → (keys : List RingEntry) → IsNotFormatted image ⊎ Recovers image keys (empty spaces) 1

-- the text of page 0 of one of these spaces, as it is made
abbrev pub IsFirstTextOf : List SpaceInfo → ℕ → Text → Type 0
IsFirstTextOf [] s t = ⊥
IsFirstTextOf (x ∷ xs) s t = ((x.space ≡ s) × (t ≡ text_in (first_text x))) ⊎ IsFirstTextOf xs s t

-- it is written of page 0, at LSN 8192; and no ring block is
abbrev pub IsFirstPage : List SpaceInfo → Item → Type 0
IsFirstPage spaces (PageText s p t) = (p ≡ 0) × (t.lsn ≡ first_lsn) × IsFirstTextOf spaces s t
IsFirstPage spaces (RingBlock n version bytes) = ⊥

abbrev pub AreFirstPages : List SpaceInfo → List Item → Type 0
AreFirstPages spaces [] = Unit {0}
AreFirstPages spaces (x ∷ items) = IsFirstPage spaces x × AreFirstPages spaces items

-- Since s no mark was told, and of page texts and ring blocks only these texts of pages 0 were written.
pub record WritesFirstPages (spaces : List SpaceInfo) (s m : List Event) : Type 0 where
  pub told : marks m ≡ marks s
  pub items : List Item
  pub is : written_items (record_of m) ≡ items ++ written_items (record_of s)
  pub first : AreFirstPages spaces items

-- Where nothing was recorded at s, what is recorded at m is what a new store has: under any keys texts of its pages 0, and no ring block.
abbrev pub RecordsCreation : HeldHeader → List SpaceInfo → List Event → List Event → Type 0
RecordsCreation header spaces s m =
    written_items (record_of s) ≡ [] → (keys : List RingEntry) → AreCreated (store_theory header keys (salts_of (empty spaces))) (written_items (record_of m)) (pages_of (empty spaces))
