-- Which keys an image needs, when its torn places are told from whole ones, and when it stands for a beginning of a journal.
use Rattle.std.specs.Prelude.{◌≡◌, ◌≢◌, ℕ, ◌+◌, ◌*◌, ◌<◌, ◌≤◌, Bool, true, List, map, take, Some, Contains}
use Rattle.disk_model.specs.Image.{Image, IsLucky}
use Rattle.disk_model.specs.Marks.{acked}
use Rattle.disk_model.specs.declared.names.FileName.{FileName}
use Rattle.disk_model.specs.declared.names.FileName.TheVariants.{Log, Double, Space}
use Rattle.key_ring.specs.Ring.{RingEntry}
use Rattle.page_places.specs.Texts.{ends_in_sum, slot_sums_up}
use Rattle.page_places.specs.Views.{view}
use Rattle.store_image.specs.Places.{LogView}
use Rattle.store_image.specs.Recovers.{ViewRotated, count_to}
use Rattle.store_image.specs.View.{Text, Logged, IsChosen, IsLive, block_bytes}
use Rattle.store_model.specs.Fold.{fold}
use Rattle.redo_text.specs.declared.change.Change.{Change}
use Rattle.store_model.specs.declared.contents.SpaceContents.{SpaceContents}
use Rattle.store_files.specs.Header.{HeldHeader}
use Rattle.store_files.specs.Pages.{has_page, key_id_of, pages_of, salts_of}
use Rattle.redo_text.specs.Reading.{block_version}
use Rattle.store_files.specs.Run.{block_at}
use Rattle.crash_image.specs.StoreTheory.{store_theory}
use Rattle.crash_image.specs.Recovers.{Recovers}

-- the one test of each file, which its whole places pass: the checksum of a log's block, of a slot, of a page
abbrev pub place_test : FileName → List ℕ → Bool
place_test Log = ends_in_sum
place_test Double = slot_sums_up
place_test (Space s) = ends_in_sum

-- no torn place of the image passes its file's test
abbrev pub Lucky : Image → Type 0
Lucky image = IsLucky place_test image

-- a key, by its id and version, that reading the image needs: that of a chosen text, of a live slot, of a block of the run, or the active version of the log or of a space
pub data Named (image : Image) (header : HeldHeader) (log : LogView (List Change)) (active id version : ℕ) : Type 0 where
  OfChosen : (s p : ℕ) (t : Text) → has_page header.spaces s p ≡ true → IsChosen (view log image) s p (Some t) → t.version ≢ 0 → id ≡ key_id_of header.spaces s → version ≡ t.version → Named image header log active id version
  OfSlot : (s p i : ℕ) (t : Text) → has_page header.spaces s p ≡ true → IsLive (view log image) s p i t → t.version ≢ 0 → id ≡ key_id_of header.spaces s → version ≡ t.version → Named image header log active id version
  OfBlock : (n : ℕ) → log.from ≤ n → n < log.end → id ≡ 1 → version ≡ block_version (block_at header.blocks (image.bytes Log) n) → Named image header log active id version
  OfLog : id ≡ 1 → version ≡ active → Named image header log active id version
  OfSpace : (s : ℕ) → has_page header.spaces s 0 ≡ true → id ≡ key_id_of header.spaces s → version ≡ active → Named image header log active id version

-- the changes of a journal
abbrev pub mtrs_of : List (Logged (List Change)) → List (List Change)
mtrs_of journal = map (λ e. e.mtr) journal

-- no page of a space that was told to be at a version needs an older key, also once a live slot was taken for its home
abbrev pub Rotated : Image → List RingEntry → HeldHeader → LogView (List Change) → List SpaceContents → Type 0
Rotated image keys header log c = ViewRotated (store_theory header keys (salts_of c)) (view log image) (pages_of c)

-- the image recovers to these contents, and is rotated
pub record RecoversRotated (image : Image) (keys : List RingEntry) (c : List SpaceContents) (last : ℕ) : Type 0 where
  pub recovers : Recovers image keys c last
  pub rotated : Rotated image keys recovers.header recovers.log c

-- The image stands for the first entries of the journal over the base contents, as many as its run reaches: it recovers to their fold, they hold all that was acknowledged, no key that was given up is needed, and each key that is needed is among the named.
pub record Stands (base : List SpaceContents) (journal : List (Logged (List Change))) (image : Image) (keys : List RingEntry) (named : List (ℕ × ℕ)) (active : ℕ) : Type 0 where
  pub last : ℕ
  pub recovers : Recovers image keys (fold (mtrs_of (take (count_to ((last + 1) * block_bytes) journal) journal)) base) last
  pub acknowledged : acked image.told ≤ count_to ((last + 1) * block_bytes) journal
  pub rotated : Rotated image keys recovers.header recovers.log (fold (mtrs_of (take (count_to ((last + 1) * block_bytes) journal) journal)) base)
  pub keyed : (id version : ℕ) → Named image recovers.header recovers.log active id version → Contains named (id, version)
