-- Which file is of another length than the header says, and which mini-transaction changes a page that the store doesn't have.
use Rattle.std.specs.Prelude.{◌≡◌, ◌≢◌, ℕ, ◌+◌, ◌*◌, ◌≤◌, List, ◌∷◌, length, take, drop}
use Rattle.disk_model.specs.Image.{Image}
use Rattle.disk_model.specs.declared.names.FileName.TheVariants.{Log, Double, Space}
use Rattle.redo_text.specs.declared.change.Change.{Change}
use Rattle.store_image.specs.View.{Logged, block_bytes, slot_count}
use Rattle.store_files.specs.Header.{HeldHeader, HeldSpace}
use Rattle.crash_image.specs.Recovers.{SpacesLong, AreOfStore, RunIsOfStore}
use Rattle.image_reader.specs.HeaderSpaces.{IsSpaceAt}
use Rattle.image_reader.specs.declared.refusal.Refusal.{Refusal}
use Rattle.image_reader.specs.declared.refusal.Refusal.TheVariants.{Length}
use Rattle.store_image.specs.Checkpoint.{front_blocks}
use Rattle.page_places.specs.Texts.{page_bytes, slot_size}

-- s is the first of these spaces whose file isn't as long as its pages
pub record IsFirstOther (image : Image) (spaces : List HeldSpace) (s : ℕ) : Type 0 where
  pub space : HeldSpace
  pub named : IsSpaceAt spaces space
  pub id : s ≡ space.space
  pub before : SpacesLong image (take named.index spaces)
  pub other : length (image.bytes (Space s)) ≢ space.pages * page_bytes

-- the first file that isn't as long as the header says: the log's, the doublewrite file, the spaces' in order
abbrev pub IsLengthFault : Image → HeldHeader → Refusal → Type 0
IsLengthFault image header (Length Log) = length (image.bytes Log) ≢ (front_blocks + header.blocks) * block_bytes
IsLengthFault image header (Length Double) = (length (image.bytes Log) ≡ (front_blocks + header.blocks) * block_bytes) × (length (image.bytes Double) ≢ slot_count * slot_size)
IsLengthFault image header (Length (Space s)) = (length (image.bytes Log) ≡ (front_blocks + header.blocks) * block_bytes) × (length (image.bytes Double) ≡ slot_count * slot_size) × IsFirstOther image header.spaces s
IsLengthFault image header r = ⊥

-- the first mini-transaction of the run with a change of a page that the store doesn't have begins with this block
pub record IsFirstForeign (spaces : List HeldSpace) (run : List (Logged (List Change))) (first : ℕ) : Type 0 where
  pub index : ℕ
  pub entry : Logged (List Change)
  pub is : drop index run ≡ entry ∷ drop (index + 1) run
  pub first_is : first ≡ entry.first
  pub before : RunIsOfStore spaces (take index run)
  pub other : AreOfStore spaces entry.mtr → ⊥
