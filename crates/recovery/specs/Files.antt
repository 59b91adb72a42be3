-- The files of a store, and whether a disk has them as a header says.
use Rattle.std.specs.Prelude.{◌≡◌, ◌≢◌, ℕ, ◌*◌, ◌≤◌, if◌then◌else◌, List, ◌∷◌, length, map}
use Rattle.disk_model.specs.Event.{Event, is_there, reads}
use Rattle.disk_model.specs.declared.names.FileName.{FileName}
use Rattle.disk_model.specs.declared.names.FileName.TheVariants.{Log, Double, Space}
use Rattle.page_places.specs.Texts.{pages, slots}
use Rattle.places.specs.Places.{Layout, HasFile}
use Rattle.store_files.specs.Header.{HeldHeader, HeldSpace}
use Rattle.crash_image.specs.LogForm.{log_places}
use Rattle.crash_image.specs.Recovers.{HasHeader}
use Rattle.crash_image.specs.Rest.{read_image}
use Rattle.recovery.specs.Walks.{AllHave, FirstHas}
use Rattle.store_image.specs.Checkpoint.{front_blocks}
use Rattle.store_image.specs.View.{block_bytes}

-- the length of a file; one that isn't there has none
abbrev pub found_length : FileName → List Event → ℕ
found_length f es = if is_there f es then length (reads f es) else 0

-- the log has room for a header and two checkpoints, and its first block is this header
pub record IsFormatted (h : HeldHeader) (es : List Event) : Type 0 where
  pub long : front_blocks * block_bytes ≤ found_length Log es
  pub is_header : HasHeader (read_image es) h

-- a file of a store, and its places
pub record StoreFile : Type 0 where
  pub name : FileName
  pub layout : Layout

-- the length that it is to have
abbrev pub file_bytes_of : StoreFile → ℕ
file_bytes_of file = file.layout.count * file.layout.size

abbrev pub space_file : HeldSpace → StoreFile
space_file s = record { name = Space s.space; layout = pages s.pages }

-- the files of a store with this header, in order
abbrev pub store_files_of : HeldHeader → List StoreFile
store_files_of h = record { name = Log; layout = log_places h.blocks } ∷ record { name = Double; layout = slots } ∷ map space_file h.spaces

-- a file is there with its length
abbrev pub HasStoreFile : List Event → StoreFile → Type 0
HasStoreFile es file = HasFile file.name file.layout es

-- each of these files is
abbrev pub HaveStoreFiles : List StoreFile → List Event → Type 0
HaveStoreFiles files es = AllHave (HasStoreFile es) files

-- this file has another length, namely this one
pub record HasOtherLength (file : StoreFile) (found : ℕ) (es : List Event) (f : StoreFile) : Type 0 where
  pub file_is : file ≡ f
  pub is : found ≡ found_length f.name es
  pub other : found ≢ file_bytes_of f

-- and is the first of these that has
abbrev pub IsFirstMisfit : List StoreFile → StoreFile → ℕ → List Event → Type 0
IsFirstMisfit files file found es = FirstHas (HasStoreFile es) (HasOtherLength file found es) files
