-- The files of a store, as bytes, and the image of them.
use Rattle.std.specs.Prelude.{ℕ, true, nat_eq, if◌then◌else◌, List, [], ◌∷◌}
use Rattle.disk_model.specs.Image.{Image}
use Rattle.disk_model.specs.declared.names.FileName.{FileName}
use Rattle.disk_model.specs.declared.names.FileName.TheVariants.{Log, Double, Space}

-- the log's file, the doublewrite file, and the files of spaces by their ids
pub record ImageFiles : Type 0 where
  pub log : List ℕ
  pub double : List ℕ
  pub spaces : List (ℕ × List ℕ)

-- the file of the space of this id, no bytes where there is none
abbrev pub space_bytes : List (ℕ × List ℕ) → ℕ → List ℕ
space_bytes [] s = []
space_bytes (f ∷ fs) s = if nat_eq f.0 s then f.1 else space_bytes fs s

abbrev pub file_bytes : ImageFiles → FileName → List ℕ
file_bytes files Log = files.log
file_bytes files Double = files.double
file_bytes files (Space s) = space_bytes files.spaces s

-- an image with these bytes, no torn places and no marks
abbrev pub image_of : ImageFiles → Image
image_of files = record { is_made = λ f. true; bytes = file_bytes files; told = []; torn = λ f. [] }
