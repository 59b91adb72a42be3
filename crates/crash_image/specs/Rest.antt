-- A store at rest.
use Rattle.std.specs.Prelude.{◌≡◌, ℕ, ◌+◌, true, List, []}
use Rattle.disk_model.specs.Event.{Event, is_there, reads, marks}
use Rattle.disk_model.specs.Image.{Image, IsImage}
use Rattle.disk_model.specs.declared.names.FileName.{FileName}
use Rattle.disk_model.specs.declared.names.FileName.TheVariants.{Log}
use Rattle.key_ring.specs.Ring.{RingEntry}
use Rattle.page_places.specs.Views.{view}
use Rattle.store_image.specs.View.{Text, IsLive}
use Rattle.store_model.specs.declared.contents.SpaceContents.{SpaceContents}
use Rattle.store_files.specs.Pages.{has_page}
use Rattle.store_files.specs.Run.{IsClear}
use Rattle.crash_image.specs.Recovers.{Recovers}

-- the disk as it reads, with no torn place
abbrev pub read_image : List Event → Image
read_image es = record { is_made = λ f. is_there f es; bytes = λ f. reads f es; told = marks es; torn = λ f. [] }

-- no write is pending: each image has each file as it reads
abbrev pub HasNonePending : List Event → Type 0
HasNonePending es = (image : Image) → IsImage es image → (f : FileName) → image.bytes f ≡ reads f es

-- The disk is at rest with these contents: nothing is pending, it recovers to them with an empty run, no slot is read from, and no ring block has a number of next or more.
pub record IsAtRest (es : List Event) (keys : List RingEntry) (c : List SpaceContents) (next : ℕ) : Type 0 where
  pub settled : HasNonePending es
  pub last : ℕ
  pub is_next : last + 1 ≡ next
  pub recovers : Recovers (read_image es) keys c last
  pub empty : recovers.log.run ≡ []
  pub none_live : (s p i : ℕ) (t : Text) → has_page recovers.header.spaces s p ≡ true → IsLive (view recovers.log (read_image es)) s p i t → ⊥
  pub clear : IsClear recovers.header.blocks (reads Log es) next
