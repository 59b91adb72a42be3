-- The valid slots of the doublewrite file, in order.
use Rattle.std.specs.Prelude.{ℕ, zero, suc, List, [], ◌∷◌, ◌++◌, Option, Some, None}
use Rattle.disk_model.specs.Event.{Event}
use Rattle.disk_model.specs.declared.names.FileName.TheVariants.{Double}
use Rattle.places.specs.Places.{shown}
use Rattle.store_image.specs.View.{Slot}
use Rattle.page_places.specs.Texts.{slot_held, slot_size}
use Rattle.doublewrite.specs.declared.listing.Copied.{Copied}

-- the slot at an index, as it is listed
abbrev pub as_copied : ℕ → Option Slot → Option Copied
as_copied i None = None
as_copied i (Some x) = Some (record { index = i; space = x.space; page = x.page; lsn = x.text.lsn; version = x.text.version; text = x.text.bytes })

abbrev pub as_list : Option Copied → List Copied
as_list None = []
as_list (Some c) = c ∷ []

-- of the first n slots the valid ones
unfoldable pub copies_to : ℕ → List Event → List Copied
copies_to zero es = []
copies_to (suc n) es = copies_to n es ++ as_list (as_copied n (slot_held (shown Double slot_size n es)))
