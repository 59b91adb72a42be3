-- The writes of a put: its texts to the doublewrite file, and then to their homes.
use Rattle.std.specs.Prelude.{ℕ, ◌<◌, length}
use Rattle.disk_model.specs.Past.{Past}
use Rattle.disk_model.specs.declared.names.FileName.TheVariants.{Double, Space}
use Rattle.doublewrite.specs.Batch.{home_batch, home_events, slot_batch, slot_events, text_at}
use Rattle.doublewrite.specs.Text.{page_number_of}
use Rattle.doublewrite.specs.declared.texts.Texts.{Texts}
use Rattle.page_places.specs.Texts.{page_bytes, slot_size}
use Rattle.places.specs.Writes.{IsPart, grows}

-- the past once the texts are in the doublewrite file, which is synced, and once they are in their homes too, and the space is synced
abbrev pub stored_past : Texts → Past → Past
stored_past batch past = grows (slot_events batch) past

abbrev pub put_past : Texts → Past → Past
put_past batch past = grows (home_events batch) (stored_past batch past)

-- What was done of it: a part of the slots; or all of them, which are synced, and a part of the homes.
pub data IsPutPart (batch : Texts) (old new : Past) : Type 0 where
  Storing : IsPart Double slot_size (slot_batch batch) (length batch.pages) old new → IsPutPart batch old new
  Homing : IsPart (Space batch.space) page_bytes (home_batch batch) (length batch.pages) (stored_past batch old) new → IsPutPart batch old new

-- the pages of the texts are pages of a space of so many
abbrev pub AreWithin : Texts → ℕ → Type 0
AreWithin batch count = (i : ℕ) → i < length batch.pages → page_number_of (text_at batch i) < count
