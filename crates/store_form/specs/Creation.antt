-- The events of a disk while a store is created, in their order, and how far they went.
use Rattle.std.specs.Prelude.{◌≡◌, ◌⊎◌, ℕ, ◌+◌, ◌*◌, List, [], ◌∷◌, ◌++◌, None}
use Rattle.disk_model.specs.Event.{Event, Open, Make, Write, Sync, Tell}
use Rattle.disk_model.specs.Past.{Past, grow, IsWrite}
use Rattle.disk_model.specs.declared.names.FileName.TheVariants.{Log, Double, Space}
use Rattle.page_places.specs.Texts.{page_bytes, slot_size}
use Rattle.page_text.specs.Text.{text}
use Rattle.redo_log.specs.Events.{check_event}
use Rattle.space_head.specs.declared.space.SpaceInfo.{SpaceInfo}
use Rattle.store_files.specs.Header.{HeldHeader, header_bytes}
use Rattle.store_files.specs.Pages.{head_page}
use Rattle.store_image.specs.Checkpoint.{front_blocks}
use Rattle.store_image.specs.View.{block_bytes, slot_count}
use Rattle.store_form.specs.declared.making.FrontBlock.{FrontBlock}
use Rattle.store_form.specs.declared.making.FrontBlock.TheVariants.{Checkpoint, Header}

-- the LSN of the log's first block, which the pages 0 are made at
abbrev pub first_lsn : ℕ
first_lsn = 2 * block_bytes

-- the text of page 0 of a space as it is made: its head in clear, at the LSN of the log's first block
unfoldable pub first_text : SpaceInfo → List ℕ
first_text info = text info.space 0 first_lsn 0 None (head_page info)

-- the files of the spaces, of zero bytes
abbrev pub spaces_begun : List SpaceInfo → List Event
spaces_begun [] = []
spaces_begun (s ∷ ss) = Make (Space s.space) (s.pages * page_bytes) ∷ spaces_begun ss

-- all files
abbrev pub files_begun : HeldHeader → List SpaceInfo → List Event
files_begun header spaces = Make Log ((front_blocks + header.blocks) * block_bytes) ∷ Make Double (slot_count * slot_size) ∷ spaces_begun spaces

-- page 0 of each space, and a sync of it
abbrev pub first_pages_written : List SpaceInfo → List Event
first_pages_written [] = []
first_pages_written (s ∷ ss) = Write (Space s.space) 0 (first_text s) (first_text s) ∷ Sync (Space s.space) ∷ first_pages_written ss

-- the first checkpoint, and then the header, each with a sync
abbrev pub check_written : List Event
check_written = check_event 1 2 ∷ Sync Log ∷ []

abbrev pub header_written : HeldHeader → List Event
header_written header = Write Log 0 (header_bytes header) (header_bytes header) ∷ Sync Log ∷ []

abbrev pub front_written : HeldHeader → FrontBlock → List Event
front_written header Checkpoint = check_written
front_written header Header = header_written header

-- The events of creating a store, the oldest first: all files, the pages 0, the checkpoint, and the header last.
abbrev pub creation : HeldHeader → List SpaceInfo → List Event
creation header spaces = files_begun header spaces ++ (first_pages_written spaces ++ (check_written ++ header_written header))

-- the events of a disk, the newest first, with these behind them, the oldest first
abbrev pub events_after : List Event → List Event → List Event
events_after [] es = es
events_after (e ∷ steps) es = events_after steps (e ∷ es)

-- and its past
abbrev pub past_after : List Event → Past → Past
past_after [] old = old
past_after (e ∷ steps) old = past_after steps (grow e old)

-- a write was asked for and failed: since then its range may read as anything
abbrev pub IsAttempt : Event → Past → Past → Type 0
IsAttempt (Write f at bytes shows) old new = (e : Event) × IsWrite f at bytes e × (new ≡ grow e old)
IsAttempt (Open files ms ws) old new = ⊥
IsAttempt (Make f n) old new = ⊥
IsAttempt (Sync f) old new = ⊥
IsAttempt (Tell m) old new = ⊥

-- Some of these were done in order, and maybe the write behind them was attempted.
abbrev pub IsStopped : List Event → Past → Past → Type 0
IsStopped [] old new = new ≡ old
IsStopped (e ∷ steps) old new = (new ≡ old) ⊎ (IsAttempt e old new ⊎ IsStopped steps (grow e old) new)
