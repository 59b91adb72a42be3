-- A checkpoint of a session: from which block on the log is kept, and what is left.
use Rattle.std.specs.Prelude.{ℕ, List, [], ◌∷◌}
use Rattle.counted_disk.specs.declared.counted.Counted.{Counted}
use Rattle.page_pool.specs.declared.names.DirtyPage.{DirtyPage}
use Rattle.redo_log.specs.Log.{with_checkpoint}
use Rattle.session_core.specs.Session.{Running}

-- the first block of the dirty page that is listed first, or this number where none is dirty
abbrev pub first_block : List DirtyPage → ℕ → ℕ
first_block [] next = next
first_block (d ∷ ds) next = d.first

-- the block from which on the log is kept: the first one of the dirty page listed first, which is the least, or the log's next one where none is dirty
abbrev pub run_begin : {D : Type 0} → Running D → ℕ
run_begin r = first_block r.pool.dirty.entries r.log.next

-- the session over a disk on which its log has this checkpoint
abbrev pub kept_from : {D : Type 0} → Running D → ℕ → Counted D → Running D
kept_from r from disk = record r { disk = disk; log = with_checkpoint r.log from }
