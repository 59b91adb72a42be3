-- The journal of a session as its log has it.
use Rattle.std.specs.Prelude.{ℕ, ◌+◌, List, [], ◌∷◌}
use Rattle.redo_text.specs.Block.{block_count}
use Rattle.redo_text.specs.Text.{text_of}
use Rattle.redo_text.specs.declared.change.Change.{Change}
use Rattle.store_image.specs.View.{Logged}
use Rattle.session_core.specs.Session.{Running}
use Rattle.session_core.specs.declared.journal.Entry.{Entry}

-- the entries, the first of which begins with the block of this number, each with its first block and its LSN
abbrev pub numbered_from : ℕ → List Entry → List (Logged (List Change))
numbered_from n [] = []
numbered_from n (e ∷ es) = record { first = n; lsn = e.lsn; mtr = e.mtr } ∷ numbered_from (n + block_count (text_of e.mtr)) es

-- the journal of a session
abbrev pub journal_of : {D : Type 0} → Running D → List (Logged (List Change))
journal_of r = numbered_from r.begins r.journal
