-- The journal of a session as a list of numbered entries.
use Rattle.std.proofs.Common.{◌≡◌, ℕ, suc, ◌+◌, List, [], ◌∷◌, length, refl, ap}
use Rattle.redo_text.specs.Block.{block_count}
use Rattle.redo_text.specs.Text.{text_of}
use Rattle.session_core.specs.declared.journal.Entry.{Entry}
use Rattle.engine_core.specs.Journal.{numbered_from}

-- it is as long as the session's
pub length-numbered : (n : ℕ) (es : List Entry) → length (numbered_from n es) ≡ length es
length-numbered n [] = refl
length-numbered n (e ∷ es) = ap suc (length-numbered (n + block_count (text_of e.mtr)) es)
