-- The text of a change, joined.
use Rattle.std.proofs.Common.{◌≡◌, ℕ, List, ◌∷◌, ◌++◌, length, append_assoc}
use Rattle.std.specs.Int.{to_be_bytes, w32}
use Rattle.redo_text.specs.declared.change.Change.TheVariants.{Put}
use Rattle.plain_engine.specs.Text.{plain_change_text}

pub put_joined : (text : List ℕ) (space page at : ℕ) (bytes : List ℕ)
    → text ++ (1 ∷ to_be_bytes w32 space ++ to_be_bytes w32 page) ++ to_be_bytes w32 at ++ to_be_bytes w32 (length bytes) ++ bytes ≡ text ++ plain_change_text (Put space page at bytes)
put_joined text space page at bytes = simp append_assoc
