-- Which batches are outstanding.
use Rattle.std.specs.Prelude.{◌≡◌, ℕ, ◌≤◌, Bool, true, false, List, [], ◌∷◌, ◌==◌, if◌then◌else◌, slice_index_or, length}
use Rattle.script_core.specs.declared.act.Act.{Act}
use Rattle.script_core.specs.declared.act.Act.TheVariants.{Take, Put}

-- whether a batch is outstanding after a statement, where it was so or not before
abbrev pub out_after : ℕ → Act → Bool → Bool
out_after batch (Take taken space count) was = if batch == taken then true else was
out_after batch (Put done) was = if batch == done then false else was
out_after batch _ was = was

-- whether it is after these statements, the newest first
unfoldable pub is_batch_out : ℕ → List Act → Bool
is_batch_out batch [] = false
is_batch_out batch (act ∷ before) = out_after batch act (is_batch_out batch before)

-- it was taken, and not put since
abbrev pub IsOut : ℕ → List Act → Type 0
IsOut batch before = is_batch_out batch before ≡ true

-- a table of the batches from 1 to 16 tells this
pub record Tells (out : List Bool) (before : List Act) : Type 0 where
  pub size : length out ≡ 17
  pub each : (batch : ℕ) → batch ≤ 16 → slice_index_or out batch false ≡ is_batch_out batch before

-- the batches that a statement names are from 1 to 16
abbrev pub HasBatch : Act → Type 0
HasBatch (Take batch space count) = batch ≤ 16
HasBatch (Put batch) = batch ≤ 16
HasBatch _ = Unit {0}
