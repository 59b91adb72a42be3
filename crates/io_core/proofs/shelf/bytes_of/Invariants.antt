use Rattle.std.proofs.Common.{◌≡◌, drop}
use Rattle.io_core.specs.Memory.{files_of, listed}
use Rattle.io_core.proofs.shelf.bytes_of.Given as goal

-- the files that are left answer as all do
abbrev pub invariant-loop-i : goal.invariant-loop-i
invariant-loop-i l = files_of (listed (drop l.i l.files)) l.name ≡ files_of (listed l.files) l.name
