-- Which events leave a file as it is.
use Rattle.std.specs.Prelude.{◌≡◌, false}
use Rattle.disk_model.specs.Event.{Event, Open, Make, Write, Sync, Tell, same_file}
use Rattle.disk_model.specs.declared.names.FileName.{FileName}

-- a file that is made, a write or a sync of another file than this, or a mark
abbrev pub LeavesFile : FileName → Event → Type 0
LeavesFile g (Open files ms ws) = ⊥
LeavesFile g (Make f n) = same_file g f ≡ false
LeavesFile g (Write f at bytes shows) = same_file g f ≡ false
LeavesFile g (Sync f) = same_file g f ≡ false
LeavesFile g (Tell m) = Unit {0}
