use Rattle.std.proofs.Common.{◌≡◌, ℕ, ◌+◌, ◌<◌, List, Some}
use Rattle.crash_image.specs.LogForm.{log_places}
use Rattle.crash_image.specs.Opened.{StoreOpened}
use Rattle.disk_model.specs.Does.{SoFar}
use Rattle.disk_model.specs.Event.{Event}
use Rattle.disk_model.specs.Past.{At}
use Rattle.disk_model.specs.declared.names.FileName.TheVariants.{Double, Log, Space}
use Rattle.page_places.specs.Texts.{pages, slots}
use Rattle.places.specs.Places.{HasFile}
use Rattle.store_form.specs.Said.{header_said}
use Rattle.recovery.specs.Applying.{SaysRun}
use Rattle.recovery.specs.Due.{IsOpenedWith}
use Rattle.recovery.specs.Putting.{MayApplyGroups}
use Rattle.recovery.specs.Spaces.{HasTexts, IsFoundOf, IsSpacesEvent, IsStoreDue, LeavesSpacesSince}
use Rattle.recovery.proofs.SpacesApplied.{IsAppliedFrom}
use Rattle.recovery.proofs.spaces.apply_spaces.Given as goal

abbrev pub invariant-loop-i : goal.invariant-loop-i
invariant-loop-i g l = record {
  applies : (o : StoreOpened) (number : ℕ) (s b : List Event) → g.D.Disk.past l.fn.disk ≡ Some b → IsOpenedWith o (header_said l.found.header) l.ring l.found.checkpoint.from (l.found.run.last + 1) → IsFoundOf o l.active s l.found → IsStoreDue o number s b
      → SoFar (MayApplyGroups o s) (IsSpacesEvent l.found.changes.spaces) (IsAppliedFrom o s l.found l.i (g.D.Disk.past l.fn.disk)) (g.D.Disk.past l.fn.disk) (g.D.Disk.past l.disk);
  texts : (j : ℕ) → j < l.i → At (HasTexts l.ring l.active l.found j) (g.D.Disk.past l.fn.disk);
  beside : LeavesSpacesSince l.found.changes.spaces l.i (g.D.Disk.past l.fn.disk) (g.D.Disk.past l.disk);
  double : At (HasFile Double slots) (g.D.Disk.past l.disk);
  spaces : (z n : ℕ) → At (HasFile (Space z) (pages n)) (g.D.Disk.past l.fn.disk) → At (HasFile (Space z) (pages n)) (g.D.Disk.past l.disk);
  log : (n : ℕ) → At (HasFile Log (log_places n)) (g.D.Disk.past l.fn.disk) → At (HasFile Log (log_places n)) (g.D.Disk.past l.disk);
  says : At (SaysRun (header_said l.found.header) l.ring l.found.checkpoint.from (l.found.run.last + 1)) (g.D.Disk.past l.disk);
  faults : g.D.Disk.faults l.disk ≡ g.D.Disk.faults l.fn.disk;
  memory : g.D.Disk.memory_refusals l.disk ≡ g.D.Disk.memory_refusals l.fn.disk;
  later : g.D.Disk.is_later l.fn.disk l.disk;
}
