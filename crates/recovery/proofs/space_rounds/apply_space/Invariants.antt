use Rattle.std.proofs.Common.{◌≡◌, ℕ, ◌+◌, ◌-◌, ◌≤◌, ◌<◌, List, Some, length}
use Rattle.crash_image.specs.LogForm.{log_places}
use Rattle.crash_image.specs.Opened.{StoreOpened}
use Rattle.disk_model.specs.Does.{SoFar}
use Rattle.disk_model.specs.Event.{Event}
use Rattle.disk_model.specs.Past.{At}
use Rattle.disk_model.specs.declared.names.FileName.TheVariants.{Double, Log, Space}
use Rattle.page_places.specs.Texts.{pages, slots}
use Rattle.places.specs.Places.{HasFile}
use Rattle.store_form.specs.Said.{header_said}
use Rattle.recovery.specs.Applying.{SaysRun}
use Rattle.recovery.specs.Due.{IsOpenedWith, IsRoundDue, IsSpaceOf}
use Rattle.recovery.specs.Groups.{IsApplyEvent, IsSealedUnder, LeavesSince}
use Rattle.recovery.specs.Loading.{HaveTexts}
use Rattle.recovery.specs.Putting.{MayApplyGroups}
use Rattle.recovery.specs.Recorded.{HasRecord, KeepsOpeningRecord}
use Rattle.recovery.specs.Rounds.{has_later}
use Rattle.recovery.proofs.GroupSteps.{IsAppliedTo}
use Rattle.recovery.proofs.space_rounds.apply_space.Given as goal

abbrev pub invariant-loop-start : goal.invariant-loop-start
invariant-loop-start g l = record {
  ends : l.start ≤ l.count;
  applies : (o : StoreOpened) (number : ℕ) (s b : List Event) → g.D.Disk.past l.fn.disk ≡ Some b → IsOpenedWith o (header_said l.header) l.ring l.from (l.run.last + 1) → IsSpaceOf o s l.info l.notes l.last → IsSealedUnder o l.info.space l.under.version l.under.key → IsRoundDue o number s (has_later l.notes l.last) l.info.space 0 l.count b
      → SoFar (MayApplyGroups o s) (IsApplyEvent l.info.space) (IsAppliedTo o s (has_later l.notes l.last) l.info.space 0 l.start (g.D.Disk.past l.fn.disk)) (g.D.Disk.past l.fn.disk) (g.D.Disk.past l.disk);
  recorded : (o : StoreOpened) (number : ℕ) (s b : List Event) → g.D.Disk.past l.fn.disk ≡ Some b → IsOpenedWith o (header_said l.header) l.ring l.from (l.run.last + 1) → IsSpaceOf o s l.info l.notes l.last → IsSealedUnder o l.info.space l.under.version l.under.key → IsRoundDue o number s (has_later l.notes l.last) l.info.space 0 l.count b
      → At (HasRecord o) (g.D.Disk.past l.fn.disk) → SoFar (KeepsOpeningRecord o) (IsApplyEvent l.info.space) (HasRecord o) (g.D.Disk.past l.fn.disk) (g.D.Disk.past l.disk);
  texts : At (HaveTexts l.ring l.header.algorithm l.info l.notes (has_later l.notes l.last) 0 l.start) (g.D.Disk.past l.fn.disk);
  beside : LeavesSince l.info.space 0 l.start (g.D.Disk.past l.fn.disk) (g.D.Disk.past l.disk);
  double : At (HasFile Double slots) (g.D.Disk.past l.disk);
  spaces : (z count : ℕ) → At (HasFile (Space z) (pages count)) (g.D.Disk.past l.fn.disk) → At (HasFile (Space z) (pages count)) (g.D.Disk.past l.disk);
  log : (n : ℕ) → At (HasFile Log (log_places n)) (g.D.Disk.past l.fn.disk) → At (HasFile Log (log_places n)) (g.D.Disk.past l.disk);
  says : At (SaysRun (header_said l.header) l.ring l.from (l.run.last + 1)) (g.D.Disk.past l.disk);
  faults : g.D.Disk.faults l.disk ≡ g.D.Disk.faults l.fn.disk;
  memory : g.D.Disk.memory_refusals l.disk ≡ g.D.Disk.memory_refusals l.fn.disk;
  later : g.D.Disk.is_later l.fn.disk l.disk;
}

abbrev pub decreases-loop-start : goal.decreases-loop-start
decreases-loop-start g l = l.count - l.start
