use Rattle.std.proofs.Common.{◌≡◌, ℕ, ◌+◌, ◌*◌, ◌-◌, ◌≤◌, ◌<◌, List, length}
use Rattle.crash_image.specs.LogForm.{log_places}
use Rattle.crash_image.specs.Opened.{IsOpenedAt, StoreOpened}
use Rattle.disk_model.specs.Does.{SoFar}
use Rattle.disk_model.specs.Event.{Event}
use Rattle.disk_model.specs.Past.{At}
use Rattle.disk_model.specs.declared.names.FileName.TheVariants.{Double, Log, Space}
use Rattle.page_places.specs.Texts.{pages, slots}
use Rattle.places.specs.Places.{HasFile}
use Rattle.recovery.specs.Groups.{AreSealable, IsApplyEvent, IsSealedUnder, LeavesSince}
use Rattle.recovery.specs.Putting.{BetweenGroups, MayApplyGroups}
use Rattle.recovery.specs.Recorded.{HasRecord, KeepsOpeningRecord}
use Rattle.recovery.specs.Rounds.{count_in, has_later}
use Rattle.recovery.proofs.GroupSteps.{IsAppliedTo}
use Rattle.recovery.proofs.group_writing.write_groups.Given as goal

abbrev pub invariant-loop-at : goal.invariant-loop-at
invariant-loop-at g l = record {
  begins : l.range.from ≤ l.at;
  ends : l.at ≤ l.range.end;
  applies : (o : StoreOpened) (s : List Event) → At (BetweenGroups o s) (g.D.Disk.past l.fn.disk) → IsSealedUnder o l.range.info.space l.under.version l.under.key → AreSealable o (has_later l.notes l.last) l.range.info.space l.last l.range.from l.range.end l.fn.pool
      → SoFar (MayApplyGroups o s) (IsApplyEvent l.range.info.space) (IsAppliedTo o s (has_later l.notes l.last) l.range.info.space l.range.from l.at (g.D.Disk.past l.fn.disk)) (g.D.Disk.past l.fn.disk) (g.D.Disk.past l.disk);
  recorded : (o : StoreOpened) (end : ℕ) (s : List Event) → IsOpenedAt o end s → At (BetweenGroups o s) (g.D.Disk.past l.fn.disk) → At (HasRecord o) (g.D.Disk.past l.fn.disk) → IsSealedUnder o l.range.info.space l.under.version l.under.key
      → AreSealable o (has_later l.notes l.last) l.range.info.space l.last l.range.from l.range.end l.fn.pool → SoFar (KeepsOpeningRecord o) (IsApplyEvent l.range.info.space) (HasRecord o) (g.D.Disk.past l.fn.disk) (g.D.Disk.past l.disk);
  beside : LeavesSince l.range.info.space l.range.from l.at (g.D.Disk.past l.fn.disk) (g.D.Disk.past l.disk);
  same : l.pool ≡ l.fn.pool;
  double : At (HasFile Double slots) (g.D.Disk.past l.disk);
  spaces : (z count : ℕ) → At (HasFile (Space z) (pages count)) (g.D.Disk.past l.fn.disk) → At (HasFile (Space z) (pages count)) (g.D.Disk.past l.disk);
  log : (n : ℕ) → At (HasFile Log (log_places n)) (g.D.Disk.past l.fn.disk) → At (HasFile Log (log_places n)) (g.D.Disk.past l.disk);
  within : l.at < l.range.end → g.D.Disk.clock l.disk ≤ g.D.Disk.clock l.fn.disk + count_in (has_later l.notes l.last) l.range.from (l.at - l.range.from) * 4;
  calls : g.D.Disk.clock l.disk ≤ g.D.Disk.clock l.fn.disk + count_in (has_later l.notes l.last) l.range.from (l.at - l.range.from) * 4 + 2;
  faults : g.D.Disk.faults l.disk ≡ g.D.Disk.faults l.fn.disk;
  memory : g.D.Disk.memory_refusals l.disk ≡ g.D.Disk.memory_refusals l.fn.disk;
  later : g.D.Disk.is_later l.fn.disk l.disk;
}

abbrev pub decreases-loop-at : goal.decreases-loop-at
decreases-loop-at g l = l.range.end - l.at
