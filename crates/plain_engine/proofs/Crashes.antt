-- What a crash of a disk in memory leaves: no torn block passes its checksum.
use Rattle.std.proofs.Common.{◌≡◌, ℕ, ◌≤◌, List, length, take, subst, sym}
use Rattle.disk_model.specs.Event.{Event, reads}
use Rattle.disk_model.specs.Crash.{IsCrash, crash_image}
use Rattle.disk_model.specs.declared.calls.Choice.{Choice}
use Rattle.disk_model.specs.declared.names.FileName.TheVariants.{Log}
use Rattle.disk_model.proofs.Lucky.{crash_is_lucky}
use Rattle.plain_engine.specs.declared.journal.Entry.{Entry}
use Rattle.plain_engine.specs.Log.{IsRunFrom, LogRecovers}
use Rattle.plain_engine.specs.Stands.{mtrs, passes, LogStands, LogKeeps, AllStand, AllRecover, AllRefusable}
use Rattle.plain_engine.proofs.RunLength.{kept-scan, run-length}

module _ (journal : List Entry) (choices : List Choice) (es after : List Event) (refusable : AllRefusable es) (crash : IsCrash choices es after) where
  pub crash-stands : AllStand journal es → LogStands journal (crash_image choices es)
  crash-stands all = all (crash_image choices es) crash.is (crash_is_lucky passes choices es refusable)

  -- a scan of the disk after the crash counts the entries that are kept
  pub crash-keeps : AllStand journal es → (texts : List (List ℕ)) → IsRunFrom 2 (reads Log after) texts → LogKeeps journal (crash_image choices es) (length texts)
  crash-keeps all texts run = kept-scan journal (crash_image choices es) texts (crash-stands all) (subst (λ (file : List ℕ). IsRunFrom 2 file texts) (crash.reads_as Log) run)

  pub crash-recovers : (settled : ℕ) → AllRecover journal settled es → LogRecovers (reads Log after) (take settled (mtrs journal))
  crash-recovers settled all =
      subst (λ (file : List ℕ). LogRecovers file (take settled (mtrs journal))) (sym (crash.reads_as Log)) (all (crash_image choices es) crash.is (crash_is_lucky passes choices es refusable))

  -- with nothing pending it counts the settled ones
  pub crash-settled : (settled : ℕ) → settled ≤ length journal → AllRecover journal settled es → (texts : List (List ℕ)) → IsRunFrom 2 (reads Log after) texts → length texts ≡ settled
  crash-settled settled le all texts run = run-length (reads Log after) journal settled texts le (crash-recovers settled all) run
