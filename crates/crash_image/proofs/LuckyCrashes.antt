-- A crash of a disk in memory is lucky, where each file was written in whole places.
use Rattle.std.proofs.Common.{ℕ, List, length, refl}
use Rattle.disk_model.specs.Event.{Event}
use Rattle.disk_model.specs.Crash.{crash_image, unsynced_writes, synced_bytes}
use Rattle.disk_model.specs.Lucky.{AreRefusable}
use Rattle.disk_model.specs.declared.calls.Choice.{Choice}
use Rattle.disk_model.specs.declared.names.FileName.{FileName}
use Rattle.disk_model.specs.declared.names.FileName.TheVariants.{Log, Double, Space}
use Rattle.disk_model.proofs.Lucky.{crash_is_lucky}
use Rattle.places.specs.Places.{AreWhole}
use Rattle.places.proofs.Refusable.{refusable}
use Rattle.page_places.specs.Texts.{ends_in_sum, slots, pages}
use Rattle.crash_image.specs.LogForm.{log_places}
use Rattle.crash_image.specs.Stands.{place_test, Lucky}

pub lucky_crash : (blocks : ℕ) (count : ℕ → ℕ) (choices : List Choice) (es : List Event) → AreWhole Log (log_places blocks) es → AreWhole Double slots es → ((s : ℕ) → AreWhole (Space s) (pages (count s)) es) → Lucky (crash_image choices es)
lucky_crash blocks count choices es log double spaces = crash_is_lucky place_test choices es each
  where
    each : (f : FileName) → AreRefusable f (place_test f) (length (synced_bytes f es)) (unsynced_writes es)
    each Log = refusable Log (log_places blocks) es log ends_in_sum (λ bytes. refl)
    each Double = refusable Double slots es double _ (λ bytes. refl)
    each (Space s) = refusable (Space s) (pages (count s)) es (spaces s) ends_in_sum (λ bytes. refl)
