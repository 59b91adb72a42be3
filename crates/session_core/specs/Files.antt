-- The files of a session's store, and what a call that its disk refuses leaves.
use Rattle.std.specs.Prelude.{◌≡◌, ◌⊎◌, ℕ, ◌+◌, List, Some, None, Err}
use Rattle.std.specs.List.{All}
use Rattle.counted_disk.specs.declared.counted.Counted.{Counted}
use Rattle.counted_disk.specs.declared.counted.Stop.{Stop}
use Rattle.crash_image.specs.LogForm.{log_places}
use Rattle.disk_model.specs.Event.{Event}
use Rattle.disk_model.specs.declared.names.FileName.TheVariants.{Log, Double, Space}
use Rattle.page_places.specs.Texts.{pages, slots}
use Rattle.places.specs.Places.{HasFile}
use Rattle.space_head.specs.declared.space.SpaceInfo.{SpaceInfo}
use Rattle.session_core.specs.Stops.{device_fault, up_or_refused}
use Rattle.session_core.specs.declared.fault.EngineFault.{EngineFault}

-- each file is there and is as long as its places, whatever is pending
pub record HasStoreFiles (blocks : ℕ) (spaces : List SpaceInfo) (es : List Event) : Type 0 where
  pub log : HasFile Log (log_places blocks) es
  pub double : HasFile Double slots es
  pub spaces_there : All (λ info. HasFile (Space info.space) (pages info.pages) es) spaces

-- the calls of a disk that counts: those of the disk inside, and those that it answered itself since it was stopped
abbrev pub calls_of : {D : Type 0} → (D → ℕ) → Counted D → ℕ
calls_of clock disk = clock disk.disk + (disk.faults_since + disk.refusals_since)

-- this error has stopped the disk in the call
abbrev pub IsStopOf : {D : Type 0} → Counted D → EngineFault → Type 0
IsStopOf disk e = (s : Stop) × (disk.stop ≡ Some s) × (e ≡ device_fault s.error disk.turns)

-- a session that was stopped refuses the call before all else, and its disk is as it was; or its disk was stopped in the call
abbrev pub IsDiskRefusal : {D : Type 0} → Counted D → Counted D → EngineFault → Type 0
IsDiskRefusal old new e = ((up_or_refused old.stop old.turns ≡ Err e) × (new ≡ old)) ⊎ ((old.stop ≡ None) × IsStopOf new e)
