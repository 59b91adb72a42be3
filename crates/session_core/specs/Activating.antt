-- Why a version doesn't become the active one.
use Rattle.std.specs.Prelude.{◌≡◌, ℕ, ◌<◌, ◌≤◌, None, Err}
use Rattle.session_core.specs.Keys.{IsLeastIdLacking}
use Rattle.session_core.specs.Session.{Running}
use Rattle.session_core.specs.Stops.{up_or_refused}
use Rattle.session_core.specs.declared.fault.EngineFault.{EngineFault}
use Rattle.session_core.specs.declared.fault.EngineFault.TheVariants.{NoVersion, NotNewer}

-- In this order: the session was stopped; the version isn't above the active one; or the ring lacks it under an id, the least of which is told.
pub data IsVersionRefusal {D : Type 0} (r : Running D) (version : ℕ) : EngineFault → Type 0 where
  Stopped : (e : EngineFault) → up_or_refused r.disk.stop r.disk.turns ≡ Err e → IsVersionRefusal r version e
  Older : r.disk.stop ≡ None → version ≤ r.active → IsVersionRefusal r version (NotNewer r.active version)
  Lacking : (id : ℕ) → r.disk.stop ≡ None → r.active < version → IsLeastIdLacking r.ring version r.store.spaces id → IsVersionRefusal r version (NoVersion id version)
