-- The start of a session, and why there is none.
use Rattle.std.specs.Prelude.{◌≡◌, ◌⊎◌, ℕ, ◌<◌, ◌≤◌, List, [], ◌∷◌, ◌++◌, None}
use Rattle.std.specs.List.{All}
use Rattle.cause_core.specs.Counts.{Rose}
use Rattle.counted_disk.specs.declared.counted.Counted.{Counted}
use Rattle.disk_model.specs.Event.{Tell}
use Rattle.disk_model.specs.Past.{Past, Is, MayGrow, grow}
use Rattle.disk_model.specs.declared.names.DiskError.{DiskError}
use Rattle.disk_model.specs.declared.names.DiskError.TheVariants.{Failed, NoMemory}
use Rattle.disk_model.specs.declared.names.Mark.TheVariants.{Started}
use Rattle.key_ring.specs.Ring.{RingEntry}
use Rattle.redo_log.specs.Log.{empty_log}
use Rattle.space_head.specs.declared.space.SpaceInfo.{SpaceInfo}
use Rattle.store_form.specs.Rest.{StoreAtRest, with_disk}
use Rattle.store_form.specs.Said.{header_said}
use Rattle.store_form.specs.declared.parts.RestParts.{RestParts}
use Rattle.session_core.specs.Keys.{HasVersion, IsLeastIdLacking}
use Rattle.session_core.specs.Session.{Running, empty_pool}
use Rattle.session_core.specs.Spaces.{NoneAbove}
use Rattle.session_core.specs.declared.fault.StartFault.{StartFault}
use Rattle.session_core.specs.declared.fault.StartFault.TheVariants.{NoVersion, VersionBelowFloor, DiskFault, OutOfMemory}
use Rattle.session_core.specs.declared.options.SessionOptions.{SessionOptions}

-- the first space that has one
pub record IsFirstFloorAbove (version : ℕ) (spaces : List SpaceInfo) (info : SpaceInfo) : Type 0 where
  pub before : List SpaceInfo
  pub behind : List SpaceInfo
  pub is : spaces ≡ before ++ (info ∷ behind)
  pub above : version < info.floor
  pub none_before : NoneAbove version before

-- a session may begin with these keys and this version
pub record MayStart (ring : List RingEntry) (version : ℕ) (spaces : List SpaceInfo) : Type 0 where
  pub keyed : HasVersion ring version spaces
  pub floors : NoneAbove version spaces

-- Why none may begin: the first reason.
abbrev pub IsNoBeginning : List RingEntry → ℕ → List SpaceInfo → StartFault → Type 0
IsNoBeginning ring active spaces (NoVersion id version) = (version ≡ active) × IsLeastIdLacking ring active spaces id
IsNoBeginning ring active spaces (VersionBelowFloor space floor version) =
    (version ≡ active) × HasVersion ring active spaces × ((info : SpaceInfo) × IsFirstFloorAbove active spaces info × (space ≡ info.space) × (floor ≡ info.floor))
IsNoBeginning ring active spaces DiskFault = ⊥
IsNoBeginning ring active spaces OutOfMemory = ⊥

-- the store at rest in these parts
abbrev pub rest_of : {D : Type 0} → RestParts D → StoreAtRest D
rest_of parts = record { disk = parts.disk; header = header_said parts.header; spaces = parts.spaces; homes = parts.homes; next = parts.next; sequence = parts.sequence }

-- the session that a store at rest begins, with a disk that counts
abbrev pub session_begun : {D : Type 0} → StoreAtRest D → List RingEntry → SessionOptions → Counted D → Running D
session_begun rest ring options disk = record {
  disk = disk;
  ring = ring;
  store = record { header = rest.header; spaces = rest.spaces; homes = rest.homes };
  journal = [];
  log = empty_log rest.header.blocks rest.next rest.sequence;
  pool = empty_pool;
  active = options.active;
  age = options.age;
  begins = rest.next;
  acked = 0;
  batch = 1;
}

-- its disk: `Started` was told, and nothing else was done
pub record HasBegun {D : Type 0} (past : D → Past) (is_later : D → D → Type 0) (old : D) (disk : Counted D) : Type 0 where
  pub told : past disk.disk ≡ grow (Tell Started) (past old)
  pub later : is_later old disk.disk
  pub turns : disk.turns ≡ 0
  pub stop : disk.stop ≡ None

-- the store was handed back with its disk, which may have kept the mark
pub record IsHandedBack {D : Type 0} (past : D → Past) (old new : StoreAtRest D) : Type 0 where
  pub same : new ≡ with_disk old new.disk
  pub told : MayGrow (Is (Tell Started)) (past old.disk) (past new.disk)

-- the refusal of a start in which the disk answered this error
abbrev pub start_fault : DiskError → StartFault
start_fault Failed = DiskFault
start_fault NoMemory = OutOfMemory

-- Why a session isn't started on a store, and how the store is handed back.
abbrev pub IsStartRefusal : {D : Type 0} → (D → Past) → (D → ℕ) → (D → ℕ) → List RingEntry → ℕ → StoreAtRest D → StoreAtRest D → StartFault → Type 0
IsStartRefusal past faults refusals ring active old new (NoVersion id version) = IsNoBeginning ring active old.spaces (NoVersion id version) × (new ≡ old)
IsStartRefusal past faults refusals ring active old new (VersionBelowFloor space floor version) = IsNoBeginning ring active old.spaces (VersionBelowFloor space floor version) × (new ≡ old)
IsStartRefusal past faults refusals ring active old new DiskFault = MayStart ring active old.spaces × IsHandedBack past old new × Rose (faults old.disk) (faults new.disk)
IsStartRefusal past faults refusals ring active old new OutOfMemory = MayStart ring active old.spaces × ((new ≡ old) ⊎ (IsHandedBack past old new × Rose (refusals old.disk) (refusals new.disk)))
