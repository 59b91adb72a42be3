-- What creating a store answers.
use Rattle.std.specs.Prelude.{◌≡◌, ◌⊎◌, ℕ, List, Option, Some, None, Result, Ok, Err}
use Rattle.disk_model.specs.Past.{Past, At}
use Rattle.disk_model.specs.declared.names.DiskError.{DiskError}
use Rattle.disk_model.specs.declared.names.DiskError.TheVariants as error
use Rattle.key_ring.specs.Ring.{RingEntry}
use Rattle.rand_core.specs.Stream.{Stream}
use Rattle.space_head.specs.declared.space.SpaceInfo.{SpaceInfo}
use Rattle.store_files.specs.Header.{HeldHeader}
use Rattle.store_form.specs.Creation.{IsStopped, creation}
use Rattle.store_form.specs.Made.{CanBeMade}
use Rattle.store_form.specs.declared.creation.CreateRefusal.{CreateRefusal}
use Rattle.store_form.specs.Plan.{HasNeededKeys, IsLeastMissing, first_file_there, header_made, homes_made, in_id_order, spaces_made}
use Rattle.store_form.specs.Rest.{StoreAtRest}
use Rattle.store_form.specs.declared.create_fault.CreateFault.{CreateFault}
use Rattle.store_form.specs.declared.create_fault.CreateFault.TheVariants.{Exists, MissingKey, DiskFault, OutOfMemory}
use Rattle.store_form.specs.declared.plan.SpacePlan.{SpacePlan}
use Rattle.store_form.specs.declared.plan.StorePlan.{StorePlan}

-- what a disk's error is to a creation
abbrev pub fault_of_disk : DiskError → CreateFault
fault_of_disk error.Failed = DiskFault
fault_of_disk error.NoMemory = OutOfMemory

-- When each refusal comes, and that the first two leave the disk as it was: the first file that is there, and, where none is, the least id whose key is missing.
abbrev pub IsCreateRefusal : List RingEntry → StorePlan → Past → Past → CreateFault → Type 0
IsCreateRefusal keys plan old new (Exists file) = (new ≡ old) × At (λ es. first_file_there (in_id_order plan.spaces) es ≡ Some file) old
IsCreateRefusal keys plan old new (MissingKey id version) =
    (new ≡ old) × At (λ es. first_file_there (in_id_order plan.spaces) es ≡ None) old × (version ≡ plan.active) × IsLeastMissing keys plan.active plan.spaces id
IsCreateRefusal keys plan old new DiskFault = Unit {0}
IsCreateRefusal keys plan old new OutOfMemory = Unit {0}

-- the store that was made of a plan, with the salts that were drawn
pub record IsStoreMade {D : Type 0} (plan : StorePlan) (stream : Stream) (rest : StoreAtRest D) : Type 0 where
  pub header : rest.header ≡ header_made plan stream
  pub spaces : rest.spaces ≡ spaces_made plan stream
  pub homes : rest.homes ≡ homes_made (spaces_made plan stream)
  pub next : rest.next ≡ 2
  pub sequence : rest.sequence ≡ 1

-- a file is there, or the disk refused
abbrev pub IsFileRefusal : List SpacePlan → Past → CreateFault → Type 0
IsFileRefusal plans past (Exists file) = At (λ es. first_file_there plans es ≡ Some file) past
IsFileRefusal plans past (MissingKey id version) = ⊥
IsFileRefusal plans past DiskFault = Unit {0}
IsFileRefusal plans past OutOfMemory = Unit {0}

-- a key is missing
abbrev pub IsKeyRefusal : List RingEntry → StorePlan → CreateFault → Type 0
IsKeyRefusal keys plan (Exists file) = ⊥
IsKeyRefusal keys plan (MissingKey id version) = (version ≡ plan.active) × IsLeastMissing keys plan.active plan.spaces id
IsKeyRefusal keys plan DiskFault = ⊥
IsKeyRefusal keys plan OutOfMemory = ⊥

-- a creation that didn't end: nothing was done, or the store could be made and some of the events were
abbrev pub IsBegun : HeldHeader → List SpaceInfo → Past → Past → Type 0
IsBegun header spaces old new = (new ≡ old) ⊎ (CanBeMade header spaces × IsStopped (creation header spaces) old new)

-- What a creation that didn't end left: the disk as it was; or, where no file was in its way and no key was missing, some of the events were done.
abbrev pub IsLeftBy : List RingEntry → StorePlan → Stream → Past → Past → Type 0
IsLeftBy keys plan stream old new =
    (new ≡ old)
    ⊎ (At (λ es. first_file_there (in_id_order plan.spaces) es ≡ None) old
    × HasNeededKeys keys plan.active plan.spaces
    × IsStopped (creation (header_made plan stream) (spaces_made plan stream)) old new)

-- the disk that is handed back, with or without a store
abbrev pub disk_left : {D : Type 0} → Result (StoreAtRest D) (CreateRefusal D) → D
disk_left (Ok rest) = rest.disk
disk_left (Err refusal) = refusal.disk

-- the answer without the disk
abbrev pub answer_alone : {D : Type 0} → Result (StoreAtRest D) (CreateRefusal D) → Result (Unit {0}) CreateFault
answer_alone (Ok rest) = Ok tt
answer_alone (Err refusal) = Err refusal.why
