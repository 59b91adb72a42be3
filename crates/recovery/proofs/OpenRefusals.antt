-- What a step refuses is what an opening is refused for, where the steps before it have found theirs.
use Rattle.std.proofs.Common.{◌≡◌, ℕ, ◌+◌, ◌*◌, ◌≤◌, List, [], ◌∷◌, map, refl, sym, subst, arith}
use Rattle.disk_model.specs.Event.{Event, reads}
use Rattle.disk_model.specs.Past.{Past, At}
use Rattle.disk_model.specs.declared.names.FileName.TheVariants.{Log, Double}
use Rattle.disk_model.proofs.Moments.{at_both, at_each}
use Rattle.crash_image.specs.LogForm.{log_places}
use Rattle.doublewrite.specs.Copies.{copies_to}
use Rattle.doublewrite.specs.Refuse.{IsDiskRefuse}
use Rattle.doublewrite.specs.declared.listing.Copied.{Copied}
use Rattle.doublewrite.specs.declared.refuse.OpenRefuse.{OpenRefuse}
use Rattle.doublewrite.specs.declared.refuse.OpenRefuse.TheVariants.{NotFormatted, Mixed, Damaged, MissingKey, BadRecord, VersionBelowFloor, Spent, DiskFault, OutOfMemory}
use Rattle.key_ring.specs.Ring.{RingEntry, ring_key}
use Rattle.page_places.specs.Texts.{slots}
use Rattle.places.specs.Places.{HasFile}
use Rattle.redo_log.specs.Runs.{AreVersions}
use Rattle.redo_text.specs.Reading.{block_version}
use Rattle.redo_text.specs.declared.change.Change.{Change}
use Rattle.space_head.specs.declared.space.SpaceInfo.{SpaceInfo}
use Rattle.store_files.specs.Header.{HeldHeader}
use Rattle.store_files.specs.Run.{block_at}
use Rattle.store_image.specs.Checkpoint.{HeldCheckpoint}
use Rattle.store_image.specs.Places.{LogView}
use Rattle.crash_image.specs.Stands.{OfBlock}
use Rattle.recovery.specs.Changes.{AreBlocksKeyed, IsByRecord}
use Rattle.recovery.specs.Files.{HaveStoreFiles, IsFormatted, space_file, store_files_of}
use Rattle.recovery.specs.Heads.{HaveWrongHead, IsByHead}
use Rattle.recovery.specs.Keys.{AreFound, AreThere, IsKeyKind, IsMissingKey, NamedAt, key_named}
use Rattle.recovery.specs.Looking.{FoundChanges, FoundFiles, FoundHeads, FoundKeys, FoundPages, FoundRun, IsLogFrom, IsOpenRefusal, IsRefusedFor, ByHeader, ByLength, ByCheckpoint, ByHome, ByHead, ByKey, ByRecord, ByFloor, ByNumber}
use Rattle.recovery.specs.Notes.{HaveRefusedHome, IsByHome}
use Rattle.recovery.specs.Stages.{AreFloorsBelow, HasCheckpoints, IsCheckpointRefusal, IsFloorRefusal, IsHeaderRefusal, IsLengthRefusal, IsNumberRefusal}
use Rattle.recovery.specs.declared.changes.RunChanges.{RunChanges}
use Rattle.recovery.specs.declared.notes.PageNote.{PageNote}

-- ---- what the steps ask for

-- the log has its checkpoints
pub has_checkpoints : (h : HeldHeader) (es : List Event) → HaveStoreFiles (store_files_of h) es → HasCheckpoints es
has_checkpoints h es have = let size = (have.0).size in record { there = (have.0).there; long = omega (arith, size) }

-- a log whose blocks are those of a run has the versions that were found
pub found_parts : (h : HeldHeader) (c : HeldCheckpoint) (last : ℕ) (versions : List ℕ) (notes : List (List PageNote)) (copies : List Copied) (es : List Event) → FoundPages h c last notes es → copies ≡ copies_to 64 es
    → AreVersions (block_at h.blocks (reads Log es)) c.from (last + 1) versions → (log : LogView (List Change)) → IsLogFrom c last log → AreFound h versions notes copies log es
found_parts h c last versions notes copies es pages listed versions_of log (from, end) = record {
  notes_of = pages.notes_of;
  copies_of = listed;
  versions_of = subst (λ (n : ℕ). AreVersions (block_at h.blocks (reads Log es)) n log.end versions) (sym from) (subst (λ (n : ℕ). AreVersions (block_at h.blocks (reads Log es)) c.from n versions) (sym end) versions_of);
}

-- the key of each block of the run is there
pub blocks_keyed : (keys : List RingEntry) (active : ℕ) (h : HeldHeader) (c : HeldCheckpoint) (last : ℕ) (notes : List (List PageNote)) (heads : List SpaceInfo) (es : List Event) → FoundKeys keys active h c last notes heads es → AreBlocksKeyed h keys c.from (last + 1) es
blocks_keyed keys active h c last notes heads es found n low high lacks =
    let log : LogView (List Change) = record { from = c.from; end = last + 1; run = [] } in
    found.there log (refl, refl) (key_named 1 (block_version (block_at h.blocks (reads Log es) n))) (OfBlock n low high refl refl) lacks

-- ---- what they refuse

module _ (keys : List RingEntry) (active : ℕ) (past : Past) where
  pub disk_refused : (why : OpenRefuse) → IsDiskRefuse why → IsOpenRefusal keys active past why
  disk_refused DiskFault is = tt
  disk_refused OutOfMemory is = tt
  disk_refused why is = absurd is

  -- what is refused for a step
  step_refused : (why : OpenRefuse) → At (IsRefusedFor keys active why) past → IsOpenRefusal keys active past why
  step_refused DiskFault at = tt
  step_refused OutOfMemory at = tt
  step_refused why at = at

  pub header_refused : (why : OpenRefuse) → IsHeaderRefusal past why → IsOpenRefusal keys active past why
  header_refused NotFormatted at = at_each (λ es none. ByHeader refl none) at
  header_refused DiskFault is = tt
  header_refused OutOfMemory is = tt
  header_refused why is = absurd is

  module _ (h : HeldHeader) where
    pub lengths_refused : At (IsFormatted h) past → (why : OpenRefuse) → IsLengthRefusal (store_files_of h) past why → IsOpenRefusal keys active past why
    lengths_refused formatted (Mixed file at wanted found) (zero_at, f, name, size, first) =
        at_both (λ es form misfit. ByLength h f found form (λ i. Mixed (name i) (zero_at i) (size i) found) misfit) formatted first
    lengths_refused formatted DiskFault is = tt
    lengths_refused formatted OutOfMemory is = tt
    lengths_refused formatted why is = absurd is

    pub checkpoint_refused : At (FoundFiles h) past → (why : OpenRefuse) → IsCheckpointRefusal past why → IsOpenRefusal keys active past why
    checkpoint_refused files (Damaged file at stored computed) (name, at_is, none) =
        at_both (λ es has without. ByCheckpoint h stored computed has (λ i. Damaged (name i) (at_is i) stored computed) without) files none
    checkpoint_refused files DiskFault is = tt
    checkpoint_refused files OutOfMemory is = tt
    checkpoint_refused files why is = absurd is

    module _ (c : HeldCheckpoint) (last : ℕ) where
      pub home_refused : At (FoundRun h c last) past → (why : OpenRefuse) → IsByHome (HaveRefusedHome h.spaces) past why → IsOpenRefusal keys active past why
      home_refused run (Mixed file at wanted found) is = at_both (λ es has refused. ByHome h c last has refused) run is
      home_refused run (Damaged file at stored computed) is = at_both (λ es has refused. ByHome h c last has refused) run is
      home_refused run DiskFault is = tt
      home_refused run OutOfMemory is = tt
      home_refused run why is = absurd is

      module _ (notes : List (List PageNote)) where
        pub wrong_refused : At (FoundPages h c last notes) past → (why : OpenRefuse) → IsByHead (HaveWrongHead h.spaces) past why → IsOpenRefusal keys active past why
        wrong_refused pages (Mixed file at wanted found) is = at_both (λ es has wrong. ByHead h c last notes has wrong) pages is
        wrong_refused pages DiskFault is = tt
        wrong_refused pages OutOfMemory is = tt
        wrong_refused pages why is = absurd is

        module _ (heads : List SpaceInfo) where
          pub key_refused : (versions : List ℕ) (copies : List Copied) → At (FoundHeads h c last notes heads) past → At (λ es. copies ≡ copies_to 64 es) past → At (λ es. AreVersions (block_at h.blocks (reads Log es)) c.from (last + 1) versions) past
              → (why : OpenRefuse) → IsKeyKind why → ((log : LogView (List Change)) (es : List Event) → AreFound h versions notes copies log es → IsMissingKey keys (NamedAt h log active es) why) → IsOpenRefusal keys active past why
          key_refused versions copies found listed versions_of (MissingKey id version) kind is = record {
            here = λ es now.
                let has = found.here es now in
                ByKey h c last notes heads has (λ log bounds. is log es (found_parts h c last versions notes copies es has.pages (listed.here es now) (versions_of.here es now) log bounds));
          }
          key_refused versions copies found listed versions_of why kind is = absurd kind

          pub record_refused : At (FoundKeys keys active h c last notes heads) past → (why : OpenRefuse) → IsByRecord h keys c.from (last + 1) past why → IsOpenRefusal keys active past why
          record_refused found (BadRecord number at) is = at_both (λ es has bad. ByRecord h c last notes heads number at has refl bad) found is
          record_refused found (Damaged file at stored computed) is = at_each (λ es none. absurd none) is
          record_refused found (MissingKey id version) is = at_each (λ es none. absurd none) is
          record_refused found DiskFault is = tt
          record_refused found OutOfMemory is = tt
          record_refused found why is = absurd is

          module _ (changes : RunChanges) (found : At (FoundChanges keys active h c last notes heads changes) past) where
            pub floor_refused : (why : OpenRefuse) → IsFloorRefusal active changes.spaces why → IsOpenRefusal keys active past why
            floor_refused (VersionBelowFloor space floor version) is = at_each (λ es has. ByFloor h c last notes heads changes has is) found
            floor_refused why is = absurd is

            pub number_refused : AreFloorsBelow active changes.spaces → (why : OpenRefuse) → IsNumberRefusal h.blocks last why → IsOpenRefusal keys active past why
            number_refused below (Spent n) is = at_each (λ es has. ByNumber h c last notes heads changes has below is) found
            number_refused below why is = absurd is
