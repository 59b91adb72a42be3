-- What contracts see of a session, and what its type keeps.
use Rattle.std.specs.Prelude.{◌≡◌, ℕ, ◌+◌, ◌*◌, ◌<◌, ◌≤◌, List, [], ◌∷◌, length, take, Option, None, refl}
use Rattle.std.specs.List.{All}
use Rattle.std.specs.Coded.{Coded, code_by, coded×, coded_ℕ, coded_list, coded_option}
use Rattle.counted_disk.specs.declared.counted.Counted.{Counted}
use Rattle.counted_disk.specs.declared.counted.Stop.{Stop}
use Rattle.crash_image.specs.Recovers.{AreOfStore}
use Rattle.disk_model.specs.Past.{Past, At}
use Rattle.key_ring.specs.Ring.{RingEntry}
use Rattle.page_pool.specs.Pages.{PoolState}
use Rattle.redo_log.specs.Log.{IsOpen, durable}
use Rattle.redo_log.specs.State.{LogState}
use Rattle.redo_text.specs.Block.{block_count}
use Rattle.redo_text.specs.Text.{AreAllowed, text_of}
use Rattle.store_files.specs.Header.{HeldSpace}
use Rattle.store_image.specs.View.{block_bytes}
use Rattle.session_core.specs.Keys.{HasVersion}
use Rattle.session_core.specs.Spaces.{StoreSpaces, AreSpaces, NoneAbove}
use Rattle.session_core.specs.Dirty.{AreDirtyOf}
use Rattle.session_core.specs.Files.{HasStoreFiles}
use Rattle.session_core.specs.Told.{ReadsAsTold}
use Rattle.session_core.specs.declared.journal.Entry.{Entry}

-- A session: its disk, with its turns and what stopped it; the keys of its ring; the spaces of its store; the journal, the oldest entry first; the log and the pages in memory; the version that new texts are ciphered under, and the age of the age rule; the number of the first block of the journal; how many entries were told as acknowledged; and the number of the next batch of the doublewrite file.
pub record Running (D : Type 0) : Type 0 where
  pub disk : Counted D
  pub ring : List RingEntry
  pub store : StoreSpaces
  pub journal : List Entry
  pub log : LogState
  pub pool : PoolState
  pub active : ℕ
  pub age : ℕ
  pub begins : ℕ
  pub acked : ℕ
  pub batch : ℕ

-- codes of a disk that counts and of a session, which the type of a session is to have
abbrev pub counted_code : {D : Type 0} → Coded D → Coded Stop → Coded (Counted D)
counted_code {D} disk stop =
    code_by (D × (ℕ × (Option Stop × (ℕ × ℕ)))) (coded× disk (coded× coded_ℕ (coded× (coded_option stop) (coded× coded_ℕ coded_ℕ))))
    (λ c. (c.disk, (c.turns, (c.stop, (c.faults_since, c.refusals_since))))) (λ p. record { disk = p.0; turns = p.1.0; stop = p.1.1.0; faults_since = p.1.1.1.0; refusals_since = p.1.1.1.1 }) (λ _. refl)

abbrev pub running_code : {D : Type 0} → Coded (Counted D) → Coded (List RingEntry) → Coded StoreSpaces → Coded Entry → Coded LogState → Coded PoolState → Coded (Running D)
running_code {D} disk ring store entry log pool =
    code_by (Counted D × (List RingEntry × (StoreSpaces × (List Entry × (LogState × (PoolState × (ℕ × (ℕ × (ℕ × (ℕ × ℕ))))))))))
    (coded× disk (coded× ring (coded× store (coded× (coded_list entry) (coded× log (coded× pool (coded× coded_ℕ (coded× coded_ℕ (coded× coded_ℕ (coded× coded_ℕ coded_ℕ))))))))))
    (λ r. (r.disk, (r.ring, (r.store, (r.journal, (r.log, (r.pool, (r.active, (r.age, (r.begins, (r.acked, r.batch)))))))))))
    (λ p. record { disk = p.0; ring = p.1.0; store = p.1.1.0; journal = p.1.1.1.0; log = p.1.1.1.1.0; pool = p.1.1.1.1.1.0; active = p.1.1.1.1.1.1.0; age = p.1.1.1.1.1.1.1.0; begins = p.1.1.1.1.1.1.1.1.0; acked = p.1.1.1.1.1.1.1.1.1.0; batch = p.1.1.1.1.1.1.1.1.1.1 })
    (λ _. refl)

-- an entry whose first block has this number: 1 to 16 blocks, whose LSN it has, and changes of the store
pub record IsEntryAt (spaces : List HeldSpace) (number : ℕ) (e : Entry) : Type 0 where
  pub some : 0 < block_count (text_of e.mtr)
  pub few : block_count (text_of e.mtr) ≤ 16
  pub lsn : e.lsn ≡ (number + block_count (text_of e.mtr)) * block_bytes
  pub allowed : AreAllowed e.mtr
  pub of_store : AreOfStore spaces e.mtr

-- the entries stand in a row from one block number up to another
abbrev pub AreEntries : List HeldSpace → ℕ → List Entry → ℕ → Type 0
AreEntries spaces number [] next = number ≡ next
AreEntries spaces number (e ∷ es) next = IsEntryAt spaces number e × AreEntries spaces (number + block_count (text_of e.mtr)) es next

-- What the type of a session keeps.
--
-- Form: the spaces go together, the ring has the active version under id 1 and each key id, and no floor is above it.
-- Numbers: the entries' blocks stand in a row up to the log's next one, no more entries were acknowledged than there are, and none of these has a pending block.
-- Dirty pages: as `AreDirtyOf` says.
-- Files: while its disk isn't stopped, each file of the store is there with its length.
-- Reads: while its disk isn't stopped, it reads as the session tells.
pub record IsSession {D : Type 0} (past : D → Past) (r : Running D) : Type 0 where
  pub spaces : AreSpaces r.store
  pub active : 1 ≤ r.active
  pub keyed : HasVersion r.ring r.active r.store.spaces
  pub floors : NoneAbove r.active r.store.spaces
  pub ring : r.log.blocks ≡ r.store.header.blocks
  pub numbers : IsOpen r.log
  pub entries : AreEntries r.store.header.spaces r.begins r.journal r.log.next
  pub acked : r.acked ≤ length r.journal
  pub settled : All (λ e. e.lsn ≤ durable r.log * block_bytes) (take r.acked r.journal)
  pub dirty : AreDirtyOf r.store r.log r.pool
  pub files : r.disk.stop ≡ None → At (HasStoreFiles r.store.header.blocks r.store.spaces) (past r.disk.disk)
  pub reads : r.disk.stop ≡ None → At (ReadsAsTold r.store r.log r.pool) (past r.disk.disk)

-- ---- the session as it begins

abbrev pub empty_pool : PoolState
empty_pool = record { dirty = record { entries = []; pages = [] }; clean = [] }
