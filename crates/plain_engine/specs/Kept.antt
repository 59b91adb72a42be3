-- What contracts see of an engine, and what its type keeps.
use Rattle.std.specs.Prelude.{◌≡◌, ◌≢◌, ◌⊎◌, ℕ, ◌+◌, ◌*◌, ◌≤◌, List, [], ◌∷◌, length, take, refl, Result, Ok, Err}
use Rattle.std.specs.Coded.{Coded, code_by, coded×, coded_ℕ, coded_list}
use Rattle.disk_model.specs.Event.{Event, marks}
use Rattle.disk_model.specs.declared.names.FileName.TheVariants.{Log}
use Rattle.disk_model.specs.Past.{Past, At, Throughout}
use Rattle.disk_model.specs.Crash.{synced_bytes}
use Rattle.disk_model.specs.Marks.{acked as acked_of}
use Rattle.plain_engine.specs.declared.journal.Entry.{Entry}
use Rattle.plain_engine.specs.declared.fault.State.{State}
use Rattle.plain_engine.specs.declared.fault.State.TheVariants.{Up, Down, OutOfMemory}
use Rattle.plain_engine.specs.declared.fault.EngineFault.{EngineFault}
use Rattle.plain_engine.specs.declared.fault.EngineFault.TheVariants as fault
use Rattle.plain_engine.specs.Text.{mtr_text, IsSmall}
use Rattle.plain_engine.specs.Block.{IsLogBlock}
use Rattle.plain_engine.specs.Log.{LogRecovers}
use Rattle.plain_engine.specs.Layer.{LogReady}
use Rattle.plain_engine.specs.Stands.{AllStand, AllRefusable, mtrs}

-- The disk, the disk as `start` left it, the journal, how many of its entries the disk holds for sure, how many were acknowledged, how many turns were made, and whether the engine takes calls.
pub record Running (D : Type 0) : Type 0 where
  pub disk : D
  pub first : D
  pub journal : List Entry
  pub settled : ℕ
  pub acked : ℕ
  pub turns : ℕ
  pub state : State

abbrev pub running_code : {D : Type 0} → Coded D → Coded Entry → Coded State → Coded (Running D)
running_code {D} code entry state =
    code_by (D × (D × (List Entry × (ℕ × (ℕ × (ℕ × State)))))) (coded× code (coded× code (coded× (coded_list entry) (coded× coded_ℕ (coded× coded_ℕ (coded× coded_ℕ state))))))
    (λ r. (r.disk, (r.first, (r.journal, (r.settled, (r.acked, (r.turns, r.state)))))))
    (λ p. record { disk = p.0; first = p.1.0; journal = p.1.1.0; settled = p.1.1.1.0; acked = p.1.1.1.1.0; turns = p.1.1.1.1.1.0; state = p.1.1.1.1.1.1 }) (λ _. refl)

-- the entries from this block number on: each has its LSN, and one block holds it
abbrev pub AreEntries : ℕ → List Entry → Type 0
AreEntries number [] = Unit {0}
AreEntries number (e ∷ es) = (e.lsn ≡ (number + 1) * 4096) × IsSmall e.mtr × AreEntries (number + 1) es

-- the blocks from this number on are those of the entries
abbrev pub AreBlocks : ℕ → List Entry → List (List ℕ) → Type 0
AreBlocks number [] [] = Unit {0}
AreBlocks number (e ∷ es) (b ∷ bs) = IsLogBlock number (mtr_text e.mtr) b × AreBlocks (number + 1) es bs
AreBlocks number _ _ = ⊥

-- Each image since the start stands for a beginning of the journal.
abbrev pub StandsSince : {D : Type 0} → (D → Past) → Running D → Type 0
StandsSince past r = Throughout (AllStand r.journal) (past r.first) (past r.disk)

-- The log's file at its last sync recovers to the settled entries, and between acked and settled many were acknowledged.
pub record IsExact (journal : List Entry) (settled acked : ℕ) (es : List Event) : Type 0 where
  pub recovers : LogRecovers (synced_bytes Log es) (take settled (mtrs journal))
  pub least : acked ≤ acked_of (marks es)
  pub most : acked_of (marks es) ≤ settled

-- some disk of this type has the property
abbrev pub Somewhere : {D : Type 0} → (D → Type 0) → Type 0
Somewhere {D} P = (d : D) × P d

-- Where no memory was refused, as many were acknowledged as are settled, or the `tell` of a disk may fail.
abbrev pub IsAckedOrUntold : {D : Type 0} → (D → Type 0) → State → ℕ → ℕ → Type 0
IsAckedOrUntold may_fail_to_tell state acked settled = state ≢ OutOfMemory → (acked ≡ settled) ⊎ Somewhere may_fail_to_tell

-- The type of an engine keeps this, by what is known of its disk: the past, and that a `tell` may fail.
pub record IsSound {D : Type 0} (past : D → Past) (may_fail_to_tell : D → Type 0) (blocks : List (List ℕ)) (r : Running D) : Type 0 where
  pub since : StandsSince past r
  pub exact : At (IsExact r.journal r.settled r.acked) (past r.disk)
  pub ready : r.state ≡ Up → At (LogReady blocks r.settled r.settled r.acked) (past r.disk)
  pub refusable : Throughout AllRefusable (past r.first) (past r.disk)
  pub all_acked : r.state ≡ Up → r.acked ≡ r.settled
  pub tells : IsAckedOrUntold may_fail_to_tell r.state r.acked r.settled
  pub entries : AreEntries 2 r.journal
  pub blocks_are : AreBlocks 2 r.journal blocks
  pub count : length blocks ≡ length r.journal
  pub told : r.acked ≤ r.settled
  pub room : length r.journal ≤ 256
  pub order : r.settled ≤ length r.journal

-- the journal is this one, and all else as it was
abbrev pub with_journal : {D : Type 0} → Running D → List Entry → Running D
with_journal r journal = record { disk = r.disk; first = r.first; journal = journal; settled = r.settled; acked = r.acked; turns = r.turns; state = r.state }

-- what an engine in this state answers before all else
abbrev pub up_or_refused : State → Result (Unit {0}) EngineFault
up_or_refused Up = Ok tt
up_or_refused (Down turn) = Err (fault.Down turn)
up_or_refused OutOfMemory = Err fault.OutOfMemory
