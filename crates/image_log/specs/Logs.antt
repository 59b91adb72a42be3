-- What the steps of reading a log answer: a text or changes, or why there are none.
use Rattle.std.specs.Prelude.{◌≡◌, ◌≢◌, ℕ, ◌+◌, ◌*◌, ◌<◌, List, [], ◌++◌, length, Option, Some, None, Result, Ok, Err}
use Rattle.key_ring.specs.Ring.{RingEntry}
use Rattle.key_ring.specs.Local.{local_key}
use Rattle.store_image.specs.Checkpoint.{HeldCheckpoint}
use Rattle.store_image.specs.View.{Logged, block_bytes}
use Rattle.redo_text.specs.declared.change.Change.{Change}
use Rattle.redo_text.specs.Changes.{BeginsWithNone}
use Rattle.redo_text.specs.Reading.{block_version}
use Rattle.redo_text.specs.Text.{text_of, AreAllowed}
use Rattle.redo_text.specs.declared.fault.BadRecord.{BadRecord}
use Rattle.store_files.specs.Checkpoint.{IsNewestCheckpoint}
use Rattle.store_files.specs.Header.{HeldHeader}
use Rattle.store_files.specs.RingBlock.{block_text, IsMtrText}
use Rattle.store_files.specs.Run.{block_at, MakeWholeMtr, HasText, AreLogEntries}
use Rattle.image_log.specs.declared.checkpoint.RunStart.{RunStart}
use Rattle.image_log.specs.declared.fault.LogTextFault.{LogTextFault}
use Rattle.image_log.specs.declared.fault.LogTextFault.TheVariants.{NoCheckpoint, NoKey, NoChanges, OutOfMemory}

abbrev pub checkpoint_of : RunStart → HeldCheckpoint
checkpoint_of c = record { sequence = c.sequence; from = c.from }

-- Changes are read up to this byte, and there, before the text's end, none begins.
pub record HasNoChangeAt (text : List ℕ) (at : ℕ) : Type 0 where
  pub before : List Change
  pub rest : List ℕ
  pub is : text ≡ text_of before ++ rest
  pub allowed : AreAllowed before
  pub at_is : at ≡ length (text_of before)
  pub some : rest ≢ []
  pub none : BeginsWithNone rest

-- the changes whose text this is, or where it is that of none
abbrev pub AreChangesOf : List ℕ → Result (List Change) BadRecord → Type 0
AreChangesOf text (Ok changes) = IsMtrText text changes
AreChangesOf text (Err bad) = HasNoChangeAt text bad.at

module _ (header : HeldHeader) (keys : List RingEntry) where
  -- the text in a block under the key of its version, or that this key is missing
  abbrev pub IsBlockText : List ℕ → Option (List ℕ) → Type 0
  IsBlockText block (Some text) = (local : List ℕ) × (local_key keys 1 (block_version block) header.salt ≡ Some local) × (text ≡ block_text header.algorithm local block)
  IsBlockText block None = local_key keys 1 (block_version block) header.salt ≡ None

module _ (header : HeldHeader) (keys : List RingEntry) (file : List ℕ) where
  -- the local key of the log for a block
  abbrev pub block_key : ℕ → Option (List ℕ)
  block_key number = local_key keys 1 (block_version (block_at header.blocks file number)) header.salt

  -- the blocks have the text of these changes
  pub record HasChanges (number count : ℕ) (changes : List Change) : Type 0 where
    pub text : List ℕ
    pub has : HasText header keys file number count text
    pub is : IsMtrText text changes

  -- the mini-transaction in so many blocks
  pub record IsEntryIn (number count : ℕ) (e : Logged (List Change)) : Type 0 where
    pub has : HasChanges number count e.mtr
    pub first : e.first ≡ number
    pub lsn : e.lsn ≡ (number + count) * block_bytes

  -- of so many blocks the first whose key is missing, which names this version
  pub record LacksKey (first count number version : ℕ) : Type 0 where
    pub index : ℕ
    pub within : index < count
    pub number_is : number ≡ first + index
    pub version_is : version ≡ block_version (block_at header.blocks file number)
    pub none : block_key number ≡ None
    pub before : (i : ℕ) → i < index → block_key (first + i) ≢ None

  -- the blocks have a text, and at this byte of it no change begins
  pub record LacksChanges (first count at : ℕ) : Type 0 where
    pub text : List ℕ
    pub has : HasText header keys file first count text
    pub none : HasNoChangeAt text at

  -- why so many blocks have no text
  abbrev pub IsKeyFault : ℕ → ℕ → LogTextFault → Type 0
  IsKeyFault first count NoCheckpoint = ⊥
  IsKeyFault first count (NoKey number version) = LacksKey first count number version
  IsKeyFault first count (NoChanges number at) = ⊥
  IsKeyFault first count OutOfMemory = Unit {0}

  -- why they have no changes
  abbrev pub IsMtrFault : ℕ → ℕ → LogTextFault → Type 0
  IsMtrFault first count NoCheckpoint = ⊥
  IsMtrFault first count (NoKey number version) = LacksKey first count number version
  IsMtrFault first count (NoChanges number at) = (number ≡ first) × LacksChanges first count at
  IsMtrFault first count OutOfMemory = Unit {0}

  -- Whole mini-transactions, each with its changes, lead from one block up to another, and the next one, which is whole, has this fault.
  pub record MeetsFault (from : ℕ) (fault : LogTextFault) : Type 0 where
    pub before : List (Logged (List Change))
    pub first : ℕ
    pub lead : AreLogEntries header keys file from before first
    pub count : ℕ
    pub whole : MakeWholeMtr header.blocks file first count
    pub is : IsMtrFault first count fault

  -- why a run has no list of mini-transactions
  abbrev pub IsEntryFault : ℕ → LogTextFault → Type 0
  IsEntryFault from NoCheckpoint = ⊥
  IsEntryFault from (NoKey number version) = MeetsFault from (NoKey number version)
  IsEntryFault from (NoChanges first at) = MeetsFault from (NoChanges first at)
  IsEntryFault from OutOfMemory = Unit {0}

  -- why a log says nothing: no checkpoint is valid, or a mini-transaction of the run from the newest one has no changes
  abbrev pub IsLogTextFault : LogTextFault → Type 0
  IsLogTextFault NoCheckpoint = (c : HeldCheckpoint) → IsNewestCheckpoint file c → ⊥
  IsLogTextFault (NoKey number version) = (c : HeldCheckpoint) × IsNewestCheckpoint file c × MeetsFault c.from (NoKey number version)
  IsLogTextFault (NoChanges first at) = (c : HeldCheckpoint) × IsNewestCheckpoint file c × MeetsFault c.from (NoChanges first at)
  IsLogTextFault OutOfMemory = Unit {0}
