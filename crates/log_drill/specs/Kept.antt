-- What a session keeps of its log.
use Rattle.std.specs.Prelude.{◌≡◌, ℕ, List, length, replicate}
use Rattle.aes_core.specs.declared.algorithm.Algorithm.TheVariants.{Ctr}
use Rattle.disk_model.specs.Event.{Event}
use Rattle.disk_model.specs.Past.{Past, At}
use Rattle.redo_log.specs.State.{LogState}
use Rattle.redo_log.specs.Blocks.{Keys, redo_form}
use Rattle.redo_log.specs.Log.{IsOpen, durable, FitsRing}
use Rattle.redo_log.specs.Recorded.{BlocksOnce}
use Rattle.redo_text.specs.declared.change.Change.{Change}
use Rattle.redo_text.specs.declared.key.RedoKey.{RedoKey}
use Rattle.ring_log.specs.Ring.{RingState, RingReady, IsBound, IsRingJournal}
use Rattle.store_image.specs.View.{Logged}

-- The log fits a ring of the disk that is ready, and these are the mini-transactions of its journal.
pub record HasJournal (keys : Keys) (start : ℕ) (journal : List (Logged (List Change))) (log : LogState) (past : Past) : Type 0 where
  pub ring : RingState
  pub fits : FitsRing ring log
  pub ready : At (RingReady log.blocks (redo_form keys) ring) past
  pub is : IsRingJournal log.blocks (redo_form keys) ring start journal log.next

-- the key of the session
abbrev pub drill_key : RedoKey
drill_key = record { version = 3; local = replicate 16 7; algorithm = Ctr }

-- What the session keeps over its calls: the log fits a ring of the disk that is ready, whose journal begins with block 2 and has so many mini-transactions, and agrees with the record of writes.
pub record KeepsJournal (keys : Keys) (count : ℕ) (log : LogState) (es : List Event) : Type 0 where
  pub is_open : IsOpen log
  pub ring : RingState
  pub fits : FitsRing ring log
  pub ready : RingReady log.blocks (redo_form keys) ring es
  pub journal : List (Logged (List Change))
  pub is : IsRingJournal log.blocks (redo_form keys) ring 2 journal log.next
  pub long : length journal ≡ count
  pub once : BlocksOnce log es

-- The run may begin at this block, where a mini-transaction of the journal ends or the first begins.
pub record MayBegin (keys : Keys) (count from : ℕ) (log : LogState) (es : List Event) : Type 0 where
  pub keeps : KeepsJournal keys count log es
  pub bound : IsBound log.blocks (redo_form keys) keeps.ring.block 2 keeps.journal from

-- Between two rounds nothing is pending.
pub record IsBetween (keys : Keys) (count : ℕ) (log : LogState) (es : List Event) : Type 0 where
  pub keeps : KeepsJournal keys count log es
  pub none : durable log ≡ log.next
