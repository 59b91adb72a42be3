-- A run is passed block by block: what holds between two blocks.
use Rattle.std.specs.Prelude.{◌≡◌, ℕ, ◌+◌, ◌-◌, ◌*◌, ◌<◌, ◌≤◌, ◌^◌, List, [], ◌∷◌}
use Rattle.key_ring.specs.Ring.{RingEntry}
use Rattle.disk_model.specs.Event.{Event, reads}
use Rattle.disk_model.specs.declared.names.FileName.TheVariants.{Log}
use Rattle.doublewrite.specs.declared.refuse.OpenRefuse.{OpenRefuse}
use Rattle.doublewrite.specs.declared.refuse.OpenRefuse.TheVariants.{BadRecord, Damaged, MissingKey, OutOfMemory}
use Rattle.redo_text.specs.declared.change.Change.{Change}
use Rattle.space_head.specs.declared.space.SpaceInfo.{SpaceInfo}
use Rattle.store_image.specs.Recovers.{IsNamedBy}
use Rattle.store_image.specs.View.{Logged, block_bytes}
use Rattle.store_files.specs.Header.{HeldHeader}
use Rattle.store_files.specs.Pages.{mtr_names}
use Rattle.store_files.specs.Run.{AreLogEntries, MakeWholeMtrs, block_at}
use Rattle.crash_image.specs.Recovers.{RunIsOfStore}
use Rattle.image_log.proofs.MtrTexts.{Reads}
use Rattle.recovery.specs.Changes.{AreBlocksKeyed, AreLastChanges, AreLaterHeads, HasBadMtr}
use Rattle.recovery.specs.declared.changes.RunChanges.{RunChanges}
use Rattle.recovery.specs.declared.notes.PageNote.{PageNote}

module _ (header : HeldHeader) (keys : List RingEntry) (from end : ℕ) where
  -- of the next mini-transaction the blocks from first up to number are passed, and this is their text
  abbrev pub IsMtrPart : List Event → ℕ → ℕ → List ℕ → List ℕ → Type 0
  IsMtrPart es first number text [] = (number ≡ first) × (text ≡ [])
  IsMtrPart es first number text (k ∷ ks) = (first ≤ number) × (number < first + k) × Reads header keys (reads Log es) first k text (number - first)

  -- The blocks up to a number are passed: the whole mini-transactions up to first are these, and this is the text of the blocks behind them.
  pub record RunPassed (first number : ℕ) (text : List ℕ) (run : List (Logged (List Change))) (es : List Event) : Type 0 where
    pub entries : AreLogEntries header keys (reads Log es) from run first
    pub sizes : List ℕ
    pub rest : MakeWholeMtrs header.blocks (reads Log es) first sizes end
    pub part : IsMtrPart es first number text sizes

  module _ (notes : List (List PageNote)) (infos : List SpaceInfo) where
    -- And the changes of those mini-transactions are noted.
    pub record Passed (first number : ℕ) (text : List ℕ) (now : RunChanges) (es : List Event) : Type 0 where
      pub run : List (Logged (List Change))
      pub passed : RunPassed first number text run es
      pub of_store : RunIsOfStore header.spaces run
      pub most : (s p n : ℕ) → IsNamedBy mtr_names run s p n → n ≤ first * block_bytes
      pub last : AreLastChanges run header.spaces now.last
      pub heads : AreLaterHeads run header.spaces notes infos now.spaces

    -- The block of this number was read, and it is one of the run.
    pub record IsAtBlock (first number : ℕ) (block text : List ℕ) (now : RunChanges) (es : List Event) : Type 0 where
      pub here : block ≡ block_at header.blocks (reads Log es) number
      pub within : number < end
      pub most : end ≤ 2 ^ 51
      pub keyed : AreBlocksKeyed header keys from end es
      pub passed : Passed first number text now es

  -- what such a block may be refused for
  abbrev pub IsPassRefusal : OpenRefuse → List Event → Type 0
  IsPassRefusal (BadRecord number at) es = HasBadMtr header keys from end number at es
  IsPassRefusal OutOfMemory es = Unit {0}
  IsPassRefusal r es = ⊥

-- and any
abbrev pub IsRecordKind : OpenRefuse → Type 0
IsRecordKind (BadRecord number at) = Unit {0}
IsRecordKind (Damaged file at stored computed) = Unit {0}
IsRecordKind (MissingKey id version) = Unit {0}
IsRecordKind OutOfMemory = Unit {0}
IsRecordKind r = ⊥
