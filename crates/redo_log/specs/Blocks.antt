-- The store's ring blocks and checkpoints as the form of a ring, its file, and the keys.
use Rattle.std.specs.Prelude.{◌≡◌, List, Some}
use Rattle.crash_image.specs.LogForm.{log_form}
use Rattle.key_ring.specs.Local.{local_key}
use Rattle.key_ring.specs.Ring.{RingEntry}
use Rattle.ring_log.specs.Ring.{Form}
use Rattle.redo_text.specs.declared.change.Change.{Change}
use Rattle.redo_text.specs.declared.key.RedoKey.{RedoKey}
use Rattle.store_files.specs.Header.{HeldHeader}

-- what tells the log's key of each version: the store's header, which has the salt and the algorithm, and the keys of its ring
pub record Keys : Type 0 where
  pub header : HeldHeader
  pub ring : List RingEntry

-- the form of the store's log under these keys
abbrev pub redo_form : Keys → Form (List Change)
redo_form keys = log_form keys.header keys.ring

-- a key of the store: of its algorithm, and the local key of id 1 at its version
pub record IsStoreKey (keys : Keys) (key : RedoKey) : Type 0 where
  pub algorithm : key.algorithm ≡ keys.header.algorithm
  pub local : local_key keys.ring 1 key.version keys.header.salt ≡ Some key.local
