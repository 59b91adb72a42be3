-- The log's file as a ring of numbered blocks behind a header and two checkpoints, over any form of block.
use Rattle.std.specs.Prelude.{◌≡◌, ◌⊎◌, ℕ, zero, suc, ◌+◌, ◌*◌, ◌<◌, ◌≤◌, Bool, true, false, List, [], ◌∷◌, ◌++◌, length, Option, Some, None}
use Rattle.disk_model.specs.Event.{Event}
use Rattle.disk_model.specs.Image.{Image, IsImage, IsLucky}
use Rattle.disk_model.specs.declared.names.FileName.{FileName}
use Rattle.disk_model.specs.declared.names.FileName.TheVariants.{Log}
use Rattle.places.specs.Places.{place, May, HasPlaces}
use Rattle.places.specs.Batches.{IsFileSettled}
use Rattle.store_image.specs.Checkpoint.{HeldCheckpoint, front_blocks, side_of}
use Rattle.store_image.specs.View.{block_bytes, most_mtr_blocks, Logged}
use Rattle.store_image.specs.Places.{LogView}
use Rattle.ring_log.specs.Blocks.{ring_layout, place_in_ring, block_at}

-- What is told of the blocks' form, M being what is read of a mini-transaction. The real one has the redo keys in it, and reads deciphered texts.
pub record Form (M : Type 0) : Type 1 where
  -- a valid ring block of this number, and its flags
  pub is_block : ℕ → List ℕ → Bool
  pub starts : List ℕ → Bool
  pub ends : List ℕ → Bool
  -- these blocks, the first of this number, are those of the mini-transaction
  pub IsMtr : ℕ → List (List ℕ) → M → Type 0
  -- the valid checkpoint in this file block
  pub checkpoint : ℕ → List ℕ → Option HeldCheckpoint
  -- the checksum of a file block is right
  pub passes : List ℕ → Bool

-- The laws of a form: a block has one number, a checkpoint says at which place it stands, blocks of a mini-transaction are those of one, and what is valid passes the checksum.
pub record IsForm {M : Type 0} (F : Form M) : Type 0 where
  pub block_one : (n m : ℕ) (b : List ℕ) → F.is_block n b ≡ true → F.is_block m b ≡ true → n ≡ m
  pub block_passes : (n : ℕ) (b : List ℕ) → F.is_block n b ≡ true → F.passes b ≡ true
  pub check_passes : (i : ℕ) (b : List ℕ) (c : HeldCheckpoint) → F.checkpoint i b ≡ Some c → F.passes b ≡ true
  pub check_side : (i : ℕ) (b : List ℕ) (c : HeldCheckpoint) → F.checkpoint i b ≡ Some c → i ≡ side_of c.sequence
  pub mtr_one : (n : ℕ) (bs : List (List ℕ)) (x y : M) → F.IsMtr n bs x → F.IsMtr n bs y → x ≡ y

-- What a session knows of its log. Sequence and from are those of the last synced checkpoint, newer is the `from` of the next one where that is being written.
pub record RingState : Type 0 where
  pub header : List ℕ
  pub sequence : ℕ
  pub from : ℕ
  pub newer : Option ℕ
  -- the numbers behind the last synced block, and behind the last one that was written
  pub settled : ℕ
  pub written : ℕ
  -- the bytes of each block, also of those that aren't written yet
  pub block : ℕ → List ℕ

-- the ring of a session that begins at a number, behind the checkpoint of this sequence, with nothing written
abbrev pub ring_at_start : List ℕ → ℕ → ℕ → (ℕ → List ℕ) → RingState
ring_at_start header sequence next block = record { header = header; sequence = sequence; from = next; newer = None; settled = next; written = next; block = block }

module _ {M : Type 0} (N : ℕ) (F : Form M) where
  open F use {is_block, starts, ends, IsMtr, checkpoint, passes}

  -- no valid block of this number or a later one
  abbrev pub HasNoBlockFrom : ℕ → List ℕ → Type 0
  HasNoBlockFrom n b = (m : ℕ) → n ≤ m → is_block m b ≡ true → ⊥

  -- behind the settled blocks: the block of this number, or none of it or a later one, or the place is torn
  abbrev pub IsBehind : RingState → ℕ → Option (List ℕ) → Type 0
  IsBehind r n None = Unit {0}
  IsBehind r n (Some b) = ((n < r.written) × (b ≡ r.block n)) ⊎ HasNoBlockFrom n b

  -- the last synced checkpoint
  abbrev pub IsSynced : RingState → Option (List ℕ) → Type 0
  IsSynced r None = ⊥
  IsSynced r (Some b) = checkpoint (side_of r.sequence) b ≡ Some (record { sequence = r.sequence; from = r.from })

  -- the other checkpoint: an older one or none, or the next, or torn
  abbrev pub IsOther : RingState → Option (List ℕ) → Type 0
  IsOther r None = Unit {0}
  IsOther r (Some b) = ((c : HeldCheckpoint) → checkpoint (side_of (r.sequence + 1)) b ≡ Some c → c.sequence < r.sequence)
      ⊎ ((f : ℕ) × (r.newer ≡ Some f) × (checkpoint (side_of (r.sequence + 1)) b ≡ Some (record { sequence = r.sequence + 1; from = f })))

  -- the numbers of a ring, and that its blocks are valid
  pub record IsRingState (r : RingState) : Type 0 where
    pub some : 0 < N
    pub began : r.from ≤ r.settled
    pub order : r.settled ≤ r.written
    pub room : r.written ≤ r.from + N
    pub later : (f : ℕ) → r.newer ≡ Some f → (r.from ≤ f) × (f ≤ r.settled)
    pub valid : (n : ℕ) → r.from ≤ n → n < r.written → is_block n (r.block n) ≡ true

  -- what each place may hold
  pub record RingAt (r : RingState) (may : ℕ → Option (List ℕ) → Type 0) : Type 0 where
    pub is : IsRingState r
    pub header : (x : Option (List ℕ)) → may 0 x → x ≡ Some r.header
    pub check : (x : Option (List ℕ)) → may (side_of r.sequence) x → IsSynced r x
    pub other : (x : Option (List ℕ)) → may (side_of (r.sequence + 1)) x → IsOther r x
    pub front : (n : ℕ) (x : Option (List ℕ)) → r.from ≤ n → n < r.settled → may (place_in_ring N n) x → x ≡ Some (r.block n)
    pub rest : (n : ℕ) (x : Option (List ℕ)) → r.settled ≤ n → n < r.from + N → may (place_in_ring N n) x → IsBehind r n x

  -- What holds at each moment, also after a call that failed.
  pub record Ringed (r : RingState) (es : List Event) : Type 0 where
    pub places : HasPlaces Log (ring_layout N passes) es
    pub at : RingAt r (λ i x. May Log block_bytes i es x)

  -- Between two calls that were answered Ok nothing is pending on the disk.
  pub record RingReady (r : RingState) (es : List Event) : Type 0 where
    pub ringed : Ringed r es
    pub settled : IsFileSettled Log block_bytes es
    pub all : r.written ≡ r.settled
    pub none : r.newer ≡ None

  -- ---- mini-transactions

  -- The blocks from n up to end are those of one mini-transaction: 1 to 16 of them, valid, only the first begins one, and only the last ends one.
  pub record IsWholeMtr (read : ℕ → List ℕ) (n end : ℕ) : Type 0 where
    pub some : n < end
    pub most : end ≤ n + most_mtr_blocks
    pub valid : (m : ℕ) → n ≤ m → m < end → is_block m (read m) ≡ true
    pub first : starts (read n) ≡ true
    pub others : (m : ℕ) → n < m → m < end → starts (read m) ≡ false
    pub before : (m : ℕ) → n ≤ m → m + 1 < end → ends (read m) ≡ false
    pub last : (m : ℕ) → m + 1 ≡ end → ends (read m) ≡ true

  -- k blocks from n on
  abbrev pub listed_blocks : (ℕ → List ℕ) → ℕ → ℕ → List (List ℕ)
  listed_blocks read n zero = []
  listed_blocks read n (suc k) = read n ∷ listed_blocks read (n + 1) k

  -- The blocks from n up to end are those of these mini-transactions.
  abbrev pub AreWholeEntries : (ℕ → List ℕ) → ℕ → List (Logged M) → ℕ → Type 0
  AreWholeEntries read n [] end = n ≡ end
  AreWholeEntries read n (e ∷ es) end =
      (k : ℕ) × IsWholeMtr read n (n + k) × IsMtr n (listed_blocks read n k) e.mtr × (e.first ≡ n) × (e.lsn ≡ (n + k) * block_bytes) × AreWholeEntries read (n + k) es end

  -- What a log's file says: the newest checkpoint, and from it the longest run of whole mini-transactions.
  pub record IsRingLog (file : List ℕ) (l : LogView M) : Type 0 where
    pub sequence : ℕ
    pub check : checkpoint (side_of sequence) (place block_bytes (side_of sequence) file) ≡ Some (record { sequence = sequence; from = l.from })
    pub newest : (i : ℕ) (c : HeldCheckpoint) → checkpoint i (place block_bytes i file) ≡ Some c → c.sequence ≤ sequence
    pub run : AreWholeEntries (block_at N file) l.from l.run l.end
    pub few : l.end ≤ l.from + N
    pub longest : (end : ℕ) → IsWholeMtr (block_at N file) l.end end → end ≤ l.from + N → ⊥

  -- ---- the journal

  -- a mini-transaction of the journal ends, or the first begins, at this number
  pub record IsBound (block : ℕ → List ℕ) (start : ℕ) (journal : List (Logged M)) (n : ℕ) : Type 0 where
    pub before : List (Logged M)
    pub behind : List (Logged M)
    pub parts : journal ≡ before ++ behind
    pub left : AreWholeEntries block start before n

  -- the blocks from start up to next are those of the journal, whose parts the log's numbers bound
  pub record IsRingJournal (r : RingState) (start : ℕ) (journal : List (Logged M)) (next : ℕ) : Type 0 where
    pub entries : AreWholeEntries r.block start journal next
    pub written : r.written ≤ next
    pub from : IsBound r.block start journal r.from
    pub newer : (f : ℕ) → r.newer ≡ Some f → IsBound r.block start journal f
    pub settled : IsBound r.block start journal r.settled

  -- What an image's log says: the run is a part of the journal that ends between the settled blocks and the written ones.
  pub record IsRunOf (r : RingState) (start : ℕ) (journal : List (Logged M)) (next : ℕ) (l : LogView M) : Type 0 where
    pub known : (l.from ≡ r.from) ⊎ (r.newer ≡ Some l.from)
    pub settles : r.settled ≤ l.end
    pub within : l.end ≤ r.written
    pub before : List (Logged M)
    pub behind : List (Logged M)
    pub parts : journal ≡ before ++ (l.run ++ behind)
    pub left : AreWholeEntries r.block start before l.from
    pub run : AreWholeEntries r.block l.from l.run l.end
    pub right : AreWholeEntries r.block l.end behind next

  -- no ring block has a number that the blocks behind the run could meet
  abbrev pub IsRingClear : List ℕ → ℕ → Type 0
  IsRingClear file end = (i m : ℕ) → i < N → end + N ≤ m → is_block m (place block_bytes (front_blocks + i) file) ≡ true → ⊥

  -- What an image of the log stands for.
  pub record RingStands (r : RingState) (start : ℕ) (journal : List (Logged M)) (next : ℕ) (file : List ℕ) : Type 0 where
    pub size : length file ≡ (front_blocks + N) * block_bytes
    pub header : place block_bytes 0 file ≡ r.header
    -- it says one thing, of the journal
    pub log : LogView M
    pub is : IsRingLog file log
    pub one : (l : LogView M) → IsRingLog file l → l ≡ log
    pub run : IsRunOf r start journal next log
    pub clear : IsRingClear file log.end

  -- Each image in which no torn place of the log passes a test that whole blocks pass stands for a part of the journal.
  abbrev pub AllRingStand : RingState → ℕ → List (Logged M) → ℕ → List Event → Type 0
  AllRingStand r start journal next es =
      (test : FileName → List ℕ → Bool) → ((bytes : List ℕ) → passes bytes ≡ true → test Log bytes ≡ true) → (image : Image) → IsImage es image → IsLucky test image → RingStands r start journal next (image.bytes Log)
