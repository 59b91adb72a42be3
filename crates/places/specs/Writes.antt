-- The very events of a batch of writes: which they are, in which order, and a part of them.
use Rattle.std.specs.Prelude.{◌≡◌, ℕ, zero, suc, ◌*◌, ◌<◌, ◌≤◌, List, [], ◌∷◌, ◌++◌, Some, None}
use Rattle.disk_model.specs.Event.{Event, Write}
use Rattle.disk_model.specs.Past.{Past, IsWrite}
use Rattle.disk_model.specs.declared.names.FileName.{FileName}
use Rattle.places.specs.Batches.{Batch}

-- the first k writes of a batch to a file of places of n bytes, the newest first
abbrev pub writes_of : FileName → ℕ → Batch → ℕ → List Event
writes_of f n b zero = []
writes_of f n b (suc k) = Write f (b.place k * n) (b.bytes k) (b.bytes k) ∷ writes_of f n b k

-- a past with these events more
abbrev pub grows : List Event → Past → Past
grows news None = None
grows news (Some es) = Some (news ++ es)

-- Some of the first k writes were done in order. The one behind them may have failed.
pub data IsPart (f : FileName) (n : ℕ) (b : Batch) (k : ℕ) (old new : Past) : Type 0 where
  Done : (j : ℕ) → j ≤ k → new ≡ grows (writes_of f n b j) old → IsPart f n b k old new
  Failed : (j : ℕ) (e : Event) → j < k → IsWrite f (b.place j * n) (b.bytes j) e → new ≡ grows (e ∷ writes_of f n b j) old → IsPart f n b k old new
