-- The events of a batch, one after another.
use Rattle.std.proofs.Common.{◌≡◌, ℕ, suc, ◌+◌, ◌*◌, ◌<◌, inl, inr, ◌⊎◌, List, [], ◌∷◌, Some, None, refl, sym, ap, ◌∙◌, arith, Result, Ok, Err, OnErr}
use Rattle.disk_model.specs.Event.{Event, Write, Sync}
use Rattle.disk_model.specs.Past.{Past, grow, MayGrow, IsWrite}
use Rattle.disk_model.specs.declared.names.FileName.{FileName}
use Rattle.places.specs.Batches.{Batch}
use Rattle.places.specs.Writes.{writes_of, grows, IsPart, Done, Failed}

grow_grows : (e : Event) (news : List Event) (h : Past) → grow e (grows news h) ≡ grows (e ∷ news) h
grow_grows e news None = refl
grow_grows e news (Some es) = refl

pub grows_none : (h : Past) → grows [] h ≡ h
grows_none None = refl
grows_none (Some es) = refl

one_more : (f : FileName) (n : ℕ) (b : Batch) (k : ℕ) → writes_of f n b (k + 1) ≡ Write f (b.place k * n) (b.bytes k) (b.bytes k) ∷ writes_of f n b k
one_more f n b k = let e : k + 1 ≡ suc k = omega arith in ap (writes_of f n b) e

-- one write more
pub write_more : (f : FileName) (n : ℕ) (b : Batch) (k : ℕ) (old mid new : Past) → mid ≡ grows (writes_of f n b k) old → new ≡ grow (Write f (b.place k * n) (b.bytes k) (b.bytes k)) mid → new ≡ grows (writes_of f n b (k + 1)) old
write_more f n b k old mid new is more =
    more ∙ ap (grow (Write f (b.place k * n) (b.bytes k) (b.bytes k))) is ∙ grow_grows _ (writes_of f n b k) old ∙ ap (λ (l : List Event). grows l old) (sym (one_more f n b k))

-- and one that failed
pub write_failed : {T X : Type 0} (f : FileName) (n : ℕ) (b : Batch) (k total : ℕ) (old mid new : Past) (result : Result T X) → k < total → mid ≡ grows (writes_of f n b k) old
    → MayGrow (IsWrite f (b.place k * n) (b.bytes k)) mid new → OnErr result (IsPart f n b total old new)
write_failed {T} {X} f n b k total old mid new result lt is may = by result (part may)
  where
    part : (new ≡ mid) ⊎ ((e : Event) × IsWrite f (b.place k * n) (b.bytes k) e × (new ≡ grow e mid)) → IsPart f n b total old new
    part (inl same) = Done k (omega (arith, lt)) (same ∙ is)
    part (inr (e, kind, more)) = Failed k e lt kind (more ∙ ap (grow e) is ∙ grow_grows e (writes_of f n b k) old)

    by : (result : Result T X) → IsPart f n b total old new → OnErr result (IsPart f n b total old new)
    by (Ok v) p = tt
    by (Err y) p = p

-- all were done
pub part_all : {T X : Type 0} (f : FileName) (n : ℕ) (b : Batch) (total : ℕ) (old new : Past) (result : Result T X) → new ≡ grows (writes_of f n b total) old → OnErr result (IsPart f n b total old new)
part_all f n b total old new (Ok v) is = tt
part_all f n b total old new (Err x) is = Done total (omega arith) is

-- the part of one call is that of the call around it
pub part_same : {T X : Type 0} (f : FileName) (n : ℕ) (b : Batch) (total : ℕ) (old new : Past) (result : Result T X) → IsPart f n b total old new → OnErr result (IsPart f n b total old new)
part_same f n b total old new (Ok v) is = tt
part_same f n b total old new (Err x) is = is

-- and the sync behind them
pub sync_more : (f : FileName) (n : ℕ) (b : Batch) (k : ℕ) (old mid new : Past) → mid ≡ grows (writes_of f n b k) old → new ≡ grow (Sync f) mid → new ≡ grows (Sync f ∷ writes_of f n b k) old
sync_more f n b k old mid new is more = more ∙ ap (grow (Sync f)) is ∙ grow_grows (Sync f) (writes_of f n b k) old
