-- What holds at each moment while a batch is written, by the very events that were added.
use Rattle.std.proofs.Common.{◌≡◌, ℕ, zero, suc, ◌+◌, ◌*◌, ◌<◌, ◌≤◌, inl, inr, List, [], ◌∷◌, ◌++◌, Some, None, refl, sym, subst, arith}
use Rattle.std.proofs.lemmas.Option.{same_Some}
use Rattle.disk_model.specs.Event.{Event, Write, Sync}
use Rattle.disk_model.specs.Past.{Past, At, IsWrite, Throughout, grow}
use Rattle.disk_model.specs.Does.{AllAre, Since}
use Rattle.disk_model.specs.declared.names.FileName.{FileName}
use Rattle.disk_model.proofs.Moments.{begins, throughout_grows}
use Rattle.places.specs.Batches.{Batch, BatchSettled, IsNext, IsOf, Syncs, Writes, Writing, Wrote}
use Rattle.places.specs.Places.{HasPlaces, Layout}
use Rattle.places.specs.Writes.{Done, Failed, IsPart, grows, writes_of}
use Rattle.places.proofs.Batches.{fact_of_settled, last_sync, next_each, next_wrote, write_is_of, writing_more, wrote_none}

-- what holds of a moment, of a past that tells it
pub at_told : {P : List Event → Type 0} (es : List Event) → P es → At P (Some es)
at_told {P} es p = record { here = λ x is. subst P (same_Some es x is) p }

-- no moment of a past that tells nothing
pub none_told : {P : List Event → Type 0} → Throughout P None None
none_told = record { later = tt; each = λ m from to. absurd from }

module _ (f : FileName) (layout : Layout) (b : Batch) (total : ℕ) (fits : (j : ℕ) → j < total → IsNext layout b j) (s : List Event) (has : HasPlaces f layout s) where
  abbrev n : ℕ
  n = layout.size

  abbrev done : ℕ → List Event
  done j = writes_of f n b j ++ s

  wrote_at : (j : ℕ) → j ≤ total → Wrote f layout b j s (done j)
  wrote_at zero le = wrote_none f layout b s has
  wrote_at (suc j) le =
      let one : j + 1 ≡ suc j = omega arith in
      subst (λ (k : ℕ). Wrote f layout b k s (done (suc j))) one (next_wrote f layout b s j (fits j (omega (arith, le))) (done j) (wrote_at j (omega (arith, le))))

  kinds : (j : ℕ) → j ≤ total → AllAre (IsOf f n b total) (writes_of f n b j)
  kinds zero le = tt
  kinds (suc j) le = (Writes j (b.bytes j) (omega (arith, le)) refl, kinds j (omega (arith, le)))

  since_at : (j : ℕ) → j ≤ total → Since (IsOf f n b total) s (done j)
  since_at j le = record { news = writes_of f n b j; is = refl; all = kinds j le }

  writing_at : (j : ℕ) (le : j ≤ total) → Writing f layout b total s (done j)
  writing_at j le = writing_more f layout b s j total le (done j) (wrote_at j le).writing

  pub settled_at : BatchSettled f layout b total s (Sync f ∷ done total)
  settled_at = last_sync f layout b s total (done total) (wrote_at total (omega arith))

  pub since_settled : Since (IsOf f n b total) s (Sync f ∷ done total)
  since_settled = record { news = Sync f ∷ writes_of f n b total; is = refl; all = (Syncs refl, kinds total (omega arith)) }

  -- P holds while no more than the writes of the batch, and their sync, came
  module _ (P : List Event → Type 0) (each : (m : List Event) → Since (IsOf f n b total) s m → Writing f layout b total s m → P m) where
    writes_each : (j : ℕ) → j ≤ total → Throughout P (Some s) (Some (done j))
    writes_each zero le = begins P (Some s) (at_told s (each s (since_at zero le) (writing_at zero le)))
    writes_each (suc j) le =
        throughout_grows P (Some s) (Some (done j)) (Write f (b.place j * n) (b.bytes j) (b.bytes j)) (writes_each j (omega (arith, le))) (at_told (done (suc j)) (each (done (suc j)) (since_at (suc j) le) (writing_at (suc j) le)))

    -- also where the next of them failed
    pub part_each : (new : Past) → IsPart f n b total (Some s) new → Throughout P (Some s) new
    part_each new (Done j le is) = subst (Throughout P (Some s)) (sym is) (writes_each j le)
    part_each new (Failed j e lt write is) =
        subst (Throughout P (Some s)) (sym is) (throughout_grows P (Some s) (Some (done j)) e (writes_each j (omega (arith, lt))) (at_told (e ∷ done j)
        (each (e ∷ done j) (record { news = e ∷ writes_of f n b j; is = refl; all = (write_is_of f n b j total lt e write, kinds j (omega (arith, lt))) })
        (next_each f layout b s j (fits j lt) (done j) total lt e write (wrote_at j (omega (arith, lt)))))))

    pub whole_each : Throughout P (Some s) (Some (Sync f ∷ done total))
    whole_each =
        throughout_grows P (Some s) (Some (done total)) (Sync f) (writes_each total (omega arith)) (at_told (Sync f ∷ done total) (each (Sync f ∷ done total) since_settled (fact_of_settled f layout b s total (Sync f ∷ done total) settled_at)))
