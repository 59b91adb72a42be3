-- A file that is there with the length of its places keeps both, whatever is written within it, synced, or done to other files.
use Rattle.std.proofs.Common.{◌≡◌, ℕ, ◌+◌, ◌*◌, ◌<◌, ◌≤◌, inl, inr, Bool, true, false, List, ◌∷◌, length, Some, refl, sym, ap, subst, ◌∙◌, arith}
use Rattle.std.specs.Prelude.{None, if◌then◌else◌}
use Rattle.std.proofs.lemmas.Option.{same_Some, none-some}
use Rattle.disk_model.specs.Event.{Event, Write, Sync, same_file, put, reads}
use Rattle.disk_model.specs.Image.{InFile}
use Rattle.disk_model.specs.Past.{Past, At, grow, MayGrow, IsWrite}
use Rattle.disk_model.specs.Does.{Since, IsOn}
use Rattle.disk_model.specs.declared.names.FileName.{FileName}
use Rattle.disk_model.proofs.Blocks.{length-put}
use Rattle.disk_model.proofs.Frame.{since_reads, since_there}
use Rattle.places.specs.Beside.{LeavesFile}
use Rattle.places.specs.Places.{Layout, HasPlaces, HasFile}
use Rattle.places.proofs.LeftAlone.{reads_left_alone, there_left_alone}
use Rattle.places.proofs.Steps.{place_ends}

pub file_of_places : (f : FileName) (layout : Layout) (es : List Event) → HasPlaces f layout es → HasFile f layout es
file_of_places f layout es h = record { there = h.there; size = h.size }

-- each place lies within it
pub file_inside : (f : FileName) (layout : Layout) (k : ℕ) → k < layout.count → (n : ℕ) → n ≡ layout.size → (es : List Event) → HasFile f layout es → InFile f (k * layout.size) n es
file_inside f layout k lt n is es h = record { there = h.there; within = omega (arith, is, h.size, place_ends layout k lt) }

-- a write within it
pub file_write : (f g : FileName) (layout : Layout) (at : ℕ) (bytes shows : List ℕ) (es : List Event) → at + length shows ≤ layout.count * layout.size → HasFile f layout es → HasFile f layout (Write g at bytes shows ∷ es)
file_write f g layout at bytes shows es fits h = record { there = h.there; size = by (same_file f g) }
  where
    by : (b : Bool) → length (if b then put at shows (reads f es) else reads f es) ≡ layout.count * layout.size
    by true = length-put at shows (reads f es) (omega (arith, fits, h.size)) ∙ h.size
    by false = h.size

-- a sync
pub file_sync : (f g : FileName) (layout : Layout) (es : List Event) → HasFile f layout es → HasFile f layout (Sync g ∷ es)
file_sync f g layout es h = record { there = h.there; size = h.size }

-- writes and syncs of another file
pub file_since : (f g : FileName) → same_file g f ≡ false → (layout : Layout) (a b : List Event) → Since (IsOn f) a b → HasFile g layout a → HasFile g layout b
file_since f g apart layout a b s h = record { there = since_there f g a b s ∙ h.there; size = ap length (since_reads f g apart a b s) ∙ h.size }

-- and marks and files that are made among them
pub file_left_alone : (g : FileName) (layout : Layout) (a b : List Event) → Since (LeavesFile g) a b → HasFile g layout a → HasFile g layout b
file_left_alone g layout a b s h = record { there = there_left_alone g a b s ∙ h.there; size = ap length (reads_left_alone g a b s) ∙ h.size }

-- Of a disk: the file as a call leaves it.
module _ (f : FileName) (layout : Layout) where
  at_write : (g : FileName) (at : ℕ) (bytes shows : List ℕ) (old new : Past) → at + length shows ≤ layout.count * layout.size → At (HasFile f layout) old → new ≡ grow (Write g at bytes shows) old → At (HasFile f layout) new
  at_write g at bytes shows None new fits known is = record { here = λ es now. absurd (none-some es (sym is ∙ now)) }
  at_write g at bytes shows (Some s) new fits known is = record {
    here = λ es now. subst (HasFile f layout) (same_Some _ es (sym is ∙ now)) (file_write f g layout at bytes shows s fits (known.here s refl));
  }

  -- a write that was done
  pub file_written : (g : FileName) (at : ℕ) (bytes : List ℕ) (old new : Past) → at + length bytes ≤ layout.count * layout.size → At (HasFile f layout) old → new ≡ grow (Write g at bytes bytes) old → At (HasFile f layout) new
  file_written g at bytes old new fits known is = at_write g at bytes bytes old new fits known is

  -- one that failed
  pub file_may_write : (g : FileName) (at : ℕ) (bytes : List ℕ) (old new : Past) → at + length bytes ≤ layout.count * layout.size → At (HasFile f layout) old → MayGrow (IsWrite g at bytes) old new → At (HasFile f layout) new
  file_may_write g at bytes old new fits known (inl same) = subst (At (HasFile f layout)) (sym same) known
  file_may_write g at bytes old new fits known (inr (e, (shows, long, is), grown)) = at_write g at bytes shows old new (omega (arith, long, fits)) known (grown ∙ ap (λ d. grow d old) is)

  -- a sync, done or not
  pub file_synced : (g : FileName) (old new : Past) → At (HasFile f layout) old → new ≡ grow (Sync g) old → At (HasFile f layout) new
  file_synced g None new known is = record { here = λ es now. absurd (none-some es (sym is ∙ now)) }
  file_synced g (Some s) new known is = record { here = λ es now. subst (HasFile f layout) (same_Some _ es (sym is ∙ now)) (file_sync f g layout s (known.here s refl)) }
