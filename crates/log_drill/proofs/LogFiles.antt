-- A log's file that was made, and one that a crash left.
use Rattle.std.proofs.Common.{◌≡◌, ℕ, ◌*◌, ⊎_elim, ◌∷◌, List, length, Option, Some, None, refl, sym, ap, subst, ◌∙◌}
use Rattle.std.proofs.lemmas.Option.{same_Some, none-some}
use Rattle.disk_model.specs.Crash.{IsCrash, crash_image}
use Rattle.disk_model.specs.Event.{Event, Make}
use Rattle.disk_model.specs.Image.{IsListed}
use Rattle.disk_model.specs.Past.{Past, At, grow}
use Rattle.disk_model.specs.declared.calls.Choice.{Choice}
use Rattle.disk_model.specs.declared.names.FileName.{FileName}
use Rattle.disk_model.specs.declared.names.FileName.TheVariants.{Log as LogFile}
use Rattle.places.specs.Places.{Layout, AreWhole, HasFile, HasPlaces, May, place, shown}
use Rattle.places.proofs.FileSteps.{file_of_places}
use Rattle.places.proofs.Left.{image_size, in_image}
use Rattle.ring_log.specs.Ring.{RingState, RingReady}
use Rattle.redo_log.specs.Blocks.{Keys, redo_form}
use Rattle.redo_log.specs.Fresh.{IsFresh}
use Rattle.redo_log.proofs.FreshLog.{fresh_make}
use Rattle.crash_image.specs.LogForm.{log_places}

-- a file that was made is fresh
pub fresh_made : (old new : Past) → new ≡ grow (Make LogFile 143360) old → At (IsFresh 32) new
fresh_made None new is = record { here = λ es e. absurd (none-some es (sym is ∙ e)) }
fresh_made (Some os) new is = record { here = λ es e. subst (IsFresh 32) (same_Some (Make LogFile 143360 ∷ os) es (sym is ∙ e)) (fresh_make 32 os) }

-- a file with its places is there with its length, and a call that keeps them keeps them
pub file_here : (n : ℕ) → n ≡ 32 → (es : List Event) → HasPlaces LogFile (log_places 32) es → At (HasFile LogFile (log_places n)) (Some es)
file_here n is es has = record { here = λ l same. subst (λ (k : ℕ). HasFile LogFile (log_places k) l) (sym is) (subst (HasFile LogFile (log_places 32)) (same_Some es l same) (file_of_places LogFile (log_places 32) es has)) }

pub places_kept : (n : ℕ) → n ≡ 32 → (es new : List Event) → HasPlaces LogFile (log_places 32) es → (At (HasPlaces LogFile (log_places n)) (Some es) → At (HasPlaces LogFile (log_places n)) (Some new)) → HasPlaces LogFile (log_places 32) new
places_kept n is es new has keeps =
    subst (λ (k : ℕ). HasPlaces LogFile (log_places k) new) is
    ((keeps (record { here = λ l same. subst (λ (k : ℕ). HasPlaces LogFile (log_places k) l) (sym is) (subst (HasPlaces LogFile (log_places 32)) (same_Some es l same) has) })).here new refl)

-- a crash leaves a file its places
pub places_crashed : (f : FileName) (layout : Layout) (choices : List Choice) (es after : List Event) → HasPlaces f layout es → IsCrash choices es after → HasPlaces f layout after
places_crashed f layout choices es after has crash = record {
  some = has.some;
  there = crash.there f ∙ crash.is.made f ∙ has.there;
  size = ap length (crash.reads_as f) ∙ image_size f layout es has ((crash_image choices es).bytes f) ((crash_image choices es).torn f) (crash.is.left f);
  whole = subst (λ (l : List Event). AreWhole f layout l) (sym crash.opened.3) tt;
}

-- A ring that is ready is ready once the disk has crashed: nothing was pending.
module _ (N : ℕ) (keys : Keys) (r : RingState) (choices : List Choice) (es after : List Event) (crash : IsCrash choices es after) (ready : RingReady N (redo_form keys) r es) where
  -- each place is what it was
  now : (i : ℕ) (x : Option (List ℕ)) → May LogFile 4096 i after x → x ≡ Some (shown LogFile 4096 i after)
  now i x may =
      let is = crash.opened.3 in
      subst (λ (l : List Event). May LogFile 4096 i l x) is may ∙ ap (λ (l : List Event). Some (shown LogFile 4096 i l)) (sym is)

  -- what it may hold it could hold before
  before : (i : ℕ) (x : Option (List ℕ)) → May LogFile 4096 i after x → May LogFile 4096 i es x
  before i x may =
      let image = crash_image choices es in
      let places = ready.ringed.places in
      let is : x ≡ Some (place 4096 i (image.bytes LogFile)) = now i x may ∙ ap (λ (l : List ℕ). Some (place 4096 i l)) (crash.reads_as LogFile) in
      ⊎_elim (λ (m : May LogFile 4096 i es (Some (place 4096 i (image.bytes LogFile)))). subst (λ (y : Option (List ℕ)). May LogFile 4096 i es y) (sym is) m)
      (λ (t : May LogFile 4096 i es None × IsListed (image.torn LogFile) (i * 4096) 4096). absurd (none-some _ (ready.settled i None t.0)))
      (in_image LogFile (log_places N) es places.some places.whole (image.bytes LogFile) (image.torn LogFile) (crash.is.left LogFile) i)

  pub ready_crashed : RingReady N (redo_form keys) r after
  ready_crashed =
      let a = ready.ringed.at in
      record {
        ringed = record {
          places = places_crashed LogFile (log_places N) choices es after ready.ringed.places crash;
          at = record {
            is = a.is;
            header = λ x may. a.header x (before 0 x may);
            check = λ x may. a.check x (before _ x may);
            other = λ x may. a.other x (before _ x may);
            front = λ n x low high may. a.front n x low high (before _ x may);
            rest = λ n x low high may. a.rest n x low high (before _ x may);
          };
        };
        settled = now;
        all = ready.all;
        none = ready.none;
      }
