-- What the files of a store have goes on over the events of its opening.
use Rattle.std.proofs.Common.{◌≡◌, ◌≢◌, ℕ, ⊎_elim, true, false, nat_eq, List, length, Some, refl, sym, ap, subst, ◌∙◌, arith}
use Rattle.std.proofs.lemmas.Bool.{cases_eq}
use Rattle.std.proofs.lemmas.Bool.Decides.{nat_tests}
use Rattle.std.proofs.lemmas.Option.{same_Some}
use Rattle.disk_model.specs.Event.{Event}
use Rattle.disk_model.specs.Does.{Since, IsOn}
use Rattle.disk_model.specs.declared.names.FileName.TheVariants.{Log, Double, Space}
use Rattle.disk_model.proofs.Layers.{since_each, since_same, since_since}
use Rattle.places.specs.Beside.{LeavesFile}
use Rattle.places.specs.Places.{shown, HasFile, HasPlaces}
use Rattle.places.specs.Batches.{IsFileSettled}
use Rattle.places.proofs.LeftAlone.{leaves_file, may_left_alone, reads_left_alone, shown_left_alone, whole_left_alone}
use Rattle.page_places.specs.Placed.{IsPlaced, MayBePlaced}
use Rattle.page_places.specs.Texts.{page_bytes, slots, pages}
use Rattle.store_files.specs.Pages.{has_page}
use Rattle.crash_image.specs.Opened.{StoreOpened, IsOpenedAt, FilesOpened, FilesSettled, SpaceStands}
use Rattle.crash_image.proofs.OpeningsOverBytes.{any_count}

pub files_begin : (o : StoreOpened) (last : ℕ) (s : List Event) → IsOpenedAt o last s → FilesOpened o s s
files_begin o last s opened = record {
  files = record {
    double_whole = opened.double_whole;
    double_long = refl;
    spaces_whole = opened.spaces_whole;
    spaces_long = λ z. refl;
    placed = λ z p here bytes may. subst (IsPlaced p) (sym (same_Some bytes (shown (Space z) page_bytes p s) (opened.reads_as.spaces z p (Some bytes) may))) (opened.reading.placed z p here);
  };
  log = since_same (LeavesFile Log) s;
}

pub settled_begin : (o : StoreOpened) (last : ℕ) (s : List Event) → IsOpenedAt o last s → FilesSettled s
settled_begin o last s opened = record { double = opened.reads_as.double; spaces = opened.reads_as.spaces }

module _ (o : StoreOpened) (s t m : List Event) (files : FilesOpened o s t) where
  -- a space to which no event came
  pub space_left_alone : (z : ℕ) → Since (LeavesFile (Space z)) t m → SpaceStands o z t m
  space_left_alone z since = record {
    whole = λ count. whole_left_alone (Space z) (pages count) t m since (files.files.spaces_whole z count);
    long = ap length (reads_left_alone (Space z) t m since);
    placed = λ p here bytes may. files.files.placed z p here bytes (may_left_alone (Space z) page_bytes p t m (Some bytes) since may);
  }

  -- one that was written
  pub space_places : (z count : ℕ) → HasFile (Space z) (pages count) t → HasPlaces (Space z) (pages count) m → ((p : ℕ) → has_page o.header.spaces z p ≡ true → MayBePlaced z p m) → SpaceStands o z t m
  space_places z count before has placed = record { whole = λ other. any_count (Space z) count other m has.whole; long = has.size ∙ sym before.size; placed = placed }

  -- spaces were written, and nothing else
  pub files_spaces : Since (LeavesFile Log) t m → Since (LeavesFile Double) t m → ((z : ℕ) → SpaceStands o z t m) → FilesOpened o s m
  files_spaces log double each = record {
    files = record {
      double_whole = whole_left_alone Double slots t m double files.files.double_whole;
      double_long = ap length (reads_left_alone Double t m double) ∙ files.files.double_long;
      spaces_whole = λ z. (each z).whole;
      spaces_long = λ z. (each z).long ∙ files.files.spaces_long z;
      placed = λ z. (each z).placed;
    };
    log = since_since files.log log;
  }

  -- one space was
  pub files_space : (z : ℕ) → Since (IsOn (Space z)) t m → SpaceStands o z t m → FilesOpened o s m
  files_space z since stands =
      files_spaces (since_each (leaves_file (Space z) Log refl) since) (since_each (leaves_file (Space z) Double refl) since)
      (λ y. ⊎_elim (λ (e : z ≡ y). subst (λ (x : ℕ). SpaceStands o x t m) e stands) (λ (other : z ≢ y). space_left_alone y (since_each (leaves_file (Space z) (Space y) (apart y other)) since)) (cases_eq z y))
    where
      apart : (y : ℕ) → z ≢ y → nat_eq y z ≡ false
      apart y other = let flip : y ≢ z = λ e. other (sym e) in grind (arith, nat_tests)

  -- the doublewrite file was
  pub files_double : Since (IsOn Double) t m → HasFile Double slots t → HasPlaces Double slots m → FilesOpened o s m
  files_double since before has = record {
    files = record {
      double_whole = has.whole;
      double_long = has.size ∙ sym before.size ∙ files.files.double_long;
      spaces_whole = λ z. (space z).whole;
      spaces_long = λ z. (space z).long ∙ files.files.spaces_long z;
      placed = λ z. (space z).placed;
    };
    log = since_since files.log (since_each (leaves_file Double Log refl) since);
  }
    where
      space : (z : ℕ) → SpaceStands o z t m
      space z = space_left_alone z (since_each (leaves_file Double (Space z) refl) since)

-- What isn't pending stays so over events on other files.
module _ (t m : List Event) (settled : FilesSettled t) where
  -- the doublewrite file was written, and synced
  pub settled_double : Since (IsOn Double) t m → IsFileSettled Double 16896 m → FilesSettled m
  settled_double since double = record {
    double = double;
    spaces = λ z i x may.
        let aside = since_each (leaves_file Double (Space z) refl) since in
        settled.spaces z i x (may_left_alone (Space z) page_bytes i t m x aside may) ∙ ap (λ (l : List ℕ). Some l) (sym (shown_left_alone (Space z) page_bytes i t m aside));
  }

  -- a space was
  pub settled_space : (z : ℕ) → Since (IsOn (Space z)) t m → IsFileSettled (Space z) page_bytes m → FilesSettled m
  settled_space z since space = record {
    double = λ i x may.
        let aside = since_each (leaves_file (Space z) Double refl) since in
        settled.double i x (may_left_alone Double 16896 i t m x aside may) ∙ ap (λ (l : List ℕ). Some l) (sym (shown_left_alone Double 16896 i t m aside));
    spaces = λ y. ⊎_elim
        (λ (e : z ≡ y). subst (λ (x : ℕ). IsFileSettled (Space x) page_bytes m) e space)
        (λ (other : z ≢ y). λ i x may.
        let aside = since_each (leaves_file (Space z) (Space y) (apart y other)) since in
        settled.spaces y i x (may_left_alone (Space y) page_bytes i t m x aside may) ∙ ap (λ (l : List ℕ). Some l) (sym (shown_left_alone (Space y) page_bytes i t m aside)))
        (cases_eq z y);
  }
    where
      apart : (y : ℕ) → z ≢ y → nat_eq y z ≡ false
      apart y other = let flip : y ≢ z = λ e. other (sym e) in grind (arith, nat_tests)
