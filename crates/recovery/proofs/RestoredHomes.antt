-- What restoring makes of a store that is opened: each lucky image of each moment recovers to what was opened, and behind it groups may be applied.
use Rattle.std.proofs.Common.{◌≡◌, ◌≢◌, ◌⊎◌, inl, inr, ⊎_elim, ℕ, ◌<◌, true, false, nat_eq, List, length, Some, refl, sym, ap, subst, ◌∙◌}
use Rattle.std.proofs.lemmas.Bool.Decides.{nat_tests}
use Rattle.std.proofs.Common.{arith}
use Rattle.disk_model.specs.Event.{Event}
use Rattle.disk_model.specs.Does.{Since}
use Rattle.disk_model.specs.declared.names.FileName.TheVariants.{Log, Double, Space}
use Rattle.disk_model.proofs.Layers.{since_each}
use Rattle.places.specs.Beside.{LeavesFile}
use Rattle.places.specs.Places.{HasFile, HasPlaces}
use Rattle.places.proofs.FileSteps.{file_of_places}
use Rattle.places.proofs.LeftAlone.{leaves_file, may_left_alone, shown_left_alone}
use Rattle.page_places.specs.Placed.{MayBePlaced}
use Rattle.page_places.specs.Texts.{page_bytes, held, pages, slots}
use Rattle.page_places.proofs.Placed.{placed_filling, placed_settled}
use Rattle.space_head.specs.declared.space.SpaceInfo.{SpaceInfo}
use Rattle.store_files.specs.Pages.{has_page, pages_of}
use Rattle.store_image.specs.Opening.{InRestore, MayRestore, Stopped}
use Rattle.store_image.specs.Places.{LogView, log_of}
use Rattle.store_image.specs.Recovers.{PageContents, Theory}
use Rattle.store_image.specs.View.{Holds, Text, View}
use Rattle.store_image.proofs.OpeningSteps.{applying_begins, restored_homes}
use Rattle.redo_text.specs.declared.change.Change.{Change}
use Rattle.crash_image.specs.Opened.{StoreOpened, IsOpenedAt, FilesOpened, FilesSettled, SpaceStands, opened_theory}
use Rattle.crash_image.proofs.OpeningFiles.{files_begin, files_spaces, space_left_alone, space_places}
use Rattle.crash_image.proofs.OpeningsOverBytes.{opening_recovers}
use Rattle.doublewrite.specs.Copies.{copies_to}
use Rattle.doublewrite.specs.Restore.{HasPages, HaveAll, HaveFiles, HomesRestored, HomesRestoring, IsRestoreEvent, space_at, wanted}
use Rattle.doublewrite.proofs.NewestCopy.{wanted_chosen}
use Rattle.doublewrite.proofs.RestoreLifts.{all_settled, listed_or_not, restore_all, restore_restores, restore_within}
use Rattle.recovery.specs.Putting.{AreAsChosen, BetweenGroups, ImagesRecover, opened_places}
use Rattle.recovery.specs.Restoring.{AreAllListed}

-- the spaces have their places
pub have_all : (o : StoreOpened) (last : ℕ) (s : List Event) (spaces : List SpaceInfo) → IsOpenedAt o last s → HaveFiles spaces s → HaveAll spaces s
have_all o last s spaces opened files i lt =
    let file = files i lt in
    record { some = omega arith; there = file.there; size = file.size; whole = opened.spaces_whole (space_at spaces i).space (space_at spaces i).pages }

module _ (o : StoreOpened) (last : ℕ) (spaces : List SpaceInfo) (listed : AreAllListed o.header.spaces spaces) (s m : List Event) (opened : IsOpenedAt o last s) (files : HaveFiles spaces s) (since : Since (IsRestoreEvent spaces) s m) where
  abbrev T : Theory
  T = opened_theory o

  abbrev v : View (List Change)
  v = o.view

  abbrev c : PageContents T
  c = pages_of o.contents

  abbrev may_log : LogView (List Change) → Type 0
  may_log l = l ≡ log_of v

  begun : FilesOpened o s s
  begun = files_begin o last s opened

  log_aside : Since (LeavesFile Log) s m
  log_aside = since_each (λ e on. leaves_file (Space (space_at spaces on.0).space) Log refl e on.2) since

  double_aside : Since (LeavesFile Double) s m
  double_aside = since_each (λ e on. leaves_file (Space (space_at spaces on.0).space) Double refl e on.2) since

  space_aside : (z : ℕ) → ((i : ℕ) → i < length spaces → (space_at spaces i).space ≢ z) → Since (LeavesFile (Space z)) s m
  space_aside z none = since_each (λ e on. leaves_file (Space (space_at spaces on.0).space) (Space z) (apart (space_at spaces on.0).space (none on.0 on.1)) e on.2) since
    where
      apart : (y : ℕ) → y ≢ z → nat_eq z y ≡ false
      apart y other = let flip : z ≢ y = λ e. other (sym e) in grind (arith, nat_tests)

  -- a home of a listed space holds no other page's text
  filled_placed : HomesRestoring spaces s m → (i : ℕ) → i < length spaces → (p : ℕ) → has_page o.header.spaces (space_at spaces i).space p ≡ true → MayBePlaced (space_at spaces i).space p m
  filled_placed filling i lt p here =
      let info : SpaceInfo = space_at spaces i in
      placed_filling info.space p s m (placed_settled info.space p s (begun.files.placed info.space p here) (opened.reads_as.spaces info.space)) info.pages info.pages (wanted (copies_to 64 s) s info.space)
      (λ q bytes is. let found = wanted_chosen v s info q (opened.reads_as.home info.space q) opened.reads_as.slot bytes is in (found.0, found.2)) (filling i lt)

  stands : HomesRestoring spaces s m → (z : ℕ) → SpaceStands o z s m
  stands filling z = ⊎_elim
      (λ (one : (i : ℕ) × (i < length spaces) × ((space_at spaces i).space ≡ z)).
      let info : SpaceInfo = space_at spaces one.0 in
      subst (λ (y : ℕ). SpaceStands o y s m) one.2 (space_places o s s m begun info.space info.pages (files one.0 one.1) (filling one.0 one.1).places (filled_placed filling one.0 one.1)))
      (λ (none : (i : ℕ) → i < length spaces → (space_at spaces i).space ≢ z). space_left_alone o s s m begun z (space_aside z none))
      (listed_or_not spaces (length spaces) z)

  restoring_files : HomesRestoring spaces s m → FilesOpened o s m
  restoring_files filling = files_spaces o s s m begun log_aside double_aside (stands filling)

  -- each moment inside, and after a refusal
  pub restoring_recovers : HomesRestoring spaces s m → ImagesRecover o last m
  restoring_recovers filling image is lucky =
      opening_recovers o last s opened m (restoring_files filling) Stopped (InRestore (restore_within T v c o.active may_log spaces s m opened.reads_as since filling)) image is lucky

  -- at Ok
  pub restored_between : HomesRestored spaces s m → BetweenGroups o s m
  restored_between restored =
      let filling : HomesRestoring spaces s m = λ i lt. (restored i lt).filled.filling in
      record {
        between = applying_begins T v c o.active (opened_places o m) (λ z p here. let page = opened.recovers.pages z p here in (page.chosen, page.is))
            (restore_restores T v c o.active may_log spaces s m opened.reads_as since restored filling listed) (restore_all T v c o.active may_log spaces s m opened.reads_as since restored filling listed);
        files = restoring_files filling;
        settled = record {
          double = λ i x may. opened.reads_as.double i x (may_left_alone Double 16896 i s m x double_aside may) ∙ ap (λ (l : List ℕ). Some l) (sym (shown_left_alone Double 16896 i s m double_aside));
          spaces = all_settled v may_log spaces s m opened.reads_as since restored;
        };
      }

  pub restored_chosen : HomesRestored spaces s m → AreAsChosen o m
  restored_chosen restored =
      let filling : HomesRestoring spaces s m = λ i lt. (restored i lt).filled.filling in
      λ z p here. restored_homes T v c o.active (opened_places o m) (λ y q there. let page = opened.recovers.pages y q there in (page.chosen, page.is))
      (restore_restores T v c o.active may_log spaces s m opened.reads_as since restored filling listed) (restore_all T v c o.active may_log spaces s m opened.reads_as since restored filling listed) z p here
