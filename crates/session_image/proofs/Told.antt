-- What a mark that is told leaves as it was: the views of images, a store at rest, and the files.
use Rattle.std.proofs.Common.{◌≡◌, ℕ, ◌≤◌, Bool, List, [], ◌∷◌, Option, Some, None, refl, sym, subst, ◌∙◌}
use Rattle.disk_model.specs.Event.{Event, Tell, is_there, marks}
use Rattle.disk_model.specs.Image.{Image}
use Rattle.disk_model.specs.Marks.{minimum_of}
use Rattle.disk_model.specs.declared.names.FileName.{FileName}
use Rattle.disk_model.specs.declared.names.FileName.TheVariants.{Double, Space}
use Rattle.disk_model.specs.declared.names.Mark.{Mark}
use Rattle.key_ring.specs.Ring.{RingEntry}
use Rattle.places.specs.Places.{Layout, HasPlaces}
use Rattle.page_places.specs.Texts.{slots, pages}
use Rattle.page_places.specs.Views.{view}
use Rattle.redo_text.specs.declared.change.Change.{Change}
use Rattle.store_image.specs.Places.{LogView}
use Rattle.store_image.specs.Recovers.{Theory, PageContents, Gives, ViewRecovers, ViewRotated}
use Rattle.store_image.specs.View.{Text, View, IsCopy, IsChosen, Home, Copy, Unused, IsLive}
use Rattle.store_model.specs.declared.contents.SpaceContents.{SpaceContents}
use Rattle.store_files.specs.Header.{HeldHeader, HeldSpace}
use Rattle.store_files.specs.Pages.{pages_of, salts_of}
use Rattle.crash_image.specs.Recovers.{SpacesLong, Recovers}
use Rattle.crash_image.specs.Rest.{read_image, HasNonePending, IsAtRest}
use Rattle.crash_image.specs.Stands.{Named, OfChosen, OfSlot, OfBlock, OfLog, OfSpace}
use Rattle.crash_image.specs.StoreTheory.{store_theory}
use Rattle.session_image.specs.Kept.{SessionStore, SessionFiles, page_count}

-- ---- views

-- the view with other marks
abbrev pub retold : {M : Type 0} → View M → List Mark → View M
retold v told = record v { told = told }

copy_retold : {M : Type 0} (v : View M) (told : List Mark) (s p i : ℕ) (t : Text) → IsCopy v s p i t → IsCopy (retold v told) s p i t
copy_retold v told s p i t c = record { within = c.within; is = c.is }

copy_back : {M : Type 0} (v : View M) (told : List Mark) (s p i : ℕ) (t : Text) → IsCopy (retold v told) s p i t → IsCopy v s p i t
copy_back v told s p i t c = record { within = c.within; is = c.is }

pub chosen_retold : {M : Type 0} (v : View M) (told : List Mark) (s p : ℕ) (chosen : Option Text) → IsChosen v s p chosen → IsChosen (retold v told) s p chosen
chosen_retold v told s p chosen (Home t at same) = Home t at same
chosen_retold v told s p chosen (Copy i t none copy newest least same) =
    Copy i t none (copy_retold v told s p i t copy) (λ j u c. newest j u (copy_back v told s p j u c)) (λ j u c. least j u (copy_back v told s p j u c)) same
chosen_retold v told s p chosen (Unused at none same) = Unused at (λ i t c. none i t (copy_back v told s p i t c)) same

pub live_retold : {M : Type 0} (v : View M) (told : List Mark) (s p i : ℕ) (t : Text) → IsLive v s p i t → IsLive (retold v told) s p i t
live_retold v told s p i t live = record { copy = copy_retold v told s p i t live.copy; above = live.above; newest = λ none j u c. live.newest none j u (copy_back v told s p j u c) }

module _ (T : Theory) (v : View T.M) (told : List Mark) (c : PageContents T) where
  gives_retold : (s p : ℕ) (chosen : Option Text) → Gives T v c s p chosen → Gives T (retold v told) c s p chosen
  gives_retold s p (Some t) gives = gives
  gives_retold s p None gives = gives

  pub recovers_retold : ViewRecovers T v c → ViewRecovers T (retold v told) c
  recovers_retold r = record {
    pages = λ s p there. let q = r.pages s p there in record { chosen = q.chosen; is = chosen_retold v told s p q.chosen q.is; gives = gives_retold s p q.chosen q.gives };
    slots = λ s p i t there live. let q = r.slots s p i t there (live_retold (retold v told) v.told s p i t live) in record { holds = q.holds; means = q.means; named = q.named; same = q.same };
  }

  pub rotated_retold : ((s : ℕ) → minimum_of told s ≡ minimum_of v.told s) → ViewRotated T v c → ViewRotated T (retold v told) c
  rotated_retold same r = record {
    floors = λ s there. subst (λ (n : ℕ). n ≤ T.floor (c s 0)) (sym (same s)) (r.floors s there);
    plain = λ s there clear. same s ∙ r.plain s there clear;
    homes = λ s p t there page used chosen. subst (λ (n : ℕ). n ≤ t.version) (sym (same s)) (r.homes s p t there page used (chosen_retold (retold v told) v.told s p (Some t) chosen));
    slots = λ s p i t there page used live. subst (λ (n : ℕ). n ≤ t.version) (sym (same s)) (r.slots s p i t there page used (live_retold (retold v told) v.told s p i t live));
  }

-- ---- images with the same files

module _ (image : Image) (is_made : FileName → Bool) (told : List Mark) (torn : FileName → List (ℕ × ℕ)) where
  -- the image with other marks, and other torn places
  abbrev pub other_image : Image
  other_image = record { is_made = is_made; bytes = image.bytes; told = told; torn = torn }

  pub as_long : (hs : List HeldSpace) → SpacesLong image hs → SpacesLong other_image hs
  as_long [] long = tt
  as_long (h ∷ hs) long = (long.0, as_long hs long.1)

  module _ (keys : List RingEntry) (c : List SpaceContents) (last : ℕ) where
    -- what it recovers to hangs on its files alone
    abbrev pub image_recovers : Recovers image keys c last → Recovers other_image keys c last
    image_recovers q = record {
      header = q.header;
      is_header = q.is_header;
      log = q.log;
      is_last = q.is_last;
      by = record {
        reading = record {
          long = record { log = q.by.reading.long.log; double = q.by.reading.long.double; spaces = as_long q.header.spaces q.by.reading.long.spaces };
          run = q.by.reading.run;
          of_store = q.by.reading.of_store;
          placed = q.by.reading.placed;
          spaces = q.by.reading.spaces;
          clear = q.by.reading.clear;
        };
        pages = recovers_retold (store_theory q.header keys (salts_of c)) (view q.log image) told (pages_of c) q.by.pages;
      };
    }

  pub named_back : (header : HeldHeader) (log : LogView (List Change)) (active id version : ℕ) → Named other_image header log active id version → Named image header log active id version
  named_back header log active id version (OfChosen s p t there chosen some same_id same) = OfChosen s p t there (chosen_retold (view log other_image) image.told s p (Some t) chosen) some same_id same
  named_back header log active id version (OfSlot s p i t there live some same_id same) = OfSlot s p i t there (live_retold (view log other_image) image.told s p i t live) some same_id same
  named_back header log active id version (OfBlock n from below same_id same) = OfBlock n from below same_id same
  named_back header log active id version (OfLog same_id same) = OfLog same_id same
  named_back header log active id version (OfSpace s there same_id same) = OfSpace s there same_id same

-- ---- a disk with a mark more

module _ (mark : Mark) (es : List Event) where
  pub none_told : HasNonePending es → HasNonePending (Tell mark ∷ es)
  none_told none image is = none (record image { told = marks es }) (record { made = is.made; left = is.left; told = refl })

  -- a disk at rest is at rest
  abbrev pub rest_told : (keys : List RingEntry) (c : List SpaceContents) (next : ℕ) → IsAtRest es keys c next → IsAtRest (Tell mark ∷ es) keys c next
  rest_told keys c next r = record {
    settled = none_told r.settled;
    last = r.last;
    is_next = r.is_next;
    recovers = image_recovers (read_image es) (λ f. is_there f es) (mark ∷ marks es) (λ f. []) keys c r.last r.recovers;
    empty = r.empty;
    none_live = λ s p i t there live. r.none_live s p i t there (live_retold (view r.recovers.log (read_image (Tell mark ∷ es))) (marks es) s p i t live);
    clear = r.clear;
  }

  pub places_told : (f : FileName) (layout : Layout) → HasPlaces f layout es → HasPlaces f layout (Tell mark ∷ es)
  places_told f layout h = record { some = h.some; there = h.there; size = h.size; whole = h.whole }

  pub files_told : (store : SessionStore) → SessionFiles store es → SessionFiles store (Tell mark ∷ es)
  files_told store files = record {
    double = places_told Double slots files.double;
    spaces = λ s there. places_told (Space s) (pages (page_count store.header.spaces s)) (files.spaces s there);
    whole = files.whole;
    placed = files.placed;
  }
