-- The record's theorems over bytes: from a moment of a store's life, whose items are what its writes wrote, to Once, to Settled of each lucky image, and to no IV twice. And when a store that rests on paper is at rest.
use Rattle.std.proofs.Common.{arith, ◌≡◌, ℕ, ◌+◌, ◌^◌, ◌<◌, ◌≤◌, Bool, true, false, true≢false, List, refl, sym, ap, subst, ◌∙◌}
use Rattle.aes_core.specs.Modes.{counter_at}
use Rattle.disk_model.specs.Event.{Event, is_there, marks, record_of, reads, same_file}
use Rattle.disk_model.specs.Image.{Image, IsImage, Leaves}
use Rattle.disk_model.specs.declared.names.FileName.{FileName}
use Rattle.disk_model.specs.declared.names.FileName.TheVariants.{Log, Double, Space}
use Rattle.key_ring.specs.Ring.{RingEntry}
use Rattle.disk_model.proofs.FilesLemmas.{same_file-≡, same_file-itself}
use Rattle.places.specs.Places.{AreWhole, HasPlaces, HaveBytes, IsUnwritten, Layout}
use Rattle.places.specs.Batches.{IsFileSettled}
use Rattle.places.proofs.NonePending.{image_as_read, lost_all, settled_by_images, unwritten_by_images}
use Rattle.page_places.specs.Texts.{slots, pages}
use Rattle.page_places.specs.Views.{view, places_by}
use Rattle.page_places.proofs.Views.{is_view}
use Rattle.store_image.specs.Ivs.{iv_of, IsAmongWritten, IsSamePlain}
use Rattle.store_image.specs.LifeStages.{LifeStage, IsLogAt, bound}
use Rattle.store_image.specs.Places.{LogView}
use Rattle.store_image.specs.Record.{Item, ItemsSettled}
use Rattle.store_image.specs.RecordKept.{IsLifeMoment}
use Rattle.store_image.specs.Recovers.{Theory}
use Rattle.store_image.specs.StoreAtRest.{IsRest}
use Rattle.store_image.proofs.LifeMoments.{moment_once, moment_settled, moment_ivs, moment_counters}
use Rattle.redo_text.specs.declared.change.Change.{Change}
use Rattle.store_model.specs.declared.contents.SpaceContents.{SpaceContents}
use Rattle.store_files.specs.Header.{HeldHeader}
use Rattle.store_files.specs.Pages.{has_page, pages_of, salts_of}
use Rattle.store_files.specs.Run.{IsClear}
use Rattle.crash_image.specs.StoreTheory.{store_theory}
use Rattle.crash_image.specs.LogForm.{log_places}
use Rattle.crash_image.specs.Rest.{read_image, HasNonePending, IsAtRest}
use Rattle.crash_image.specs.Stands.{Lucky, place_test}
use Rattle.crash_image.specs.Writes.{written_items, Once, Settled}
use Rattle.crash_image.specs.Recovers.{HasHeader, Reading}

module _ (header : HeldHeader) (keys : List RingEntry) (salts : ℕ → List ℕ) (may_log : LogView (List Change) → Type 0) (es : List Event) where
  abbrev theory : Theory
  theory = store_theory header keys salts

  abbrev items : List Item
  items = written_items (record_of es)

  module _ (stage : LifeStage theory) (moment : IsLifeMoment theory header.blocks stage items (places_by may_log es)) where
    -- No number served two texts.
    pub written_once : Once header keys salts (record_of es)
    written_once = moment_once theory header.blocks items (places_by may_log es) stage moment

    -- Each lucky image agrees with what was written.
    pub written_settled : (count : ℕ → ℕ) → AreWhole Double slots es → ((s : ℕ) → AreWhole (Space s) (pages (count s)) es) → (image : Image) → IsImage es image → Lucky image → (log : LogView (List Change)) → may_log log
        → (c : List SpaceContents) → salts ≡ salts_of c → IsLogAt theory header.blocks stage (view log image) (pages_of c) → Settled (record_of es) image header keys log c
    written_settled count double spaces image is lucky log may c same at =
        subst (λ (f : ℕ → List ℕ). ItemsSettled (store_theory header keys f) header.blocks items (view log image) (pages_of c)) same
        (moment_settled theory header.blocks items (places_by may_log es) stage moment (view log image) (pages_of c) (is_view may_log log count es double spaces place_test (λ bytes. refl) (λ s bytes. refl) image is lucky may) at)

    module _ (named : (s p : ℕ) → has_page header.spaces s p ≡ true → (s ≤ 0xffff_ffef) × (p < 2 ^ 32)) where
      -- No local key and IV served two plain texts.
      pub written_ivs : bound theory header.blocks stage ≤ 2 ^ 50 → (x y : Item) → IsAmongWritten items x → IsAmongWritten items y → iv_of x ≡ iv_of y → IsSamePlain theory x y
      written_ivs = moment_ivs theory header.blocks items (places_by may_log es) stage moment named

      -- Nor did a counter block, in counter mode.
      pub written_counters : bound theory header.blocks stage ≤ 2 ^ 35 → (x y : Item) (i j : ℕ) → i < 2 ^ 16 → j < 2 ^ 16 → IsAmongWritten items x → IsAmongWritten items y → counter_at (iv_of x) i ≡ counter_at (iv_of y) j
          → IsSamePlain theory x y × (i ≡ j)
      written_counters = moment_counters theory header.blocks items (places_by may_log es) stage moment named

-- Where each file was written in whole places and none of them is pending, nothing is.
pub none_pending : (blocks : ℕ) (count : ℕ → ℕ) (es : List Event) → AreWhole Log (log_places blocks) es → AreWhole Double slots es → ((s : ℕ) → AreWhole (Space s) (pages (count s)) es)
    → IsFileSettled Log 4096 es → IsFileSettled Double 16896 es → ((s : ℕ) → IsFileSettled (Space s) 16384 es) → HasNonePending es
none_pending blocks count es log double spaces log_settled double_settled spaces_settled image is f = each f (is.left f)
  where
    each : (f : FileName) → Leaves f es (image.bytes f) (image.torn f) → image.bytes f ≡ reads f es
    each Log left = image_as_read Log (log_places blocks) es (omega arith) log log_settled _ _ left
    each Double left = image_as_read Double slots es (omega arith) double double_settled _ _ left
    each (Space s) left = image_as_read (Space s) (pages (count s)) es (omega arith) (spaces s) (spaces_settled s) _ _ left

-- And back: where each image has each file as it reads, no place of a file of whole places is pending.
module _ (es : List Event) (none : HasNonePending es) (f : FileName) where
  -- an image with this of one file, and the others as the disk kept them
  left_of : (file : List ℕ) (torn : List (ℕ × ℕ)) → Leaves f es file torn → (g : FileName) → (x : List ℕ) × (y : List (ℕ × ℕ)) × Leaves g es x y × (g ≡ f → x ≡ file)
  left_of file torn left g = by (same_file g f) refl
    where
      by : (b : Bool) → same_file g f ≡ b → (x : List ℕ) × (y : List (ℕ × ℕ)) × Leaves g es x y × (g ≡ f → x ≡ file)
      by true same = (file, torn, subst (λ (h : FileName). Leaves h es file torn) (sym (same_file-≡ g f same)) left, λ is. refl)
      by false apart = let (x, y, l) = lost_all g es in (x, y, l, λ is. absurd (true≢false (sym (same_file-itself f) ∙ ap (λ (h : FileName). same_file h f) (sym is) ∙ apart)))

  as_read : (file : List ℕ) (torn : List (ℕ × ℕ)) → Leaves f es file torn → file ≡ reads f es
  as_read file torn left =
      let each = left_of file torn left in
      sym ((each f).3 refl) ∙ none (record { is_made = λ g. is_there g es; bytes = λ g. (each g).0; told = marks es; torn = λ g. (each g).1 }) (record { made = λ g. refl; left = λ g. (each g).2; told = refl }) f

  pub none_pending_whole : (layout : Layout) → 0 < layout.size → AreWhole f layout es → IsFileSettled f layout.size es
  none_pending_whole layout some whole = settled_by_images f layout es some whole as_read

  pub none_pending_places : (layout : Layout) → HasPlaces f layout es → IsFileSettled f layout.size es
  none_pending_places layout places = none_pending_whole layout places.some places.whole

  -- and none of a file of which no empty write is pending was written since its last sync
  pub none_written : HaveBytes f es → IsUnwritten f es
  none_written some = unwritten_by_images f (reads f es) es some as_read

-- A disk with nothing pending, whose view rests with these contents, is at rest with them.
pub rests_by : (es : List Event) (keys : List RingEntry) (header : HeldHeader) (log : LogView (List Change)) (c : List SpaceContents) (last : ℕ) → last + 1 ≡ log.end → HasNonePending es → HasHeader (read_image es) header → Reading (read_image es) keys header log c
    → IsRest (store_theory header keys (salts_of c)) (view log (read_image es)) (pages_of c) → IsClear header.blocks (reads Log es) log.end → IsAtRest es keys c log.end
rests_by es keys header log c last ends settled is_header reading rest clear = record {
  settled = settled;
  last = last;
  is_next = ends;
  recovers = record {
    header = header;
    is_header = is_header;
    log = log;
    is_last = ends;
    by = record { reading = reading; pages = rest.recovers };
  };
  empty = rest.run;
  none_live = rest.none_live;
  clear = clear;
}
