-- The writes of a put leave the files of a store.
use Rattle.std.proofs.Common.{◌≡◌, ℕ, zero, suc, ◌+◌, ◌*◌, ◌<◌, ◌≤◌, Bool, true, false, if◌then◌else◌, nat_eq, List, [], ◌∷◌, ◌++◌, length, slice_index_or, Some, Result, Ok, Err, OnErr, refl, sym, ap, ◌∙◌, subst, arith}
use Rattle.std.proofs.lemmas.Bool.Decides.{nat_tests}
use Rattle.disk_model.specs.Event.{Event, put, reads, same_file}
use Rattle.disk_model.specs.Past.{Past}
use Rattle.disk_model.specs.declared.names.FileName.TheVariants.{Double, Space}
use Rattle.disk_model.proofs.Blocks.{length-put}
use Rattle.doublewrite.specs.Batch.{home_batch, home_events, slot_batch, slot_events, text_at}
use Rattle.doublewrite.specs.Layer.{FitsSpace}
use Rattle.doublewrite.specs.Text.{ArePageTexts, page_number_of}
use Rattle.doublewrite.specs.declared.texts.Texts.{Texts}
use Rattle.page_places.proofs.Texts.{length-slot}
use Rattle.page_places.specs.Texts.{page_bytes, pages, slot_bytes, slot_size, slots}
use Rattle.places.specs.Places.{HasFile}
use Rattle.places.specs.Writes.{IsPart, writes_of}
use Rattle.places.proofs.FileSteps.{file_write}
use Rattle.places.proofs.Steps.{place_ends}
use Rattle.space_head.specs.declared.space.SpaceInfo.{SpaceInfo}
use Rattle.store_image.specs.View.{slot_count}
use Rattle.session_core.specs.Files.{HasStoreFiles}
use Rattle.session_core.specs.Spaces.{space_with_id}
use Rattle.session_core.specs.Writing.{AreWithin, Homing, IsPutPart, stored_past}
use Rattle.session_core.proofs.SpaceLaws.{file_of, space_id}

module _ (blocks : ℕ) (spaces : List SpaceInfo) (batch : Texts) (texts : ArePageTexts batch.pages) (es : List Event) where
  -- the writes of the slots
  slots_left : (k : ℕ) → k ≤ length batch.pages → length batch.pages ≤ slot_count → HasStoreFiles blocks spaces es → HasStoreFiles blocks spaces (writes_of Double slot_size (slot_batch batch) k ++ es)
  slots_left zero le most files = files
  slots_left (suc k) le most files =
      let before = slots_left k (omega (arith, le)) most files in
      let text : List ℕ = text_at batch k in
      let bytes : List ℕ = slot_bytes batch.space (page_number_of text) batch.batch text in
      let long : length bytes ≡ 16896 = length-slot batch.space (page_number_of text) batch.batch text (texts k (omega (arith, le))).long in
      let within : k < slot_count = omega (arith, le, most) in
      let ends : k * 16896 + 16896 ≤ slot_count * 16896 = place_ends slots k within in
      record {
        log = record { there = before.log.there; size = before.log.size };
        double = file_write Double Double slots (k * 16896) bytes bytes (writes_of Double slot_size (slot_batch batch) k ++ es) (omega (arith, long, ends)) before.double;
        spaces_there = λ i d lt. let here = before.spaces_there i d lt in record { there = here.there; size = here.size };
      }

  pub slots_files : length batch.pages ≤ slot_count → HasStoreFiles blocks spaces es → HasStoreFiles blocks spaces (slot_events batch ++ es)
  slots_files most files =
      let left = slots_left (length batch.pages) (omega arith) most files in
      record {
        log = record { there = left.log.there; size = left.log.size };
        double = record { there = left.double.there; size = left.double.size };
        spaces_there = λ i d lt. let here = left.spaces_there i d lt in record { there = here.there; size = here.size };
      }

  -- the file of any space keeps its length by a write within that of another
  length_by : (z s at n : ℕ) (bytes : List ℕ) (old : List Event) → length (reads (Space z) old) ≡ n → at + length bytes ≤ n → length (if same_file (Space s) (Space z) then put at bytes (reads (Space s) old) else reads (Space s) old) ≡ length (reads (Space s) old)
  length_by z s at n bytes old long fits = by (nat_eq s z) refl
    where
      by : (b : Bool) → nat_eq s z ≡ b → length (if b then put at bytes (reads (Space s) old) else reads (Space s) old) ≡ length (reads (Space s) old)
      by true same =
          let is : s ≡ z = grind (arith, nat_tests) in
          let own : length (reads (Space s) old) ≡ n = ap (λ (x : ℕ). length (reads (Space x) old)) is ∙ long in
          length-put at bytes (reads (Space s) old) (omega (arith, own, fits))
      by false other = refl

  module _ (info : SpaceInfo) (is : space_with_id spaces batch.space ≡ Some info) (inside : AreWithin batch info.pages) where
    -- the file of the batch's space
    own_file : (old : List Event) → HasStoreFiles blocks spaces old → HasFile (Space batch.space) (pages info.pages) old
    own_file old files = subst (λ (s : ℕ). HasFile (Space s) (pages info.pages) old) (space_id spaces batch.space info is) (file_of spaces batch.space info old is files.spaces_there)

    pub fits_space : (old : List Event) → HasStoreFiles blocks spaces old → FitsSpace batch info.pages old
    fits_space old files = record { file = own_file old files; within = inside }

    -- the writes of the homes
    homes_left : (k : ℕ) → k ≤ length batch.pages → HasStoreFiles blocks spaces es → HasStoreFiles blocks spaces (writes_of (Space batch.space) page_bytes (home_batch batch) k ++ es)
    homes_left zero le files = files
    homes_left (suc k) le files =
        let before = homes_left k (omega (arith, le)) files in
        let old : List Event = writes_of (Space batch.space) page_bytes (home_batch batch) k ++ es in
        let text : List ℕ = text_at batch k in
        let number : ℕ = page_number_of text in
        let long : length text ≡ 16384 = (texts k (omega (arith, le))).long in
        let ends : number * 16384 + 16384 ≤ info.pages * 16384 = place_ends (pages info.pages) number (inside k (omega (arith, le))) in
        record {
          log = record { there = before.log.there; size = before.log.size };
          double = record { there = before.double.there; size = before.double.size };
          spaces_there = λ i d lt.
              let here = before.spaces_there i d lt in
              record {
                there = here.there;
                size = length_by batch.space (slice_index_or spaces i d).space (number * 16384) (info.pages * 16384) text old (own_file old before).size (omega (arith, long, ends)) ∙ here.size;
              };
        }

    pub homes_files : HasStoreFiles blocks spaces es → HasStoreFiles blocks spaces (home_events batch ++ es)
    homes_files files =
        let left = homes_left (length batch.pages) (omega arith) files in
        record {
          log = record { there = left.log.there; size = left.log.size };
          double = record { there = left.double.there; size = left.double.size };
          spaces_there = λ i d lt. let here = left.spaces_there i d lt in record { there = here.there; size = here.size };
        }

-- ---- what a refusal leaves

pub on_err : {T X P : Type 0} (result : Result T X) → P → OnErr result P
on_err (Ok v) p = tt
on_err (Err e) p = p

-- a part of the homes, once the texts are stored
pub put_homed : {T X : Type 0} (batch : Texts) (old mid new : Past) (result : Result T X) → mid ≡ stored_past batch old → OnErr result (IsPart (Space batch.space) page_bytes (home_batch batch) (length batch.pages) mid new) → OnErr result (IsPutPart batch old new)
put_homed batch old mid new (Ok v) is part = tt
put_homed batch old mid new (Err e) is part = Homing (subst (λ (p : Past). IsPart (Space batch.space) page_bytes (home_batch batch) (length batch.pages) p new) is part)
