-- The checkpoint of an opening, by the law of ring_log.
use Rattle.std.proofs.Common.{◌≡◌, ℕ, ◌+◌, ◌^◌, ◌<◌, ◌≤◌, List, Some, sym, subst, ◌∙◌, arith}
use Rattle.disk_model.specs.Event.{Event}
use Rattle.ring_log.specs.Opening.{IsFound}
use Rattle.ring_log.specs.Ring.{Form, RingReady, ring_at_start}
use Rattle.disk_model.specs.declared.names.FileName.TheVariants.{Log as LogFile}
use Rattle.places.specs.Places.{shown}
use Rattle.places.proofs.Left.{image_size}
use Rattle.store_image.specs.View.{block_bytes}
use Rattle.ring_log.proofs.OpeningChecks.{opening_others, opening_writing, opening_moved, opening_ready, shown_others}
use Rattle.store_image.specs.Checkpoint.{side_of}
use Rattle.store_image.specs.Places.{LogView}
use Rattle.store_files.specs.Checkpoint.{checkpoint_in}
use Rattle.redo_text.specs.declared.change.Change.{Change}
use Rattle.redo_log.specs.Blocks.{Keys, redo_form}
use Rattle.redo_log.specs.Check.{check_bytes}
use Rattle.redo_log.specs.Events.{CheckWriting, CheckSettled}
use Rattle.redo_log.specs.Opening.{HasHeaderBlock, IsOpening, IsOpenedLog}
use Rattle.redo_log.proofs.CheckLaws.{made_check}
use Rattle.redo_log.proofs.FormLaws.{form_laws}
use Rattle.crash_image.specs.LogForm.{log_places}

module _ (keys : Keys) (N sequence end : ℕ) (found : LogView (List Change)) (is : found.end ≡ end) (least : 32 ≤ N) (order : sequence < end) (high : end + N ≤ 2 ^ 50) (s m : List Event) (at : IsFound N (redo_form keys) sequence found s) where
  abbrev F : Form (List Change)
  F = redo_form keys

  abbrev bytes : ℕ → List ℕ
  bytes e = check_bytes (sequence + 1) (e + N)

  check_is : checkpoint_in (side_of (sequence + 1)) (bytes found.end) ≡ Some (record { sequence = sequence + 1; from = found.end + N })
  check_is = made_check (sequence + 1) (found.end + N) (omega arith) (omega (arith, is, order, least)) (omega (arith, is, high))

  module _ (header : List ℕ) (head : HasHeaderBlock header s) where
    pub to_opening : CheckWriting N (sequence + 1) (end + N) s m → IsOpening N F header found m
    to_opening w test same image lives lucky =
        let some : 0 < N = omega (arith, least) in
        let here = subst (λ (e : ℕ). CheckWriting N (sequence + 1) (e + N) s m) (sym is) w in
        let log = opening_writing N F (form_laws keys) some sequence found (bytes found.end) check_is s m at here test same image lives lucky in
        record {
          size = image_size LogFile (log_places N) m w.places (image.bytes LogFile) (image.torn LogFile) (lives.left LogFile);
          header_is = opening_others N F (form_laws keys) some sequence found (bytes found.end) check_is s m at here test same image lives lucky 0 (λ e. omega (arith, e)) ∙ head;
          log = log.0;
          clear = log.1;
        }

    pub to_opened : CheckSettled N (sequence + 1) (end + N) s m → IsOpenedLog N F sequence header found m
    to_opened t =
        let some : 0 < N = omega (arith, least) in
        let here = subst (λ (e : ℕ). CheckSettled N (sequence + 1) (e + N) s m) (sym is) t in
        let block0 : shown LogFile block_bytes 0 m ≡ header = shown_others N F (form_laws keys) some sequence found (bytes found.end) check_is s m at here 0 (λ e. omega (arith, e)) ∙ head in
        record {
          size = t.wrote.writing.places.size;
          header_is = block0;
          log = opening_moved N F (form_laws keys) some sequence found (bytes found.end) check_is s m at here;
          ready = λ block. subst (λ (b : List ℕ). RingReady N F (ring_at_start b (sequence + 1) (found.end + N) block) m) block0 (opening_ready N F (form_laws keys) some sequence found (bytes found.end) check_is s m at here block);
        }
