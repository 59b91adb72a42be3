-- What the steps find of a store that recovers as it reads is what it recovers by.
use Rattle.std.proofs.Common.{◌≡◌, ℕ, ◌+◌, ◌<◌, List, [], length, slice_index_or, Some, sym, ap, subst, ◌∙◌, arith}
use Rattle.std.proofs.lemmas.Option.{same_Some}
use Rattle.disk_model.specs.Event.{Event, reads}
use Rattle.disk_model.specs.declared.names.FileName.TheVariants.{Log}
use Rattle.doublewrite.specs.Restore.{space_at}
use Rattle.key_ring.specs.Ring.{RingEntry}
use Rattle.places.specs.Places.{place}
use Rattle.redo_log.specs.Blocks.{Keys, redo_form}
use Rattle.redo_text.specs.declared.change.Change.{Change}
use Rattle.ring_log.specs.Scans.{IsRingRun}
use Rattle.ring_log.proofs.ScanSteps.{run_of_log}
use Rattle.space_head.specs.declared.space.SpaceInfo.{SpaceInfo}
use Rattle.store_image.specs.Checkpoint.{HeldCheckpoint}
use Rattle.store_image.specs.Places.{LogView}
use Rattle.store_image.specs.Recovers.{later_by}
use Rattle.store_image.specs.View.{Logged, Text}
use Rattle.store_image.proofs.ChosenTexts.{chosen_one}
use Rattle.store_model.specs.declared.contents.SpaceContents.{SpaceContents}
use Rattle.store_files.specs.Header.{HeldHeader, HeldSpace}
use Rattle.store_files.specs.Pages.{Head, mtr_acts, pages_of}
use Rattle.store_files.specs.Run.{AreLogEntries, block_at}
use Rattle.store_files.proofs.HeaderBounds.{header_allowed, limits}
use Rattle.store_files.proofs.RunsOnce.{entries_one, newest_one}
use Rattle.page_places.specs.Views.{view}
use Rattle.crash_image.specs.Recovers.{Recovers}
use Rattle.crash_image.specs.Rest.{read_image}
use Rattle.crash_image.proofs.LogForms.{ring_log_is}
use Rattle.recovery.specs.Changes.{AreLastChanges, head_lsn}
use Rattle.recovery.specs.Files.{IsFormatted}
use Rattle.recovery.specs.Heads.{IsHeadInfo, info_in}
use Rattle.recovery.specs.Looking.{FoundChanges, FoundRun}
use Rattle.recovery.specs.Notes.{AreSpaceNotes, IsNoteOf, no_note}
use Rattle.recovery.specs.SpaceList.{held_at, no_held}
use Rattle.recovery.specs.declared.changes.RunChanges.{RunChanges}
use Rattle.recovery.specs.declared.notes.PageNote.{PageNote}
use Rattle.recovery.proofs.EntryHeads.{head_text}
use Rattle.recovery.proofs.KeySteps.{chosen_to, lsn_noted, pairs_nth}
use Rattle.recovery.proofs.PlaceSteps.{place_some}

module _ (es : List Event) (keys : List RingEntry) (c : List SpaceContents) (last : ℕ) (r : Recovers (read_image es) keys c last) where
  abbrev H : HeldHeader
  H = r.header

  abbrev L : LogView (List Change)
  L = r.log

  abbrev file : List ℕ
  file = reads Log es

  pub header_one : (h : HeldHeader) → IsFormatted h es → h ≡ H
  header_one h formatted = same_Some h H (sym formatted.is_header ∙ r.is_header)

  -- the run has the bounds of the one that was found
  pub run_one : (k : HeldCheckpoint) (n : ℕ) → FoundRun H k n es → (L.from ≡ k.from) × (L.end ≡ n + 1)
  run_one k n found =
      let c : HeldCheckpoint = record { sequence = r.by.reading.run.run.sequence; from = L.from } in
      let from : L.from ≡ k.from = ap (λ (x : HeldCheckpoint). x.from) (newest_one file c k r.by.reading.run.run.newest found.newest) in
      let ks : Keys = record { header = H; ring = keys } in
      let least = (limits H (header_allowed (place 4096 0 file) H r.is_header)).least in
      let log = ring_log_is H keys file (omega (arith, least)) L r.by.reading.run in
      let run : IsRingRun H.blocks (redo_form ks) (block_at H.blocks file) L.from (n + 1) = subst (λ (m : ℕ). IsRingRun H.blocks (redo_form ks) (block_at H.blocks file) m (n + 1)) (sym from) (found.run ks) in
      (from, sym (run_of_log H.blocks (redo_form ks) file L (n + 1) log run))

  module _ (active : ℕ) (k : HeldCheckpoint) (n : ℕ) (notes : List (List PageNote)) (heads : List SpaceInfo) (changes : RunChanges) (found : FoundChanges keys active H k n notes heads changes es) where
    abbrev bounds : (L.from ≡ k.from) × (L.end ≡ n + 1)
    bounds = run_one k n found.keyed.of_heads.pages.run

    -- and its mini-transactions are those whose changes were found
    pub entries_are : found.changes_of.run ≡ L.run
    entries_are =
        let own : AreLogEntries H keys file L.from found.changes_of.run L.end = subst (λ (m : ℕ). AreLogEntries H keys file m found.changes_of.run L.end) (sym bounds.0) (subst (λ (m : ℕ). AreLogEntries H keys file k.from found.changes_of.run m) (sym bounds.1) found.changes_of.entries) in
        (entries_one H keys file L.from found.changes_of.run L.run L.end L.end own r.by.reading.run.entries r.by.reading.run.run.longest r.by.reading.run.run.longest).0

    pub last_are : AreLastChanges L.run H.spaces changes.last
    last_are = subst (λ (run : List (Logged (List Change))). AreLastChanges run H.spaces changes.last) entries_are found.changes_of.last

    -- the spaces behind the run are those of the contents
    pub heads_are : (i : ℕ) → i < length H.spaces → Head (space_at changes.spaces i) ≡ pages_of c (held_at H.spaces i).space 0
    heads_are i lt =
        let h : HeldSpace = held_at H.spaces i in
        let s : ℕ = h.space in
        let own = head_text es keys c last r i lt in
        let noted : AreSpaceNotes es h (slice_index_or notes i []) = pairs_nth (AreSpaceNotes es) H.spaces notes i no_held [] found.keyed.of_heads.pages.notes_of lt in
        let some = place_some 0 H.spaces i (limits H (header_allowed (place 4096 0 file) H r.is_header)).order lt in
        let note : IsNoteOf s 0 (slice_index_or (slice_index_or notes i []) 0 no_note) es = noted.notes_of.each 0 (let long = noted.long in omega (arith, long, some)) in
        let lsn : head_lsn notes i ≡ own.text.lsn = lsn_noted es L s 0 (slice_index_or (slice_index_or notes i []) 0 no_note) note own.text own.chosen in
        let info : IsHeadInfo h (space_at heads i) es = pairs_nth (λ x y. IsHeadInfo x y es) H.spaces heads i no_held (space_at [] 0) found.keyed.of_heads.heads_of lt in
        let text : info.text ≡ own.text = same_Some info.text own.text (chosen_one (view L (read_image es)) s 0 (Some info.text) (Some own.text) (chosen_to es L s 0 (Some info.text) info.chosen) own.chosen) in
        let says : space_at heads i ≡ info_in h own.text.bytes = info.info_is ∙ ap (λ (t : Text). info_in h t.bytes) text in
        found.changes_of.heads.each i lt
        ∙ ap (λ (m : ℕ). later_by mtr_acts m found.changes_of.run s 0 (Head (space_at heads i))) lsn
        ∙ ap (λ (run : List (Logged (List Change))). later_by mtr_acts own.text.lsn run s 0 (Head (space_at heads i))) entries_are
        ∙ ap (λ (x : SpaceInfo). later_by mtr_acts own.text.lsn L.run s 0 (Head x)) says
        ∙ sym own.is
