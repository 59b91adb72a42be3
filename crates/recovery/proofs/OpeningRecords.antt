-- The record of writes at a moment of an opening: no number served two texts, and each lucky image agrees with it.
use Rattle.std.proofs.Common.{◌≡◌, ◌||◌, ℕ, true, false, true≢false, nat_eq, List, [], ◌∷◌, ◌++◌, Some, refl, sym, ap, subst, ◌∙◌, ⊎_elim, arith, eqb-true, Result, Ok, Err, OnOk, IsErrAnd}
use Rattle.std.proofs.lemmas.Bool.{and_parts, cases_Bool}
use Rattle.std.proofs.lemmas.Option.{same_Some}
use Rattle.disk_model.specs.Event.{Event, reads, record_of}
use Rattle.disk_model.specs.Image.{Image, IsImage}
use Rattle.disk_model.specs.Does.{Does}
use Rattle.disk_model.specs.Past.{At, Past, Throughout}
use Rattle.disk_model.specs.declared.names.FileName.TheVariants.{Log}
use Rattle.places.specs.Batches.{IsFileSettled}
use Rattle.places.specs.Places.{place}
use Rattle.places.proofs.LeftAlone.{may_left_alone, reads_left_alone, shown_left_alone, whole_left_alone}
use Rattle.places.proofs.NonePending.{image_as_read}
use Rattle.page_places.specs.Views.{view}
use Rattle.redo_text.specs.declared.change.Change.{Change}
use Rattle.store_image.specs.LifeStages.{Failed, IsLogAt}
use Rattle.store_image.specs.Places.{LogView, log_of}
use Rattle.store_image.specs.Recovers.{IsNamed, PageContents, Theory}
use Rattle.store_image.specs.View.{Logged, View}
use Rattle.store_image.proofs.LifeMoments.{moment_fails}
use Rattle.store_image.proofs.OpeningToRecord.{log_as_found}
use Rattle.store_model.specs.Fold.{space_of}
use Rattle.store_model.specs.declared.contents.SpaceContents.{SpaceContents}
use Rattle.store_files.specs.Header.{HeldHeader, HeldSpace, header_in}
use Rattle.store_files.specs.Pages.{change_names, has_page, mtr_names, pages_of, salts_of}
use Rattle.store_files.specs.Run.{IsLogOf}
use Rattle.store_files.proofs.RunsOnce.{log_one}
use Rattle.crash_image.specs.LogForm.{log_places}
use Rattle.crash_image.specs.Opened.{FilesOpened, IsOpenedAt, StoreOpened, opened_theory}
use Rattle.crash_image.specs.Recovers.{AreOfStore, HasHeader, IsOfStore, Recovers, RecoversBy, RunIsOfStore}
use Rattle.crash_image.specs.Stands.{Lucky, RecoversRotated}
use Rattle.crash_image.specs.Writes.{Settled, written_items}
use Rattle.crash_image.proofs.LivesOverBytes.{written_once, written_settled}
use Rattle.crash_image.proofs.RecoversOnce.{recovers_one}
use Rattle.session_image.proofs.StoreRuns.{run_behind}
use Rattle.recovery.specs.Changes.{page_named}
use Rattle.recovery.specs.Putting.{ImagesRecover, MayApplyGroups, opened_places}
use Rattle.recovery.specs.Recorded.{HasRecord, IsRecordMoment, KeepsOpeningRecord, opened_stage}
use Rattle.recovery.proofs.NotedChanges.{is_of_store, names_by}
use Rattle.recovery.proofs.PutGroups.{groups_recover}

-- ---- a page that the run names is one of the store

change_there : (hs : List HeldSpace) (c : Change) (s p : ℕ) → IsOfStore hs c → change_names c s p ≡ true → has_page hs s p ≡ true
change_there hs c s p of_store names =
    let parts = and_parts (nat_eq (space_of c) s) (nat_eq (page_named c) p) (sym (names_by c s p) ∙ names) in
    subst (λ (q : ℕ). has_page hs s q ≡ true) (eqb-true (page_named c) p parts.1) (subst (λ (z : ℕ). has_page hs z (page_named c) ≡ true) (eqb-true (space_of c) s parts.0) (is_of_store hs c of_store))

mtr_there : (hs : List HeldSpace) (cs : List Change) (s p : ℕ) → AreOfStore hs cs → mtr_names cs s p ≡ true → has_page hs s p ≡ true
mtr_there hs [] s p are names = absurd (true≢false (sym names))
mtr_there hs (c ∷ cs) s p are names = ⊎_elim
    (λ (yes : change_names c s p ≡ true). change_there hs c s p are.0 yes)
    (λ (no : change_names c s p ≡ false). mtr_there hs cs s p are.1 (subst (λ b. (b || mtr_names cs s p) ≡ true) no names))
    (cases_Bool (change_names c s p))

module _ (o : StoreOpened) (last : ℕ) (s : List Event) (opened : IsOpenedAt o last s) where
  abbrev T : Theory
  T = opened_theory o

  abbrev v : View (List Change)
  v = o.view

  abbrev N : ℕ
  N = o.header.blocks

  pub named_there : (z p lsn : ℕ) → IsNamed T v.run z p lsn → has_page o.header.spaces z p ≡ true
  named_there z p lsn named =
      let rest : RunIsOfStore o.header.spaces (named.entry ∷ named.behind) = run_behind o.header.spaces named.before (named.entry ∷ named.behind) (subst (RunIsOfStore o.header.spaces) named.is opened.reading.of_store) in
      mtr_there o.header.spaces named.entry.mtr z p rest.0 named.named

  -- ---- each lucky image agrees

  module _ (m : List Event) (files : FilesOpened o s m) (recover : ImagesRecover o last m) (moment : IsRecordMoment o m) where
    log_settled : IsFileSettled Log 4096 m
    log_settled i x may = opened.log_settled i x (may_left_alone Log 4096 i s m x files.log may) ∙ ap (λ (l : List ℕ). Some l) (sym (shown_left_alone Log 4096 i s m files.log))

    log_file : (image : Image) → IsImage m image → reads Log s ≡ image.bytes Log
    log_file image is = sym
        (image_as_read Log (log_places N) m (omega arith) (whole_left_alone Log (log_places N) s m files.log opened.log_whole) log_settled (image.bytes Log) (image.torn Log) (is.left Log)
        ∙ reads_left_alone Log s m files.log)

    agrees : (image : Image) → IsImage m image → Lucky image → (c : List SpaceContents) (end : ℕ) → (r : Recovers image o.keys c end) → Settled (record_of m) image r.header o.keys r.log c
    agrees image is lucky c end r =
        let file = log_file image is in
        let header : HasHeader image o.header = subst (λ (bytes : List ℕ). header_in (place 4096 0 bytes) ≡ Some o.header) file opened.is_header in
        let run : IsLogOf o.header o.keys (image.bytes Log) (log_of v) = subst (λ (bytes : List ℕ). IsLogOf o.header o.keys bytes (log_of v)) file opened.reading.run in
        let header_one : r.header ≡ o.header = same_Some r.header o.header (sym r.is_header ∙ header) in
        let by_header : RecoversBy image o.keys o.header r.log c = subst (λ (h : HeldHeader). RecoversBy image o.keys h r.log c) header_one r.by in
        let log_is_one : r.log ≡ log_of v = log_one o.header o.keys (image.bytes Log) r.log (log_of v) by_header.reading.run run in
        let both : RecoversRotated image o.keys o.contents last = recover image is lucky in
        let contents_one : o.contents ≡ c = (recovers_one image o.keys o.contents c last end both.recovers r).0 in
        let settled : Settled (record_of m) image o.header o.keys (log_of v) o.contents =
        written_settled o.header o.keys (salts_of o.contents) (λ l. l ≡ log_of v) m (Failed (opened_stage o)) moment (λ z. 0) files.files.double_whole (λ z. files.files.spaces_whole z 0) image is lucky (log_of v) refl o.contents refl
        (log_as_found T v (pages_of o.contents) o.active N (view (log_of v) image) refl) in
        subst (λ (d : List SpaceContents). Settled (record_of m) image r.header o.keys r.log d) contents_one
        (subst (λ (l : LogView (List Change)). Settled (record_of m) image r.header o.keys l o.contents) (sym log_is_one)
        (subst (λ (h : HeldHeader). Settled (record_of m) image h o.keys (log_of v) o.contents) (sym header_one) settled))

    pub keeps_record : KeepsOpeningRecord o m
    keeps_record = record {
      moment = moment;
      once = written_once o.header o.keys (salts_of o.contents) (λ l. l ≡ log_of v) m (Failed (opened_stage o)) moment;
      settled = agrees;
    }

  -- A stretch while groups are applied.
  pub applying_recorded : {U X : Type 0} {E : Event → Type 0} {R : List Event → Type 0} {old new : Past} (result : Result U X) → Does (MayApplyGroups o s) E R old new result → Throughout (IsRecordMoment o) old new → OnOk result (At (HasRecord o) new)
      → Does (KeepsOpeningRecord o) E (HasRecord o) old new result
  applying_recorded result does moments next = record {
    moments = record { later = does.moments.later; each = λ m from to. let may = does.moments.each m from to in keeps_record m may.files (groups_recover o last s opened m may) (moments.each m from to) };
    adds = does.adds;
    next = next;
  }

-- between two calls it is that of a moment
pub record_moment : (o : StoreOpened) (m : List Event) → HasRecord o m → IsRecordMoment o m
record_moment o m kept = moment_fails (opened_theory o) o.header.blocks (written_items (record_of m)) (opened_places o m) (opened_stage o) kept

pub none_at_error : {U X : Type 0} (Z : Type 0) (result : Result U X) (S : X → Type 0) → IsErrAnd result S → OnOk result Z
none_at_error Z (Ok x) S is = absurd is
none_at_error Z (Err y) S is = tt
