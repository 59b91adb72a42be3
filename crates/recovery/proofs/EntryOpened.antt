-- What was found of a store that recovers as it reads, with nothing pending, is what an opening begins with.
use Rattle.std.proofs.Common.{◌≡◌, ℕ, zero, suc, ◌+◌, ◌<◌, ◌≤◌, List, [], ◌∷◌, length, slice_index_or, refl, sym, subst, arith}
use Rattle.disk_model.specs.Event.{Event}
use Rattle.disk_model.specs.Past.{Past, At}
use Rattle.disk_model.specs.declared.names.FileName.{FileName}
use Rattle.doublewrite.specs.Restore.{no_space, space_at}
use Rattle.key_ring.specs.Ring.{RingEntry}
use Rattle.places.specs.Places.{IsUnwritten}
use Rattle.redo_text.specs.declared.change.Change.{Change}
use Rattle.space_head.specs.declared.space.SpaceInfo.{SpaceInfo}
use Rattle.store_image.specs.Checkpoint.{HeldCheckpoint}
use Rattle.store_image.specs.Opening.{IsVersionAllowed}
use Rattle.store_image.specs.Places.{LogView}
use Rattle.store_model.specs.declared.contents.SpaceContents.{SpaceContents}
use Rattle.store_files.specs.Header.{HeldHeader}
use Rattle.store_files.specs.Pages.{Head, Page, floor_of, pages_of, salts_of}
use Rattle.store_form.specs.Said.{header_said}
use Rattle.crash_image.specs.Opened.{IsOpenedAt}
use Rattle.crash_image.specs.Recovers.{Recovers, RecoversBy}
use Rattle.crash_image.specs.Rest.{read_image}
use Rattle.crash_image.specs.Stands.{Rotated}
use Rattle.crash_image.specs.StoreTheory.{store_theory}
use Rattle.crash_image.proofs.LivesOverBytes.{none_written}
use Rattle.crash_image.proofs.OpeningsOverBytes.{opened_by}
use Rattle.recovery.specs.Changes.{AreLastChanges}
use Rattle.recovery.specs.Entry.{BeginsWith, IsSettledStore, opened_as}
use Rattle.recovery.specs.Heads.{IsInfoFor}
use Rattle.recovery.specs.Looking.{FitsTogether, FoundChanges, IsAnalysis}
use Rattle.recovery.specs.SpaceList.{held_at}
use Rattle.recovery.specs.Stages.{checkpoint_said}
use Rattle.recovery.specs.Walks.{AllHave}
use Rattle.recovery.specs.declared.looking.Analysis.{Analysis}
use Rattle.recovery.proofs.EntryFound.{header_one, heads_are, last_are, run_one}
use Rattle.recovery.proofs.KeySteps.{pairs_long}
use Rattle.recovery.proofs.PlaceSteps.{place_found}

all_nth : {A : Type 0} (R : A → Type 0) (xs : List A) (d : A) (i : ℕ) → AllHave R xs → i < length xs → R (slice_index_or xs i d)
all_nth R [] d i all lt = absurd (omega (arith, lt))
all_nth R (x ∷ xs) d zero all lt = all.0
all_nth R (x ∷ xs) d (suc i) all lt = all_nth R xs d i all.1 (omega (arith, lt))

module _ (es : List Event) (keys : List RingEntry) (c : List SpaceContents) (last : ℕ) (store : IsSettledStore keys c last es) (active : ℕ) (found : Analysis) (is : IsAnalysis keys active found es) (fits : FitsTogether active found) where
  abbrev r : Recovers (read_image es) keys c last
  r = store.store.recovers

  abbrev L : LogView (List Change)
  L = r.log

  abbrev h : HeldHeader
  h = header_said found.header

  abbrev k : HeldCheckpoint
  k = checkpoint_said found.checkpoint

  abbrev n : ℕ
  n = found.run.last

  same : h ≡ r.header
  same = header_one es keys c last r h is.changes.keyed.of_heads.pages.run.files.formatted

  changes : FoundChanges keys active r.header k n found.notes is.heads found.changes es
  changes = subst (λ (x : HeldHeader). FoundChanges keys active x k n found.notes is.heads found.changes es) same is.changes

  bounds : (L.from ≡ k.from) × (L.end ≡ n + 1)
  bounds = run_one es keys c last r k n changes.keyed.of_heads.pages.run

  abbrev log : LogView (List Change)
  log = record { from = k.from; end = n + 1; run = L.run }

  log_same : L ≡ log
  log_same i = record { from = bounds.0 i; end = bounds.1 i; run = L.run }

  by : RecoversBy (read_image es) keys h log c
  by = subst (λ (x : HeldHeader). RecoversBy (read_image es) keys x log c) (sym same) (subst (λ (l : LogView (List Change)). RecoversBy (read_image es) keys r.header l c) log_same r.by)

  rotated : Rotated (read_image es) keys h log c
  rotated = subst (λ (x : HeldHeader). Rotated (read_image es) keys x log c) (sym same) (subst (λ (l : LogView (List Change)). Rotated (read_image es) keys r.header l c) log_same store.store.rotated)

  abbrev again : Recovers (read_image es) keys c n
  again = record { header = h; is_header = is.changes.keyed.of_heads.pages.run.files.formatted.is_header; log = log; is_last = refl; by = by }

  heads : (i : ℕ) → i < length h.spaces → Head (space_at found.changes.spaces i) ≡ pages_of c (held_at h.spaces i).space 0
  heads = subst (λ (x : HeldHeader). (i : ℕ) → i < length x.spaces → Head (space_at found.changes.spaces i) ≡ pages_of c (held_at x.spaces i).space 0) (sym same) (heads_are es keys c last r active k n found.notes is.heads found.changes changes)

  allowed : IsVersionAllowed (store_theory h keys (salts_of c)) active (pages_of c)
  allowed z has =
      let place = place_found h.spaces z 0 has in
      let i = place.0 in
      let at = place.1 in
      let below = at.below in
      let long = pairs_long IsInfoFor h.spaces found.changes.spaces fits.infos in
      let low : (space_at found.changes.spaces i).floor ≤ active = all_nth (λ (info : SpaceInfo). info.floor ≤ active) found.changes.spaces no_space i fits.floors (omega (arith, long, below)) in
      subst (λ (s : ℕ). floor_of (pages_of c s 0) ≤ active) at.space (subst (λ (x : Page). floor_of x ≤ active) (heads i below) low)

  unwritten : (file : FileName) → IsUnwritten file es
  unwritten file = none_written es store.settled file (store.some file)

  opened : IsOpenedAt (opened_as found keys active c L.run es) n es
  opened = opened_by es keys c n active again unwritten rotated allowed

  pub begins_with : BeginsWith keys active found c es
  begins_with = record {
    run = L.run;
    opened = opened;
    last = subst (λ (x : HeldHeader). AreLastChanges L.run x.spaces found.changes.last) (sym same) (last_are es keys c last r active k n found.notes is.heads found.changes changes);
    heads = heads;
  }

-- So what looking at a store found is what an opening begins with, at each moment of which that is told.
pub begins_of : (keys : List RingEntry) (active : ℕ) (past : Past) (found : Analysis) → At (IsAnalysis keys active found) past → FitsTogether active found → At (λ es. (c : List SpaceContents) (last : ℕ) → IsSettledStore keys c last es → BeginsWith keys active found c es) past
begins_of keys active past found is fits = record { here = λ es now c last store. begins_with es keys c last store active found (is.here es now) fits }
