-- A disk as an opening comes to it: a store with nothing in the way of opening it, and what an opening begins with.
use Rattle.std.specs.Prelude.{◌≡◌, ℕ, ◌+◌, ◌<◌, ◌≤◌, ◌^◌, true, List, length}
use Rattle.disk_model.specs.Event.{Event, is_there}
use Rattle.disk_model.specs.declared.names.FileName.{FileName}
use Rattle.doublewrite.specs.Restore.{space_at}
use Rattle.key_ring.specs.Ring.{RingEntry}
use Rattle.page_places.specs.Views.{view}
use Rattle.places.specs.Places.{HaveBytes}
use Rattle.redo_text.specs.declared.change.Change.{Change}
use Rattle.store_files.specs.Pages.{Head, pages_of, salts_of}
use Rattle.store_form.specs.Said.{header_said}
use Rattle.store_image.specs.Opening.{IsVersionAllowed}
use Rattle.store_image.specs.View.{Logged}
use Rattle.store_model.specs.declared.contents.SpaceContents.{SpaceContents}
use Rattle.crash_image.specs.Opened.{IsOpenedAt, StoreOpened}
use Rattle.crash_image.specs.Recovers.{Recovers}
use Rattle.crash_image.specs.Rest.{HasNonePending, read_image}
use Rattle.crash_image.specs.Stands.{RecoversRotated}
use Rattle.crash_image.specs.StoreTheory.{store_theory}
use Rattle.recovery.specs.Changes.{AreLastChanges}
use Rattle.recovery.specs.Files.{store_files_of}
use Rattle.recovery.specs.Keys.{AreThere, NamedAt}
use Rattle.recovery.specs.SpaceList.{held_at}
use Rattle.recovery.specs.Walks.{AllHave}
use Rattle.recovery.specs.declared.looking.Analysis.{Analysis}

-- The disk recovers as it reads to these contents, and nothing is in the way of opening it: its files are there, the ring has each key that reading it needs, the active version isn't below a floor, and numbers are left.
pub record MayOpen (keys : List RingEntry) (active : ℕ) (c : List SpaceContents) (last : ℕ) (es : List Event) : Type 0 where
  pub recovers : Recovers (read_image es) keys c last
  pub there : AllHave (λ file. is_there file.name es ≡ true) (store_files_of recovers.header)
  pub keyed : AreThere keys (NamedAt recovers.header recovers.log active es)
  pub allowed : IsVersionAllowed (store_theory recovers.header keys (salts_of c)) active (pages_of c)
  pub numbers : last + 1 + recovers.header.blocks ≤ 2 ^ 35

-- The disk recovers as it reads to these contents, no page of a space that was reported at a version needs an older key, and no write is pending, nor was one of no bytes.
pub record IsSettledStore (keys : List RingEntry) (c : List SpaceContents) (last : ℕ) (es : List Event) : Type 0 where
  pub store : RecoversRotated (read_image es) keys c last
  pub settled : HasNonePending es
  pub some : (file : FileName) → HaveBytes file es

-- what is opened: the store that was found, with this run
abbrev pub opened_as : Analysis → List RingEntry → ℕ → List SpaceContents → List (Logged (List Change)) → List Event → StoreOpened
opened_as found keys active c run es = record {
  header = header_said found.header;
  keys = keys;
  view = view (record { from = found.checkpoint.from; end = found.run.last + 1; run = run }) (read_image es);
  contents = c;
  active = active;
}

-- An opening begins with it: what was found of last changes is that of its run, and the spaces behind the run are those of the contents.
pub record BeginsWith (keys : List RingEntry) (active : ℕ) (found : Analysis) (c : List SpaceContents) (es : List Event) : Type 0 where
  pub run : List (Logged (List Change))
  pub opened : IsOpenedAt (opened_as found keys active c run es) found.run.last es
  pub last : AreLastChanges run (header_said found.header).spaces found.changes.last
  pub heads : (i : ℕ) → i < length (header_said found.header).spaces → Head (space_at found.changes.spaces i) ≡ pages_of c (held_at (header_said found.header).spaces i).space 0
