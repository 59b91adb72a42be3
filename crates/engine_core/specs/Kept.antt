-- What the images of a session's disk stand for, and what is known of the disk between two calls, for a store that the session began on.
use Rattle.std.specs.Prelude.{◌≡◌, ◌≢◌, ℕ, true, if◌then◌else◌, List, [], ◌∷◌, length, Option, Some, None}
use Rattle.crash_image.specs.Stands.{Lucky}
use Rattle.crash_image.specs.Writes.{Once}
use Rattle.disk_model.specs.Crash.{crash_image}
use Rattle.disk_model.specs.Event.{Event, record_of}
use Rattle.disk_model.specs.Past.{Past, At}
use Rattle.disk_model.specs.declared.calls.Choice.{Choice}
use Rattle.key_ring.specs.Ring.{RingEntry}
use Rattle.page_pool.specs.Pages.{PoolState, held_page, is_named}
use Rattle.page_pool.specs.declared.names.DirtyPage.{DirtyPage}
use Rattle.redo_log.specs.Log.{FitsRing}
use Rattle.ring_log.specs.Ring.{RingState}
use Rattle.session_core.specs.Dirty.{name_of_page}
use Rattle.session_core.specs.Session.{Running}
use Rattle.session_core.specs.Spaces.{space_with_id}
use Rattle.session_image.specs.Kept.{SessionStore, AllImagesSettled, BeginsRecord, BeginsSession, IsOfBook, IsRingNamed, SessionReady, SessionRecordReady, session_theory}
use Rattle.space_head.specs.declared.space.SpaceInfo.{SpaceInfo}
use Rattle.store_files.specs.Pages.{Head, Used, has_page, salts_of}
use Rattle.store_image.specs.Session.{Dirty, Session, now}
use Rattle.store_model.specs.declared.contents.PlainPage.{PlainPage}
use Rattle.engine_core.specs.Journal.{journal_of}

-- since when a page is dirty, and up to which LSN, if it is among these dirty pages
abbrev pub dirt_among : List DirtyPage → ℕ → ℕ → Option Dirty
dirt_among [] s p = None
dirt_among (d ∷ ds) s p = if is_named (name_of_page s p) d then Some (record { first = d.first; lsn = d.lsn }) else dirt_among ds s p

-- whatever a crash of a disk in memory keeps, loses or tears of what was written since the last syncs, its image is lucky
abbrev pub AreCrashesLucky : List Event → Type 0
AreCrashesLucky es = (choices : List Choice) → Lucky (crash_image choices es)

module _ (store : SessionStore) where
  -- ---- the first moment

  -- A disk that is at rest as this store, for a session with these keys, this active version, and a log that goes on with this number behind the checkpoint of this sequence; and in whose record of writes no number serves twice.
  pub record BeginsRecorded (ring : List RingEntry) (active next sequence : ℕ) (es : List Event) : Type 0 where
    pub begins : BeginsSession store ring active next sequence es
    pub record_is : BeginsRecord store next es begins.rests

  -- the session began over a disk that is at rest as this store
  abbrev pub BeginsAt : {D : Type 0} → Running D → List Event → Type 0
  BeginsAt first es = BeginsSession store first.ring first.active first.log.next first.log.sequence es

  -- and with such a record
  abbrev pub BeginsRecordAt : {D : Type 0} → Running D → List Event → Type 0
  BeginsRecordAt first es = BeginsRecorded first.ring first.active first.log.next first.log.sequence es

  -- ---- each moment

  -- The record of writes: no number of a block and no LSN of a page serves two texts, and whatever a lucky image recovers to agrees with what was written.
  pub record KeepsRecord (es : List Event) : Type 0 where
    pub once : Once store.header store.book (salts_of store.base) (record_of es)
    pub settled : AllImagesSettled store es

  -- ---- between two calls

  -- what the pool holds of a page from page 1 on is the page after the journal
  abbrev pub HoldsNow : Session (session_theory store) → PoolState → Type 0
  HoldsNow w pool =
      (s p : ℕ) (page : PlainPage) → p ≢ 0 → has_page store.header.spaces s p ≡ true → held_page (name_of_page s p) pool ≡ Some page → now (session_theory store) w s p ≡ Used page

  -- what is told of a space is what its page 0 says after the journal
  abbrev pub TellsHeads : Session (session_theory store) → List SpaceInfo → Type 0
  TellsHeads w spaces = (s : ℕ) (info : SpaceInfo) → has_page store.header.spaces s 0 ≡ true → space_with_id spaces s ≡ Some info → now (session_theory store) w s 0 ≡ Head info

  -- and its salt is that of the base contents
  abbrev pub HaveSalts : List SpaceInfo → Type 0
  HaveSalts spaces = (s : ℕ) (info : SpaceInfo) → has_page store.header.spaces s 0 ≡ true → space_with_id spaces s ≡ Some info → salts_of store.base s ≡ info.salt

  -- What is known of the disk of a session that is up: the session's journal, its numbers and its dirty pages are those of the places that its images are told by. Where `kept` holds, the record of writes is kept too.
  pub record IsReadySession {D : Type 0} (kept : Type 0) (r : Running D) (es : List Event) : Type 0 where
    pub header : r.store.header ≡ store.header
    pub of_book : IsOfBook r.ring store.book
    pub named : IsRingNamed r.ring store.named
    pub session : Session (session_theory store)
    pub ring : RingState
    pub ready : SessionReady store session ring es
    pub fits : FitsRing ring r.log
    pub start : session.start ≡ r.begins
    pub journal : session.journal ≡ journal_of r
    pub next : session.next ≡ r.log.next
    pub dirty : (s p : ℕ) → session.dirty s p ≡ dirt_among r.pool.dirty.entries s p
    pub whole : length r.pool.dirty.pages ≡ length r.pool.dirty.entries
    pub holds : HoldsNow session r.pool
    pub heads : TellsHeads session r.store.spaces
    pub salts : HaveSalts r.store.spaces
    pub recorded : kept → SessionRecordReady store session es
