-- What a running session keeps of its disk, over bytes and keys: at each moment, between two calls, and what its start needs.
use Rattle.std.specs.Prelude.{◌≡◌, ℕ, ◌+◌, ◌<◌, ◌≤◌, ◌||◌, ◌&&◌, Bool, true, nat_eq, if◌then◌else◌, List, [], ◌∷◌, Some, None, IsSome, Contains}
use Rattle.std.specs.List.{list_any}
use Rattle.disk_model.specs.Event.{Event, reads, record_of}
use Rattle.disk_model.specs.Image.{Image, IsImage}
use Rattle.disk_model.specs.declared.names.FileName.TheVariants.{Log, Double, Space}
use Rattle.key_ring.specs.Ring.{RingEntry, ring_key}
use Rattle.places.specs.Places.{place, AreWhole, HasPlaces}
use Rattle.places.specs.Batches.{IsFileSettled}
use Rattle.page_places.specs.Texts.{page_bytes, slot_size, slots, pages}
use Rattle.page_places.specs.Placed.{MayBePlaced}
use Rattle.page_places.specs.Views.{places_by}
use Rattle.ring_log.specs.Ring.{Form, RingState, ring_at_start, Ringed, RingReady, IsBound, IsRingJournal}
use Rattle.store_image.specs.LifeStages.{InSession, Failed}
use Rattle.store_image.specs.Places.{Places}
use Rattle.store_image.specs.Record.{IsAmongTexts, IsAmongBlocks}
use Rattle.store_image.specs.RecordKept.{IsLifeMoment}
use Rattle.store_image.specs.Recovers.{Theory}
use Rattle.store_image.specs.Session.{Session, Dirty, KeepsSession, IsLogOfSession, fresh}
use Rattle.store_image.specs.SessionPhases.{IsPutStored, Ready}
use Rattle.store_image.specs.View.{block_bytes, Logged, Text, Held, Holds, Zero, Bad}
use Rattle.redo_text.specs.declared.change.Change.{Change}
use Rattle.redo_text.specs.Reading.{block_version}
use Rattle.store_model.specs.declared.contents.SpaceContents.{SpaceContents}
use Rattle.store_files.specs.Header.{HeldHeader, HeldSpace, header_in}
use Rattle.store_files.specs.Pages.{Page, Unused, MeansPage, has_page, key_id_of, pages_of, salts_of, HaveSpaces}
use Rattle.crash_image.specs.LogForm.{log_form, log_places}
use Rattle.crash_image.specs.Recovers.{RunIsOfStore, Recovers}
use Rattle.crash_image.specs.Rest.{IsAtRest, read_image}
use Rattle.crash_image.specs.Stands.{Lucky, Named, Rotated, Stands}
use Rattle.crash_image.specs.StoreTheory.{store_theory}
use Rattle.crash_image.specs.Writes.{Once, Settled, written_items}

-- The store of a session: its header, the keys of every ring that is used with it in its life, the contents that the session began with, and the pairs of id and version that its images may need.
pub record SessionStore : Type 0 where
  pub header : HeldHeader
  pub book : List RingEntry
  pub base : List SpaceContents
  pub named : List (ℕ × ℕ)

-- how many pages a space of the header has; another space has none
abbrev pub page_count : List HeldSpace → ℕ → ℕ
page_count [] s = 0
page_count (x ∷ xs) s = if nat_eq x.space s then x.pages else page_count xs s

-- The book has each key of the ring, and as a ring none of version 0, which is that of a page in clear.
pub record IsOfBook (ring book : List RingEntry) : Type 0 where
  pub keys : (id version : ℕ) → IsSome (ring_key ring id version) → ring_key book id version ≡ ring_key ring id version
  pub clear : (id : ℕ) → ring_key book id 0 ≡ None

-- each key of the ring is among the named pairs
abbrev pub IsRingNamed : List RingEntry → List (ℕ × ℕ) → Type 0
IsRingNamed ring named = (id version : ℕ) → IsSome (ring_key ring id version) → Contains named (id, version)

-- the pair is named
abbrev pub is_pair_named : List (ℕ × ℕ) → ℕ → ℕ → Bool
is_pair_named named id version = list_any (λ p. nat_eq p.0 id && nat_eq p.1 version) named

-- a version of a space's pages whose key is named; version 0 is that of a page in clear
abbrev pub named_keys : List HeldSpace → List (ℕ × ℕ) → ℕ → ℕ → Bool
named_keys spaces named s version = nat_eq version 0 || is_pair_named named (key_id_of spaces s) version

-- the active version is named under id 1 and under the key id of each space
pub record IsActiveNamed (header : HeldHeader) (named : List (ℕ × ℕ)) (active : ℕ) : Type 0 where
  pub log : Contains named (1, active)
  pub spaces : (s : ℕ) → has_page header.spaces s 0 ≡ true → Contains named (key_id_of header.spaces s, active)

module _ (store : SessionStore) where
  abbrev pub session_theory : Theory
  session_theory = store_theory store.header store.book (salts_of store.base)

  abbrev pub session_form : Form (List Change)
  session_form = log_form store.header store.book

  -- what an image may hold, place by place, where the log is what the session knows
  abbrev pub session_places : Session session_theory → List Event → Places (List Change)
  session_places w es = places_by (IsLogOfSession session_theory w) es

  -- The files beside the log: each is there with its places, each write that is pending is one of a whole place, and no home has the text of another page.
  pub record SessionFiles (es : List Event) : Type 0 where
    pub double : HasPlaces Double slots es
    pub spaces : (s : ℕ) → has_page store.header.spaces s 0 ≡ true → HasPlaces (Space s) (pages (page_count store.header.spaces s)) es
    pub whole : (s : ℕ) → AreWhole (Space s) (pages (page_count store.header.spaces s)) es
    pub placed : (s p : ℕ) → has_page store.header.spaces s p ≡ true → MayBePlaced s p es

  -- What holds at each moment since the session began, also inside a call and after one that failed: the log is a ring whose blocks are those of the journal, and the places are kept so that each image stands for a beginning of the journal.
  pub record SessionMoment (w : Session session_theory) (r : RingState) (es : List Event) : Type 0 where
    pub base : w.base ≡ pages_of store.base
    pub keys : w.keys ≡ named_keys store.header.spaces store.named
    pub have : HaveSpaces store.header.spaces store.base
    pub header : header_in r.header ≡ Some store.header
    pub ringed : Ringed store.header.blocks session_form r es
    pub journal : IsRingJournal store.header.blocks session_form r w.start w.journal w.next
    pub settled : w.settled ≡ r.settled
    pub known : r.from ≤ w.newest
    pub newer : (f : ℕ) → r.newer ≡ Some f → f ≤ w.newest
    -- the key of each block is named, also of those that aren't written yet
    pub versions : (n : ℕ) → r.from ≤ n → n < w.next → Contains store.named (1, block_version (r.block n))
    pub of_store : RunIsOfStore store.header.spaces w.journal
    pub files : SessionFiles es
    pub keeps : KeepsSession session_theory w (session_places w es)

  -- What holds between two calls that were answered Ok: nothing is pending on the disk, and no slot is read from.
  pub record SessionReady (w : Session session_theory) (r : RingState) (es : List Event) : Type 0 where
    pub moment : SessionMoment w r es
    pub ring : RingReady store.header.blocks session_form r es
    pub ready : Ready session_theory w (session_places w es)
    pub double : IsFileSettled Double slot_size es
    pub spaces : (s : ℕ) → IsFileSettled (Space s) page_bytes es
    -- the numbers of the session and those of the ring are the same
    pub from : w.from ≡ r.from
    pub newest : w.newest ≡ r.from
    pub written : w.written ≡ r.written
    -- a mini-transaction of the journal begins at the first block that a dirty page needs, or the last one ends there
    pub firsts : (s p : ℕ) (d : Dirty) → has_page store.header.spaces s p ≡ true → w.dirty s p ≡ Some d → IsBound store.header.blocks session_form r.block w.start w.journal d.first

  -- What holds of a put between its slots and its homes: the texts are in their slots, synced, and the homes are as they were.
  pub record PutReady (w : Session session_theory) (r : RingState) (space : ℕ) (pages : List (ℕ × Text)) (es : List Event) : Type 0 where
    pub moment : SessionMoment w r es
    pub ring : RingReady store.header.blocks session_form r es
    pub stored : IsPutStored session_theory w (session_places w es) space pages
    pub double : IsFileSettled Double slot_size es
    pub spaces : (s : ℕ) → IsFileSettled (Space s) page_bytes es
    pub from : w.from ≡ r.from
    pub newest : w.newest ≡ r.from
    pub written : w.written ≡ r.written
    pub firsts : (s p : ℕ) (d : Dirty) → has_page store.header.spaces s p ≡ true → w.dirty s p ≡ Some d → IsBound store.header.blocks session_form r.block w.start w.journal d.first

  -- The record of writes at each moment: of the session's journal, and of what the places may hold.
  abbrev pub SessionRecord : Session session_theory → List Event → Type 0
  SessionRecord w es = IsLifeMoment session_theory store.header.blocks (Failed (InSession w)) (written_items (record_of es)) (session_places w es)

  -- and between two calls that were answered Ok
  abbrev pub SessionRecordReady : Session session_theory → List Event → Type 0
  SessionRecordReady w es = IsLifeMoment session_theory store.header.blocks (InSession w) (written_items (record_of es)) (session_places w es)

  -- what a page that isn't dirty is read from: the home's text is that of the page, or the home is zero bytes and the page unused
  abbrev pub IsHomeOf : ℕ → ℕ → Held → Page → Type 0
  IsHomeOf s p (Holds t) x = MeansPage store.header store.book (salts_of store.base) s p t x
  IsHomeOf s p Zero x = x ≡ Unused
  IsHomeOf s p Bad x = ⊥

  -- ---- the start

  -- What a session needs of its disk: it is at rest with the base contents, no page needs a key that was given up, the keys are the book's, and those that reading the disk needs are named.
  pub record BeginsSession (ring : List RingEntry) (active next sequence : ℕ) (es : List Event) : Type 0 where
    pub rests : IsAtRest es store.book store.base next
    pub header_is : rests.recovers.header ≡ store.header
    pub rotated : Rotated (read_image es) store.book rests.recovers.header rests.recovers.log store.base
    pub keyed : (id version : ℕ) → Named (read_image es) rests.recovers.header rests.recovers.log active id version → Contains store.named (id, version)
    pub of_book : IsOfBook ring store.book
    pub ring_named : IsRingNamed ring store.named
    pub newest : rests.recovers.by.reading.run.run.sequence ≡ sequence
    -- each file was written in whole places
    pub log : HasPlaces Log (log_places store.header.blocks) es
    pub files : SessionFiles es

  -- What it needs of the record of writes beside that, so that no number serves two texts.
  pub record BeginsRecord (next : ℕ) (es : List Event) (rests : IsAtRest es store.book store.base next) : Type 0 where
    pub once : Once rests.recovers.header store.book (salts_of store.base) (record_of es)
    pub settled : Settled (record_of es) (read_image es) rests.recovers.header store.book rests.recovers.log store.base
    -- no ring block was written under the next number or a later one
    pub unused : (n version : ℕ) (bytes : List ℕ) → IsAmongBlocks (written_items (record_of es)) n version bytes → n < next
    -- each page text was written for a page of the store
    pub there : (s p : ℕ) (t : Text) → IsAmongTexts (written_items (record_of es)) s p t → has_page store.header.spaces s p ≡ true

  -- the session as it begins
  abbrev pub begun : ℕ → Session session_theory
  begun next = fresh session_theory (pages_of store.base) next (named_keys store.header.spaces store.named)

  -- and its ring, on a disk that has this header and newest checkpoint
  abbrev pub begun_ring : ℕ → ℕ → List Event → RingState
  begun_ring next sequence es = ring_at_start (place block_bytes 0 (reads Log es)) sequence next (λ n. [])

  -- ---- what it promises

  -- Each lucky image of the moment stands for a beginning of the journal, under each active version that is named, and its run ends before this number.
  abbrev pub AllImagesStand : List (Logged (List Change)) → ℕ → List Event → Type 0
  AllImagesStand journal next es =
      (image : Image) → IsImage es image → Lucky image → (active : ℕ) → IsActiveNamed store.header store.named active
      → (s : Stands store.base journal image store.book store.named active) × (s.last + 1 ≤ next)

  -- Whatever a lucky image of the moment recovers to, it agrees with what was written.
  abbrev pub AllImagesSettled : List Event → Type 0
  AllImagesSettled es =
      (image : Image) → IsImage es image → Lucky image → (c : List SpaceContents) (last : ℕ) → (r : Recovers image store.book c last) → Settled (record_of es) image r.header store.book r.log c
