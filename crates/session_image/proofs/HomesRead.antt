-- A page that isn't dirty is what its home says, and a key of the ring is that of the book.
use Rattle.std.proofs.Common.{◌≡◌, ℕ, true, List, Option, None, sym, ap, subst, ◌∙◌, arith}
use Rattle.std.specs.Prelude.{IfSome, IsSome, option_map}
use Rattle.aes_core.specs.Cipher.{encrypted}
use Rattle.disk_model.specs.Event.{Event, marks}
use Rattle.disk_model.specs.declared.names.FileName.TheVariants.{Space}
use Rattle.key_ring.specs.Local.{local_key}
use Rattle.key_ring.specs.Ring.{RingEntry, ring_key}
use Rattle.places.specs.Places.{shown}
use Rattle.page_places.specs.Texts.{held, page_bytes}
use Rattle.ring_log.specs.Ring.{RingState}
use Rattle.store_image.specs.Journal.{IsUpTo}
use Rattle.store_image.specs.Recovers.{Theory}
use Rattle.store_image.specs.Session.{Session, now}
use Rattle.store_image.specs.SessionPhases.{HomeRests, PageFits}
use Rattle.store_image.specs.View.{Held, Holds, Zero, Bad, Text}
use Rattle.store_image.proofs.Journals.{until_below, until_last}
use Rattle.page_text.specs.Text.{IsText}
use Rattle.page_text.specs.declared.key.PageKey.{PageKey}
use Rattle.store_files.specs.Header.{HeldHeader}
use Rattle.store_files.specs.Pages.{Page, Head, Unused, Used, MeansPage, HasKeyBytes, has_page, key_at, key_id_of}
use Rattle.session_image.specs.Kept.{SessionStore, session_theory, SessionReady, IsHomeOf, IsOfBook}

module _ (store : SessionStore) where
  abbrev T : Theory
  T = session_theory store

  module _ (w : Session T) (r : RingState) (es : List Event) (ready : SessionReady store w r es) (s p : ℕ) where
    -- what is known of a page that isn't dirty
    last : (lsn : ℕ) → w.dirty s p ≡ None → PageFits T w s p lsn (w.dirty s p) → IsUpTo T w.journal s p lsn
    last lsn clean fits = subst (PageFits T w s p lsn) clean fits

    by_home : (h : Held) → w.dirty s p ≡ None → HomeRests T w (marks es) s p h → IsHomeOf store s p h (now T w s p)
    by_home (Holds t) clean (good, fits) = subst (T.Means s p t) (until_last T t.lsn w.journal s p (w.base s p) (last t.lsn clean fits)) good.means
    by_home Zero clean (unused, fits) =
        sym (until_last T 0 w.journal s p (w.base s p) (last 0 clean fits)) ∙ until_below T w.start w.next 0 w.journal s p (w.base s p) ready.ready.ground.journal (omega arith) ∙ unused.base
    by_home Bad clean none = absurd none

    -- The home of a page that isn't dirty holds the page after the journal.
    pub session_page : has_page store.header.spaces s p ≡ true → w.dirty s p ≡ None → IsHomeOf store s p (held p (shown (Space s) 16384 p es)) (now T w s p)
    session_page there clean = by_home (held p (shown (Space s) 16384 p es)) clean (ready.ready.pages s p there)

-- ---- keys of a ring, and those of its book

-- A local key under a ring is that under a book that has the ring's keys.
pub local_of_book : (ring book : List RingEntry) → IsOfBook ring book → (id version : ℕ) (salt : List ℕ) → IsSome (ring_key ring id version) → local_key book id version salt ≡ local_key ring id version salt
local_of_book ring book of_book id version salt there = ap (λ (found : Option (List ℕ)). option_map (λ key. encrypted key salt) found) (of_book.keys id version there)

-- so is the key of a page
pub page_key_of_book : (header : HeldHeader) (salts : ℕ → List ℕ) (ring book : List RingEntry) → IsOfBook ring book → (s version : ℕ) → IsSome (ring_key ring (key_id_of header.spaces s) version) → key_at header book salts s version ≡ key_at header ring salts s version
page_key_of_book header salts ring book of_book s version there =
    ap (λ (local : Option (List ℕ)). option_map (λ l. record { local = l; algorithm = header.algorithm }) local) (local_of_book ring book of_book (key_id_of header.spaces s) version (salts s) there)

-- and a page in clear has none under either
pub clear_key_of_book : (header : HeldHeader) (salts : ℕ → List ℕ) (ring book : List RingEntry) → IsOfBook ring book → (s : ℕ) → ring_key ring (key_id_of header.spaces s) 0 ≡ None → key_at header book salts s 0 ≡ key_at header ring salts s 0
clear_key_of_book header salts ring book of_book s none =
    ap (λ (found : Option (List ℕ)). option_map (λ l. record { local = l; algorithm = header.algorithm }) (option_map (λ key. encrypted key (salts s)) found)) (of_book.clear (key_id_of header.spaces s) ∙ sym none)

-- A text that is a page's under a ring is the page's under the book, where the key of its version is the same.
pub means_of_book : (header : HeldHeader) (salts : ℕ → List ℕ) (ring book : List RingEntry) (s p : ℕ) (t : Text) (x : Page) → key_at header book salts s t.version ≡ key_at header ring salts s t.version → MeansPage header ring salts s p t x → MeansPage header book salts s p t x
means_of_book header salts ring book s p t (Head info) same means = means
means_of_book header salts ring book s p t Unused same means = means
means_of_book header salts ring book s p t (Used page) same (other, key, text) =
    (other, subst (λ (k : Option PageKey). IfSome k HasKeyBytes) (sym same) key, subst (λ (k : Option PageKey). IsText page_bytes s p t.lsn t.version k (record { kind = page.kind; bytes = page.body }) t.bytes) (sym same) text)
