-- A mini-transaction is committed: its blocks are pending, and the journal has an entry more. No event happens on the disk.
use Rattle.std.proofs.Common.{◌≡◌, ℕ, suc, zero, ◌+◌, ◌-◌, ◌<◌, ◌≤◌, ⊎_elim, Bool, true, false, nat_eq, ◌&&◌, if◌then◌else◌, List, [], ◌∷◌, ◌++◌, Option, Some, None, refl, sym, ap, subst, ◌∙◌, arith}
use Rattle.std.specs.Prelude.{Contains, option_map}
use Rattle.std.proofs.lemmas.Bool.{cases_lt, cases_Bool}
use Rattle.std.proofs.lemmas.Bool.Decides.{nat_tests}
use Rattle.std.proofs.lemmas.Option.{none-some, same_Some}
use Rattle.aes_core.specs.Cipher.{encrypted}
use Rattle.disk_model.specs.Event.{Event, record_of}
use Rattle.key_ring.specs.Local.{local_key}
use Rattle.key_ring.specs.Ring.{ring_key}
use Rattle.page_places.proofs.Sums.{and_right}
use Rattle.redo_log.specs.State.{LogState}
use Rattle.redo_log.specs.Append.{appended, logged_entry, with_pending, HasPending, IsEntry, JournalGrows}
use Rattle.redo_log.specs.Blocks.{Keys, IsStoreKey, redo_form}
use Rattle.redo_log.specs.Log.{pending_at, pending_count, FitsRing}
use Rattle.redo_log.proofs.AppendSteps.{place_front}
use Rattle.redo_log.proofs.PendingSteps.{pending_front, pending_back}
use Rattle.redo_text.specs.Block.{block_count, blocks}
use Rattle.redo_text.specs.Reading.{block_version}
use Rattle.redo_text.specs.Text.{text_of}
use Rattle.redo_text.specs.declared.change.Change.{Change}
use Rattle.redo_text.specs.declared.key.RedoKey.{RedoKey}
use Rattle.ring_log.specs.Ring.{Form, RingState, RingReady, IsRingJournal, IsBound, IsRingState, AreWholeEntries, listed_blocks}
use Rattle.ring_log.proofs.Entries.{behind_bound, number_up}
use Rattle.ring_log.proofs.Journals.{bound_end, bound_more}
use Rattle.store_files.specs.Pages.{has_page}
use Rattle.store_image.specs.LifeStages.{InSession}
use Rattle.store_image.specs.Recovers.{Theory}
use Rattle.store_image.specs.Session.{Session, Dirty, IsLogOfSession, committed}
use Rattle.store_image.specs.SessionPhases.{Ready, IsCommit, first_of}
use Rattle.store_image.specs.View.{Logged}
use Rattle.store_image.proofs.LifeMoments.{moment_commits, moment_may_log}
use Rattle.store_image.proofs.SessionCalls.{ready_log}
use Rattle.store_image.proofs.SessionCommits.{ready_commit}
use Rattle.store_image.proofs.SessionPuts.{ready_keeps}
use Rattle.store_image.proofs.SessionToRecord.{commit_next}
use Rattle.crash_image.specs.LogForm.{AreTexts}
use Rattle.crash_image.specs.Recovers.{AreOfStore}
use Rattle.crash_image.specs.Writes.{written_items}
use Rattle.session_image.specs.Kept.{SessionStore, session_theory, session_form, session_places, SessionReady, SessionRecordReady}
use Rattle.session_image.proofs.StoreRuns.{run_push}

-- ---- the version that the blocks of a mini-transaction name

-- a ring with one key has no other version of its id
one_version : (version other : ℕ) (key : List ℕ) (salt local : List ℕ) → local_key (((1, version), key) ∷ []) 1 other salt ≡ Some local → other ≡ version
one_version version other key salt local is = by (nat_eq 1 1 && nat_eq version other) refl is
  where
    by : (b : Bool) → (nat_eq 1 1 && nat_eq version other) ≡ b → option_map (λ k. encrypted k salt) (if b then Some key else None) ≡ Some local → other ≡ version
    by true same is = let e : nat_eq version other ≡ true = and_right (nat_eq 1 1) _ same in grind (arith, nat_tests)
    by false same is = absurd (none-some local is)

own_version : (version : ℕ) (key : List ℕ) (salt : List ℕ) → local_key (((1, version), key) ∷ []) 1 version salt ≡ Some (encrypted key salt)
own_version version key salt =
    let one : (nat_eq 1 1 && nat_eq version version) ≡ true = ap (λ (b : Bool). b && nat_eq version version) first ∙ second in
    ap (λ (b : Bool). option_map (λ k. encrypted k salt) (if b then Some key else None)) one
  where
    first : nat_eq 1 1 ≡ true
    first = grind (arith, nat_tests)

    second : nat_eq version version ≡ true
    second = grind (arith, nat_tests)

module _ (keys : Keys) (version : ℕ) (key : List ℕ) where
  -- the same store with one key
  abbrev alone : Keys
  alone = record { header = keys.header; ring = ((1, version), key) ∷ [] }

  texts_version : (N : ℕ) (block : ℕ → List ℕ) (n k : ℕ) (text : List ℕ) → AreTexts alone.header alone.ring (listed_blocks N (redo_form alone) block n k) text → (m : ℕ) → n ≤ m → m < n + k → block_version (block m) ≡ version
  texts_version N block n zero text texts m low high = absurd (omega (arith, low, high))
  texts_version N block n (suc k) text (local, rest, is, more, same) m low high = ⊎_elim
      (λ (here : m < n + 1).
      let e : n ≡ m = omega (arith, here, low) in
      ap (λ (i : ℕ). block_version (block i)) (sym e) ∙ one_version version (block_version (block n)) key keys.header.salt local is)
      (λ (behind : n + 1 ≤ m). texts_version N block (n + 1) k rest more m behind (omega (arith, high)))
      (cases_lt m (n + 1))

  entry_version : (N : ℕ) (block : ℕ → List ℕ) (n : ℕ) (e : Logged (List Change)) (end : ℕ) → AreWholeEntries N (redo_form alone) block n (e ∷ []) end → (m : ℕ) → n ≤ m → m < end → block_version (block m) ≡ version
  entry_version N block n e end (k, whole, (text, texts, reads), first, lsn, ends) m low high = texts_version N block n k text texts m low (omega (arith, high, ends))

-- the key of the book that gives a local key
found_key : (found : Option (List ℕ)) (salt local : List ℕ) → option_map (λ k. encrypted k salt) found ≡ Some local → (key : List ℕ) × (encrypted key salt ≡ local)
found_key (Some key) salt local is = (key, one (encrypted key salt) is)
  where
    one : (x : List ℕ) → Some x ≡ Some local → x ≡ local
    one x e = cc
found_key None salt local is = absurd (none-some local is)

-- Each block of a mini-transaction that was appended names the version of its key.
pub appended_version : (old new : LogState) (mtr : List Change) (keys : Keys) (key : RedoKey) → IsStoreKey keys key → IsEntry old new mtr key → (block : ℕ → List ℕ) → HasPending block new → (m : ℕ) → old.next ≤ m → m < new.next → block_version (block m) ≡ key.version
appended_version old new mtr keys key is entry block pending m low high =
    let (bytes, same) = found_key (ring_key keys.ring 1 key.version) keys.header.salt key.local is.local in
    let own : IsStoreKey (alone keys key.version bytes) key = record { algorithm = is.algorithm; local = own_version key.version bytes keys.header.salt ∙ ap (λ (l : List ℕ). Some l) same } in
    entry_version keys key.version bytes old.blocks block old.next (logged_entry old mtr) new.next (entry (alone keys key.version bytes) own block pending) m low high

module _ (store : SessionStore) where
  abbrev T : Theory
  T = session_theory store

  abbrev N : ℕ
  N = store.header.blocks

  abbrev F : Form (List Change)
  F = session_form store

  abbrev keys : Keys
  keys = record { header = store.header; ring = store.book }

  module _ (w : Session T) (r : RingState) (es : List Event) (old new : LogState) (mtr : List Change) (key : RedoKey) (dirty : ℕ → ℕ → Option Dirty)
      (ready : SessionReady store w r es) (fits : FitsRing r old) (next : w.next ≡ old.next) (size : old.blocks ≡ N) (is_key : IsStoreKey keys key) (named : Contains store.named (1, key.version)) (of_store : AreOfStore store.header.spaces mtr)
      (new_is : new ≡ appended old mtr key) (commit : IsCommit T w (logged_entry old mtr) (block_count (text_of mtr)) dirty) (fits_new : FitsRing (with_pending r new) new) (ring : RingReady N F (with_pending r new) es)
      (entry : IsEntry old new mtr key) (grows : JournalGrows old new mtr key) where
    abbrev e : Logged (List Change)
    e = logged_entry old mtr

    abbrev count : ℕ
    count = block_count (text_of mtr)

    abbrev after : Session T
    after = committed T w e count dirty

    new_next : new.next ≡ w.next + count
    new_next = let same : new.next ≡ old.next + count = ap (λ (l : LogState). l.next) new_is in omega (arith, same, next)

    journal : IsRingJournal N F (with_pending r new) w.start (w.journal ++ e ∷ []) (w.next + count)
    journal =
        subst (λ (n : ℕ). IsRingJournal N F (with_pending r new) w.start (w.journal ++ e ∷ []) n) new_next
        (subst (λ (n : ℕ). IsRingJournal n F (with_pending r new) w.start (w.journal ++ e ∷ []) new.next) size
        (grows keys is_key r w.start w.journal fits (subst (λ (n : ℕ). IsRingState n F r) (sym size) ready.ring.ringed.at.is)
        (subst (λ (n : ℕ). IsRingJournal n F r w.start w.journal old.next) (sym size) (subst (λ (n : ℕ). IsRingJournal N F r w.start w.journal n) next ready.moment.journal))))

    -- the blocks that were pending are
    front_at : (j : ℕ) → j < pending_count old → pending_at new j ≡ pending_at old j
    front_at j below = ap (λ (l : LogState). pending_at l j) new_is ∙ place_front j old.pending (blocks key old.next (text_of mtr)) (omega (arith, below))

    pending : HasPending (with_pending r new).block new
    pending j below = ap (λ (n : ℕ). (with_pending r new).block (n + j)) (sym fits_new.written) ∙ fits_new.blocks j below

    -- each block before the next number is as it was
    same_block : (n : ℕ) → n < w.next → r.block n ≡ (with_pending r new).block n
    same_block n before = ⊎_elim
        (λ (written : n < r.written). sym (pending_front r new n written))
        (λ (not_written : r.written ≤ n).
        let at : r.written + (n - r.written) ≡ n = omega (arith, not_written) in
        let few : n - r.written < pending_count old = let written = fits.written in omega (arith, before, next, written, not_written) in
        ap r.block (sym at) ∙ fits.blocks (n - r.written) few ∙ sym (front_at (n - r.written) few) ∙ sym (pending_back r new (n - r.written)) ∙ ap (with_pending r new).block at)
        (cases_lt n r.written)

    versions : (n : ℕ) → r.from ≤ n → n < w.next + count → Contains store.named (1, block_version ((with_pending r new).block n))
    versions n from below = ⊎_elim
        (λ (before : n < w.next). subst (λ (b : List ℕ). Contains store.named (1, block_version b)) (same_block n before) (ready.moment.versions n from before))
        (λ (behind : w.next ≤ n).
        let version : block_version ((with_pending r new).block n) ≡ key.version = appended_version old new mtr keys key is_key entry (with_pending r new).block pending n (omega (arith, behind, next)) (omega (arith, below, new_next)) in
        subst (λ (v : ℕ). Contains store.named (1, v)) (sym version) named)
        (cases_lt n w.next)

    -- a bound of the journal stays one
    bound_stays : (n : ℕ) → IsBound N F r.block w.start w.journal n → IsBound N F (with_pending r new).block w.start (w.journal ++ e ∷ []) n
    bound_stays n bound =
        let behind = behind_bound N F r.block w.start n w.next w.journal bound.before bound.behind ready.moment.journal.entries bound.parts bound.left in
        bound_more N F r.block (with_pending r new).block w.start w.next n w.journal (e ∷ []) (λ m low high. same_block m high) (number_up N F r.block n w.next bound.behind behind) bound

    firsts : (s p : ℕ) (d : Dirty) → has_page store.header.spaces s p ≡ true → dirty s p ≡ Some d → IsBound N F (with_pending r new).block w.start (w.journal ++ e ∷ []) d.first
    firsts s p d there is = ⊎_elim
        (λ (names : T.names mtr s p ≡ true). named_first names (w.dirty s p) refl)
        (λ (aside : T.names mtr s p ≡ false). bound_stays d.first (ready.firsts s p d there (sym (commit.others s p aside) ∙ is)))
        (cases_Bool (T.names mtr s p))
      where
        first_is : T.names mtr s p ≡ true → d.first ≡ first_of T (w.dirty s p) old.next
        first_is names = ap (λ (x : Dirty). x.first) (same_Some _ _ (sym is ∙ commit.named s p names))

        named_first : T.names mtr s p ≡ true → (x : Option Dirty) → w.dirty s p ≡ x → IsBound N F (with_pending r new).block w.start (w.journal ++ e ∷ []) d.first
        named_first names None clean =
            let first : d.first ≡ w.next = first_is names ∙ ap (λ (y : Option Dirty). first_of T y old.next) clean ∙ sym next in
            subst (IsBound N F (with_pending r new).block w.start (w.journal ++ e ∷ [])) (sym first) (bound_stays w.next (bound_end N F r w.start w.next w.journal ready.moment.journal))
        named_first names (Some x) dirt =
            let first : d.first ≡ x.first = first_is names ∙ ap (λ (y : Option Dirty). first_of T y old.next) dirt in
            subst (IsBound N F (with_pending r new).block w.start (w.journal ++ e ∷ [])) (sym first) (bound_stays x.first (ready.firsts s p x there dirt))

    committed_places : Ready T after (session_places store after es)
    committed_places = ready_log T after (session_places store w es) (ready_commit T w (session_places store w es) ready.ready e count dirty commit) (IsLogOfSession T after) (λ l says. says)

    -- The journal has the mini-transaction as its last entry, and the pages that it names are dirty.
    pub session_commits : SessionReady store (committed T w (logged_entry old mtr) (block_count (text_of mtr)) dirty) (with_pending r new) es
    session_commits = record {
      moment = record {
        base = ready.moment.base;
        keys = ready.moment.keys;
        have = ready.moment.have;
        header = ready.moment.header;
        ringed = ring.ringed;
        journal = journal;
        settled = ready.moment.settled;
        known = ready.moment.known;
        newer = ready.moment.newer;
        versions = versions;
        of_store = run_push store.header.spaces w.journal e ready.moment.of_store of_store;
        files = ready.moment.files;
        keeps = ready_keeps T after (session_places store after es) committed_places;
      };
      ring = ring;
      ready = committed_places;
      double = ready.double;
      spaces = ready.spaces;
      from = ready.from;
      newest = ready.newest;
      written = ready.written;
      firsts = firsts;
    }

  -- The ring has room for it.
  pub record_commits : (w : Session T) (es : List Event) (e : Logged (List Change)) (count : ℕ) (dirty : ℕ → ℕ → Option Dirty) → SessionRecordReady store w es → IsCommit T w e count dirty → w.next + count ≤ w.from + N
      → SessionRecordReady store (committed T w e count dirty) es
  record_commits w es e count dirty kept commit room =
      let after : Session T = committed T w e count dirty in
      let items = written_items (record_of es) in
      moment_may_log T N items (session_places store w es) (InSession after) (moment_commits T N items (session_places store w es) w kept e count dirty (commit_next T N w e count dirty commit room)) (IsLogOfSession T after)
