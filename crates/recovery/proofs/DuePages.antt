-- Pages of a round of a store that is opened are due behind the run, as a pool holds them.
use Rattle.std.proofs.Common.{◌≡◌, ◌≢◌, ◌⊎◌, inl, inr, ℕ, zero, suc, ◌<◌, ◌≤◌, Bool, true, false, MatchBool, nat_eq, nat_lt, if◌then◌else◌, List, [], ◌∷◌, length, slice_index_or, Option, Some, None, IfSome, refl, sym, ap, subst, ◌∙◌, arith}
use Rattle.std.specs.Option.{option_map}
use Rattle.std.proofs.lemmas.Bool.Decides.{nat_tests}
use Rattle.std.proofs.lemmas.Option.{none-some, same_Some}
use Rattle.aes_core.specs.declared.algorithm.Algorithm.{Algorithm}
use Rattle.byte_list.specs.Fields.{be32_at, be64_at}
use Rattle.disk_model.specs.Event.{Event, reads}
use Rattle.disk_model.specs.declared.names.FileName.TheVariants.{Log, Space}
use Rattle.disk_model.specs.Past.{Past}
use Rattle.doublewrite.specs.Refuse.{IsDiskRefuse}
use Rattle.doublewrite.specs.declared.refuse.OpenRefuse.{OpenRefuse}
use Rattle.doublewrite.specs.declared.refuse.OpenRefuse.TheVariants.{NotFormatted, Mixed, Damaged, MissingKey, BadRecord, VersionBelowFloor, Spent, DiskFault, OutOfMemory}
use Rattle.key_ring.specs.Local.{local_key}
use Rattle.key_ring.specs.Ring.{RingEntry}
use Rattle.page_places.specs.Texts.{held, page_bytes, text_in}
use Rattle.page_places.proofs.Texts.{held_is, text_in-is}
use Rattle.page_pool.specs.Contents.{MayStandAt, plain_in_page}
use Rattle.page_pool.specs.Pages.{PoolState, held_page}
use Rattle.page_text.specs.Text.{IsText, Plain, page_key}
use Rattle.page_text.specs.declared.key.PageKey.{PageKey}
use Rattle.places.specs.Places.{shown}
use Rattle.places.proofs.LeftAlone.{reads_left_alone}
use Rattle.redo_text.specs.declared.change.Change.{Change}
use Rattle.space_head.specs.declared.space.SpaceInfo.{SpaceInfo}
use Rattle.store_image.specs.Opening.{held_of}
use Rattle.store_image.specs.Places.{log_of}
use Rattle.store_image.specs.Recovers.{Gives, PageContents, Theory, later_by}
use Rattle.store_image.specs.View.{Copy, Home, Holds, IsChosen, IsCopy, Logged, Text, Unused, View}
use Rattle.store_image.proofs.ChosenTexts.{chosen_one, holds_one}
use Rattle.store_files.specs.Header.{HeldHeader}
use Rattle.store_files.specs.Pages as store
use Rattle.store_files.specs.Pages.{Page, Head, Used, HasKeyBytes, IsTypedInfo, MeansPage, head_page, has_page, is_used, key_at, key_id_of, mtr_acts, page_held, page_in, pages_of, salts_of}
use Rattle.store_files.specs.Run.{AreLogEntries}
use Rattle.store_files.proofs.RunsOnce.{entries_one}
use Rattle.store_files.proofs.TextsOnce.{plain_one}
use Rattle.store_model.specs.Fold.{used}
use Rattle.store_model.specs.declared.contents.PlainPage.{PlainPage}
use Rattle.store_model.specs.declared.contents.SpaceContents.{SpaceContents}
use Rattle.crash_image.specs.Opened.{StoreOpened, IsOpenedAt, opened_theory}
use Rattle.recovery.specs.Applying.{AppliesLog, AppliesRun, IsAllowedRun, IsRunRefusal, held_later}
use Rattle.recovery.specs.Changes.{IsLastChange, Last, Never}
use Rattle.recovery.specs.Due.{IsOpenedWith, IsRoundDue, IsSpaceOf}
use Rattle.recovery.specs.Groups.{AreSealable, IsSealable}
use Rattle.recovery.specs.Loading.{HoldsHome, HoldsHomes, IsHomePage, IsHomeText, is_unread, is_unused, name_in, page_key_in}
use Rattle.recovery.specs.Notes.{IsNoteOf, IsSourceOf, disk_view, no_note}
use Rattle.recovery.specs.Putting.{IsAsChosen}
use Rattle.recovery.specs.Rounds.{has_later}
use Rattle.recovery.specs.declared.notes.PageNote.{PageNote}
use Rattle.recovery.specs.declared.notes.NoteSource.{NoteSource}
use Rattle.recovery.specs.declared.notes.NoteSource.TheVariants as source
use Rattle.recovery.proofs.RunSteps.{IsTypedHead, entries_allowed, held_laters, later_alike, names_later, stands_laters, touched, typed_later, used_later}

-- ---- contents

-- a head is that of its space
head_space : (c : List SpaceContents) (s p : ℕ) (info : SpaceInfo) → pages_of c s p ≡ Head info → info.space ≡ s
head_space [] s p info is = absurd cc
head_space (x ∷ xs) s p info is = by (head_space xs s p info) (nat_eq x.info.space s) refl is
  where
    held : (o : Option PlainPage) → page_held o ≡ Head info → ⊥
    held None e = cc
    held (Some q) e = cc

    here : (q : ℕ) → nat_eq x.info.space s ≡ true → page_in x q ≡ Head info → info.space ≡ s
    here zero same e = let one : x.info ≡ info = cc in let own : x.info.space ≡ s = grind (arith, nat_tests) in sym (ap (λ (i : SpaceInfo). i.space) one) ∙ own
    here (suc i) same e = absurd (held (slice_index_or x.pages i None) e)

    by : (pages_of xs s p ≡ Head info → info.space ≡ s) → (b : Bool) → nat_eq x.info.space s ≡ b → (if b then page_in x p else pages_of xs s p) ≡ Head info → info.space ≡ s
    by rest true same e = here p same e
    by rest false apart e = rest e

-- ---- texts

-- a text of version 0 is in clear, whatever key is at hand
in_clear_text : (s p lsn version : ℕ) (key : Option PageKey) (plain : Plain) (bytes : List ℕ) → version ≡ 0 → IsText 16384 s p lsn version key plain bytes → IsText 16384 s p lsn version None plain bytes
in_clear_text s p lsn version key plain bytes none t = subst (λ (v : ℕ). IsText 16384 s p lsn v None plain bytes) (sym none) (record {
  sized = zero_text.sized;
  fits = zero_text.fits;
  keyed = λ some. absurd (some refl);
  body_long = zero_text.body_long;
  body_bytes = zero_text.body_bytes;
  kind_fits = zero_text.kind_fits;
  lsn_fits = zero_text.lsn_fits;
  version_fits = zero_text.version_fits;
  written = zero_text.written;
})
  where
    zero_text : IsText 16384 s p lsn 0 key plain bytes
    zero_text = subst (λ (v : ℕ). IsText 16384 s p lsn v key plain bytes) none t

abbrev text_of_page : PlainPage → Plain
text_of_page q = record { kind = q.kind; bytes = q.body }

same_page : (a b : PlainPage) → text_of_page a ≡ text_of_page b → a ≡ b
same_page a b e = λ i. record { kind = (e i).kind; body = (e i).bytes }

-- what is read of a text is the page that it means
module _ (header : HeldHeader) (keys : List RingEntry) (salts : ℕ → List ℕ) (s p : ℕ) (t : Text) (key : Option PageKey) (plain : PlainPage) (key_is : key ≡ key_at header keys salts s t.version)
    (text : IsText 16384 s p t.lsn t.version key (text_of_page plain) t.bytes) where
  plain_meant : (x : Page) → MeansPage header keys salts s p t x → plain_in_page x ≡ Some plain
  plain_meant store.Unused means = absurd means
  plain_meant (Used q) (some, known, own) =
      let moved : IsText 16384 s p t.lsn t.version (key_at header keys salts s t.version) (text_of_page plain) t.bytes = subst (λ (k : Option PageKey). IsText 16384 s p t.lsn t.version k (text_of_page plain) t.bytes) key_is text in
      ap Some (sym (same_page plain q (plain_one 16384 s p t.lsn t.version (key_at header keys salts s t.version) (text_of_page plain) (text_of_page q) t.bytes known moved own)))
  plain_meant (Head info) (at_zero, space, typed, own) = ap Some (sym same)
    where
      clear : t.version ≡ 0
      clear = by text.fits
        where
          by : ((p ≡ 0) × (plain.kind ≡ 8) × (t.version ≡ 0)) ⊎ ((p ≢ 0) × (plain.kind ≢ 8) × (plain.kind ≢ 9)) → t.version ≡ 0
          by (inl (zero_is, kind, none)) = none
          by (inr (some, kind, other)) = absurd (some at_zero)

      read : IsText 16384 s 0 t.lsn t.version None (text_of_page plain) t.bytes
      read = subst (λ (q : ℕ). IsText 16384 s q t.lsn t.version None (text_of_page plain) t.bytes) at_zero (in_clear_text s p t.lsn t.version key (text_of_page plain) t.bytes clear text)

      same : plain ≡ record { kind = (head_page info).kind; body = (head_page info).bytes }
      same = same_page plain (record { kind = (head_page info).kind; body = (head_page info).bytes }) (plain_one 16384 s 0 t.lsn t.version None (text_of_page plain) (head_page info) t.bytes tt read own)

  stands_meant : (x : Page) → MeansPage header keys salts s p t x → MayStandAt p x
  stands_meant store.Unused means = absurd means
  stands_meant (Used q) means = means.0
  stands_meant (Head info) (at_zero, space, typed, own) = (at_zero, typed.salt_long)

-- what is typed of a page: it is a head with its widths, or no page 0
abbrev IsTyped : ℕ → Page → Type 0
IsTyped p x = IsTypedHead x ⊎ (p ≢ 0)

typed_meant : (header : HeldHeader) (keys : List RingEntry) (salts : ℕ → List ℕ) (s p : ℕ) (t : Text) (x : Page) → MeansPage header keys salts s p t x → IsTyped p x
typed_meant header keys salts s p t store.Unused means = absurd means
typed_meant header keys salts s p t (Used q) means = inr means.0
typed_meant header keys salts s p t (Head info) (at_zero, space, typed, own) = inl (info, refl, typed)

-- ---- a page of the store

abbrev pub text_lsn : Option Text → ℕ
text_lsn (Some t) = t.lsn
text_lsn None = 0

abbrev has_no_text : Option Text → Bool
has_no_text (Some t) = false
has_no_text None = true

module _ (o : StoreOpened) (number : ℕ) (entry : List Event) (opened : IsOpenedAt o number entry) where
  abbrev T : Theory
  T = opened_theory o

  abbrev v : View (List Change)
  v = o.view

  abbrev c : PageContents T
  c = pages_of o.contents

  -- what the run makes of a page
  abbrev behind : ℕ → ℕ → ℕ → Page → Page
  behind lsn s p x = later_by mtr_acts lsn v.run s p x

  allowed : IsAllowedRun v.run
  allowed = entries_allowed o.header o.keys (reads Log entry) v.from v.run v.end opened.reading.run.entries

  module _ (s p : ℕ) where
    copy_in : (i : ℕ) (t : Text) → IsCopy (disk_view entry) s p i t → IsCopy v s p i t
    copy_in i t x = record { within = x.within; is = opened.reads_as.slot i ∙ x.is }

    copy_out : (i : ℕ) (t : Text) → IsCopy v s p i t → IsCopy (disk_view entry) s p i t
    copy_out i t x = record { within = x.within; is = sym (opened.reads_as.slot i) ∙ x.is }

    -- what the disk is read from, is read of what is opened
    chosen_in : (a : Option Text) → IsChosen (disk_view entry) s p a → IsChosen v s p a
    chosen_in a (Home t is e) = Home t (opened.reads_as.home s p ∙ is) e
    chosen_in a (Copy i t none copy most first e) =
        Copy i t (λ u h. none u (sym (opened.reads_as.home s p) ∙ h)) (copy_in i t copy) (λ j u x. most j u (copy_out j u x)) (λ j u x same. first j u (copy_out j u x) same) e
    chosen_in a (Unused is none e) = Unused (opened.reads_as.home s p ∙ is) (λ i t x. none i t (copy_out i t x)) e

    module _ (note : PageNote) (is : IsNoteOf s p note entry) (a : Option Text) (chosen : IsChosen v s p a) where
      one : (b : Option Text) → IsChosen (disk_view entry) s p b → b ≡ a
      one b own = chosen_one v s p b a (chosen_in b own) chosen

      pub lsn_noted : note.lsn ≡ text_lsn a
      lsn_noted = by note.source is.source
        where
          by : (x : NoteSource) → IsSourceOf entry s p note.lsn x → note.lsn ≡ text_lsn a
          by source.Unused (own, zero_is) = zero_is ∙ ap text_lsn (one None own)
          by (source.Home version) (t, home, own, lsn, named) = sym lsn ∙ ap text_lsn (one (Some t) own)
          by (source.Copy version) (t, none, own, lsn, named) = sym lsn ∙ ap text_lsn (one (Some t) own)

      unread_noted : is_unread note p ≡ has_no_text a
      unread_noted = by note.source refl is.source (nat_eq p 0) refl
        where
          by : (x : NoteSource) → note.source ≡ x → IsSourceOf entry s p note.lsn x → (b : Bool) → nat_eq p 0 ≡ b → (if b then false else is_unused note.source) ≡ has_no_text a
          by source.Unused which (own, zero_is) true first = absurd (is.head (grind (arith, nat_tests)) which)
          by source.Unused which (own, zero_is) false first = ap is_unused which ∙ ap has_no_text (one None own)
          by (source.Home version) which (t, home, own, lsn, named) true first = ap has_no_text (one (Some t) own)
          by (source.Home version) which (t, home, own, lsn, named) false first = ap is_unused which ∙ ap has_no_text (one (Some t) own)
          by (source.Copy version) which (t, none, own, lsn, named) true first = ap has_no_text (one (Some t) own)
          by (source.Copy version) which (t, none, own, lsn, named) false first = ap is_unused which ∙ ap has_no_text (one (Some t) own)

  -- A page with later changes, as it was loaded and as the run leaves it.
  module _ (info : SpaceInfo) (p : ℕ) (here : has_page o.header.spaces info.space p ≡ true) (note : PageNote) (is : IsNoteOf info.space p note entry) (key_id : info.key_id ≡ key_id_of o.header.spaces info.space) (salt : info.salt ≡ salts_of o.contents info.space)
      (lsn : ℕ) (last : IsLastChange v.run info.space p lsn) (above : note.lsn < lsn) where
    abbrev s : ℕ
    s = info.space

    -- the page by what it is read as, and what the run makes of that
    module _ (now : Option PlainPage) (x : Page) (content : c s p ≡ behind note.lsn s p x) (typed : IsTyped p x) (stands : MayStandAt p x) (now_is : now ≡ plain_in_page (behind note.lsn s p x)) where
      due_by : IsSealable o s p lsn now
      due_by = by last
        where
          by : IsLastChange v.run s p lsn → IsSealable o s p lsn now
          by (Never zero_is none) = absurd (omega (arith, zero_is, above))
          by (Last named most) = record {
            holds = now_is ∙ ap plain_in_page (sym content);
            is_used = ap is_used content ∙ used_later note.lsn v.run s p x (names_later note.lsn lsn v.run s p named above);
            stands = subst (MayStandAt p) (sym content) (stands_laters note.lsn v.run s p x stands);
            typed = λ i head. (head_space o.contents s p i head, widths i head typed);
            named = named;
            last = most;
            above = λ t chosen. subst (λ (n : ℕ). n < lsn) (lsn_noted s p note is (Some t) chosen) above;
          }
            where
              widths : (i : SpaceInfo) → c s p ≡ Head i → IsTyped p x → IsTypedInfo i
              widths i head (inl own) =
                  let (new, new_is, fits) = typed_later note.lsn v.run s p x allowed own in
                  let both : Head new ≡ Head i = sym new_is ∙ sym content ∙ head in
                  let same : new ≡ i = cc in
                  subst IsTypedInfo same fits
              widths i head (inr some) = absurd (some (subst (MayStandAt p) (sym content ∙ head) (stands_laters note.lsn v.run s p x stands)).0)

    module _ (m : List Event) (as_chosen : IsAsChosen o m s p) (old new : PoolState) (loaded : HoldsHome o.keys o.header.algorithm info note p old m) (applied : held_page (name_in s p) new ≡ held_later note.lsn v.run s p (held_page (name_in s p) old)) where
      abbrev home : List ℕ
      home = shown (Space s) 16384 p m

      -- what is held, by what was held
      now_by : (x : Page) → plain_in_page x ≡ held_page (name_in s p) old → MayStandAt p x → held_page (name_in s p) new ≡ plain_in_page (behind note.lsn s p x)
      now_by x same stands = applied ∙ ap (held_later note.lsn v.run s p) (sym same) ∙ held_laters note.lsn v.run s p x allowed stands

      key_same : (version : ℕ) → page_key_in o.keys o.header.algorithm info version ≡ key_at o.header o.keys (salts_of o.contents) s version
      key_same version = ap (λ (id : ℕ). option_map (λ local. record { local = local; algorithm = o.header.algorithm }) (local_key o.keys id version info.salt)) key_id
          ∙ ap (λ (l : List ℕ). option_map (λ local. record { local = local; algorithm = o.header.algorithm }) (local_key o.keys (key_id_of o.header.spaces s) version l)) salt

      -- the home has the chosen text
      home_text : (t : Text) → IsChosen v s p (Some t) → text_in home ≡ t
      home_text t chosen =
          let (a, own, reads_so) = as_chosen in
          (held_is p home t (reads_so ∙ ap held_of (chosen_one v s p a (Some t) own chosen))).1

      text_read : (t : Text) (plain : PlainPage) → text_in home ≡ t → IsHomeText o.keys o.header.algorithm info p home plain → IsText 16384 s p t.lsn t.version (page_key_in o.keys o.header.algorithm info t.version) (text_of_page plain) t.bytes
      text_read t plain same text =
          let e : record { lsn = be64_at home 16; version = be32_at home 0; bytes = home } ≡ t = sym (text_in-is home) ∙ same in
          subst (λ (u : Text). IsText 16384 s p u.lsn u.version (page_key_in o.keys o.header.algorithm info u.version) (text_of_page plain) u.bytes) e text

      pub due : IsSealable o s p lsn (held_page (name_in s p) new)
      due = let page = opened.recovers.pages s p here in by page.chosen page.is page.gives
        where
          by : (a : Option Text) → IsChosen v s p a → Gives T v c s p a → IsSealable o s p lsn (held_page (name_in s p) new)
          by (Some t) chosen (x, means, top, content) =
              let (plain, home_page, held_so) = loaded in
              let read : IsHomeText o.keys o.header.algorithm info p home plain = subst (λ (b : Bool). MatchBool b (plain ≡ used None) (IsHomeText o.keys o.header.algorithm info p home plain)) (unread_noted s p note is (Some t) chosen) home_page in
              let text = text_read t plain (home_text t chosen) read in
              let lsn_is : note.lsn ≡ t.lsn = lsn_noted s p note is (Some t) chosen in
              let stands = stands_meant o.header o.keys (salts_of o.contents) s p t (page_key_in o.keys o.header.algorithm info t.version) plain (key_same t.version) text x means in
              let meant = plain_meant o.header o.keys (salts_of o.contents) s p t (page_key_in o.keys o.header.algorithm info t.version) plain (key_same t.version) text x means in
              due_by (held_page (name_in s p) new) x (content ∙ ap (λ (n : ℕ). behind n s p x) (sym lsn_is)) (typed_meant o.header o.keys (salts_of o.contents) s p t x means) stands (now_by x (meant ∙ sym held_so) stands)
          by None chosen (some, content) =
              let (plain, home_page, held_so) = loaded in
              let zero_page : plain ≡ used None = subst (λ (b : Bool). MatchBool b (plain ≡ used None) (IsHomeText o.keys o.header.algorithm info p home plain)) (unread_noted s p note is None chosen) home_page in
              let lsn_is : note.lsn ≡ 0 = lsn_noted s p note is None chosen in
              let alike : behind note.lsn s p touched ≡ behind note.lsn s p store.Unused = alike_by last in
              let touched_is : plain_in_page touched ≡ held_page (name_in s p) old = sym (held_so ∙ ap Some zero_page) in
              due_by (held_page (name_in s p) new) store.Unused (content ∙ ap (λ (n : ℕ). behind n s p store.Unused) (sym lsn_is)) (inr some) some (now_by touched touched_is some ∙ ap plain_in_page alike)
            where
              alike_by : IsLastChange v.run s p lsn → behind note.lsn s p touched ≡ behind note.lsn s p store.Unused
              alike_by (Never zero_is none) = absurd (omega (arith, zero_is, above))
              alike_by (Last named most) = later_alike note.lsn v.run s p (names_later note.lsn lsn v.run s p named above)

-- ---- the pages of a round

later_lsn : (a b : ℕ) → nat_lt a b ≡ true → a < b
later_lsn a b is = grind (arith, nat_tests)

module _ (o : StoreOpened) (number : ℕ) (entry m : List Event) (info : SpaceInfo) (notes : List PageNote) (last : List ℕ) (space : IsSpaceOf o entry info notes last) (from end : ℕ) (within : end ≤ length notes) (round : IsRoundDue o number entry (has_later notes last) info.space from end m) where
  -- the log says the run that was found
  same_run : (run : List (Logged (List Change))) → AreLogEntries o.header o.keys (reads Log m) o.view.from run o.view.end → run ≡ o.view.run
  same_run run entries =
      let log : reads Log m ≡ reads Log entry = reads_left_alone Log entry m round.between.files.log in
      let found = round.opened.reading.run in
      (entries_one o.header o.keys (reads Log entry) o.view.from run o.view.run o.view.end o.view.end (subst (λ (f : List ℕ). AreLogEntries o.header o.keys f o.view.from run o.view.end) log entries) found.entries found.run.longest found.run.longest).0

  pub pages_due : (old new : PoolState) → HoldsHomes o.keys o.header.algorithm info notes (has_later notes last) from end old m → AppliesLog o.header o.keys o.view.from o.view.end notes last info.space from end old new m → AreSealable o (has_later notes last) info.space last from end new
  pages_due old new homes log = record {
    each = λ p low high later.
        let noted : p < length notes = omega (arith, high, within) in
        let run_is : log.run ≡ o.view.run = same_run log.run log.entries in
        let applied = log.applies.each p low high later ∙ ap (λ (r : List (Logged (List Change))). held_later (slice_index_or notes p no_note).lsn r info.space p (held_page (name_in info.space p) old)) run_is in
        due o number entry round.opened info p (space.has p noted) (slice_index_or notes p no_note) (space.notes_of.each p noted) space.key_id space.salt (slice_index_or last p 0) (space.last_of p noted) (later_lsn (slice_index_or notes p no_note).lsn (slice_index_or last p 0) later) m (round.chosen p low high later) old new
        (homes.each p low high later) applied;
  }

  pub pages_due_with : (header : HeldHeader) (keys : List RingEntry) (first stop : ℕ) → IsOpenedWith o header keys first stop → (old new : PoolState) → HoldsHomes keys header.algorithm info notes (has_later notes last) from end old m
      → AppliesLog header keys first stop notes last info.space from end old new m → AreSealable o (has_later notes last) info.space last from end new
  pages_due_with header keys first stop by old new homes log =
      let ring : HoldsHomes o.keys header.algorithm info notes (has_later notes last) from end old m = subst (λ (k : List RingEntry). HoldsHomes k header.algorithm info notes (has_later notes last) from end old m) (sym by.keys_are) homes in
      let ciphers : HoldsHomes o.keys o.header.algorithm info notes (has_later notes last) from end old m = subst (λ (h : HeldHeader). HoldsHomes o.keys h.algorithm info notes (has_later notes last) from end old m) (sym by.header_is) ring in
      let one : AppliesLog o.header keys first stop notes last info.space from end old new m = subst (λ (h : HeldHeader). AppliesLog h keys first stop notes last info.space from end old new m) (sym by.header_is) log in
      let two : AppliesLog o.header o.keys first stop notes last info.space from end old new m = subst (λ (k : List RingEntry). AppliesLog o.header k first stop notes last info.space from end old new m) (sym by.keys_are) one in
      let three : AppliesLog o.header o.keys o.view.from stop notes last info.space from end old new m = subst (λ (n : ℕ). AppliesLog o.header o.keys n stop notes last info.space from end old new m) (sym by.first_is) two in
      let four : AppliesLog o.header o.keys o.view.from o.view.end notes last info.space from end old new m = subst (λ (n : ℕ). AppliesLog o.header o.keys o.view.from n notes last info.space from end old new m) (sym by.stop_is) three in
      pages_due old new ciphers four

-- ---- refusals

pub read_by_disk : (past : Past) (why : OpenRefuse) → IsDiskRefuse why → IsRunRefusal past why
read_by_disk past DiskFault is = tt
read_by_disk past OutOfMemory is = tt
read_by_disk past NotFormatted is = absurd is
read_by_disk past (Mixed file at wanted found) is = absurd is
read_by_disk past (Damaged file at stored computed) is = absurd is
read_by_disk past (MissingKey id version) is = absurd is
read_by_disk past (BadRecord n at) is = absurd is
read_by_disk past (VersionBelowFloor space floor version) is = absurd is
read_by_disk past (Spent n) is = absurd is
