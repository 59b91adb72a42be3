-- The keys that are looked for are those that reading the store needs.
use Rattle.std.proofs.Common.{◌≡◌, ◌≢◌, ◌⊎◌, ℕ, zero, suc, ◌+◌, ◌<◌, ◌≤◌, true, List, [], ◌∷◌, ◌++◌, length, map, take, slice_index_or, Option, Some, None, refl, sym, ap, subst, ◌∙◌, arith, inl, inr, ⊎_elim, length-append}
use Rattle.std.specs.Prelude.{Contains}
use Rattle.std.proofs.lemmas.Bool.{cases_lt}
use Rattle.std.proofs.lemmas.List.{get_or_append_left, get_or_default, length-map}
use Rattle.std.proofs.Math.Seq.{get_or-append_seam}
use Rattle.std.proofs.lemmas.Option.{same_Some, none-some}
use Rattle.key_ring.specs.Ring.{RingEntry}
use Rattle.disk_model.specs.Event.{Event, reads}
use Rattle.disk_model.specs.declared.names.FileName.TheVariants.{Log, Double}
use Rattle.doublewrite.specs.Copies.{as_copied, as_list, copies_to}
use Rattle.doublewrite.specs.declared.listing.Copied.{Copied}
use Rattle.page_places.specs.Texts.{slot_held, slot_size}
use Rattle.page_places.specs.Views.{view}
use Rattle.places.specs.Places.{shown}
use Rattle.redo_text.specs.Reading.{block_version}
use Rattle.redo_text.specs.declared.change.Change.{Change}
use Rattle.store_image.specs.Places.{LogView}
use Rattle.store_image.specs.View.{Text, Slot, View, Holds, HasNoHome, IsCopy, IsNewestCopy, IsChosen, Home, Copy, Unused, IsLive}
use Rattle.store_image.proofs.ChosenTexts.{chosen_one, holds_one}
use Rattle.store_files.specs.Header.{HeldHeader, HeldSpace, are_in_order}
use Rattle.store_files.specs.Pages.{has_page, key_id_of}
use Rattle.store_files.specs.Run.{block_at}
use Rattle.store_form.specs.Said.{space_said}
use Rattle.store_form.specs.declared.header.HeaderSpace.{HeaderSpace}
use Rattle.crash_image.specs.Rest.{read_image}
use Rattle.crash_image.specs.Stands.{Named, OfChosen, OfSlot, OfBlock, OfLog, OfSpace}
use Rattle.recovery.specs.Keys.{AreFound, AreThere, IsCopyKey, IsLeastLacking, LooksFor, IsListedKey, IsLiveBy, IsLiveFrom, IsNoteKey, IsSpaceKey, IsTextKey, IsVersionKey, NamedAt, OneBelow, key_named, no_copied, notes_at, version_of}
use Rattle.recovery.specs.Notes.{AreSpaceNotes, IsNoteOf, IsSourceOf, disk_view, no_note}
use Rattle.recovery.specs.SpaceList.{IsPlaceOf, held_at, no_held}
use Rattle.recovery.specs.Walks.{PairsHave}
use Rattle.recovery.specs.declared.keys.KeyName.{KeyName}
use Rattle.recovery.specs.declared.notes.PageNote.{PageNote}
use Rattle.recovery.specs.declared.notes.NoteSource.{NoteSource}
use Rattle.recovery.specs.declared.notes.NoteSource.TheVariants as source
use Rattle.recovery.proofs.LooksSteps.{looked_all, looked_least, looks_as, looks_then}
use Rattle.recovery.proofs.PlaceSteps.{place_found, place_has, place_some}

-- ---- two lists beside one another, by places

pub pairs_long : {A B : Type 0} (R : A → B → Type 0) (xs : List A) (ys : List B) → PairsHave R xs ys → length ys ≡ length xs
pairs_long R [] [] have = refl
pairs_long R [] (y ∷ ys) have = absurd have
pairs_long R (x ∷ xs) [] have = absurd have
pairs_long R (x ∷ xs) (y ∷ ys) have = ap suc (pairs_long R xs ys have.1)

pub pairs_nth : {A B : Type 0} (R : A → B → Type 0) (xs : List A) (ys : List B) (i : ℕ) (c : A) (d : B) → PairsHave R xs ys → i < length xs → R (slice_index_or xs i c) (slice_index_or ys i d)
pairs_nth R [] ys i c d have lt = absurd (omega (arith, lt))
pairs_nth R (x ∷ xs) [] i c d have lt = absurd have
pairs_nth R (x ∷ xs) (y ∷ ys) zero c d have lt = have.0
pairs_nth R (x ∷ xs) (y ∷ ys) (suc i) c d have lt = pairs_nth R xs ys i c d have.1 (omega (arith, lt))

key_is : (x : KeyName) (id version : ℕ) → x.id ≡ id → x.version ≡ version → x ≡ key_named id version
key_is x id version a b = λ i. record { id = a i; version = b i }

-- ---- the slots that are listed

-- a copy is of one of the first n slots
pub record IsOfSlot (es : List Event) (n : ℕ) (c : Copied) : Type 0 where
  pub below : c.index < n
  pub is : slot_held (shown Double slot_size c.index es) ≡ Some (record { space = c.space; page = c.page; text = record { lsn = c.lsn; version = c.version; bytes = c.text } })

of_more : (es : List Event) (n : ℕ) (c : Copied) → IsOfSlot es n c → IsOfSlot es (suc n) c
of_more es n c is = let lt = is.below in record { below = omega (arith, lt); is = is.is }

listed_of : (es : List Event) (n j : ℕ) → j < length (copies_to n es) → IsOfSlot es n (slice_index_or (copies_to n es) j no_copied)
unfolding copies_to
listed_of es zero j lt = absurd (omega (arith, lt))
listed_of es (suc n) j lt = by (λ l. listed_of es n j l) (slot_held (shown Double slot_size n es)) refl lt
  where
    front : List Copied
    front = copies_to n es

    by : (j < length front → IsOfSlot es n (slice_index_or front j no_copied)) → (o : Option Slot) → slot_held (shown Double slot_size n es) ≡ o → j < length (front ++ as_list (as_copied n o)) → IsOfSlot es (suc n) (slice_index_or (front ++ as_list (as_copied n o)) j no_copied)
    by earlier None is below =
        let l : j < length front = omega (arith, below, length-append front []) in
        subst (IsOfSlot es (suc n)) (sym (get_or_append_left front [] no_copied j l)) (of_more es n _ (earlier l))
    by earlier (Some x) is below =
        let c : Copied = record { index = n; space = x.space; page = x.page; lsn = x.text.lsn; version = x.text.version; text = x.text.bytes } in
        ⊎_elim (λ (l : j < length front). subst (IsOfSlot es (suc n)) (sym (get_or_append_left front (c ∷ []) no_copied j l)) (of_more es n _ (earlier l)))
        (λ (ge : length front ≤ j).
        let e : length front ≡ j = omega (arith, below, ge, length-append front (c ∷ [])) in
        subst (λ (k : ℕ). IsOfSlot es (suc n) (slice_index_or (front ++ c ∷ []) k no_copied)) e (subst (IsOfSlot es (suc n)) (sym (get_or-append_seam front c [] no_copied)) (record { below = omega arith; is = is })))
        (cases_lt j (length front))

-- each valid slot is listed
pub record IsListed (es : List Event) (n s p : ℕ) (t : Text) : Type 0 where
  pub at : ℕ
  pub below : at < length (copies_to n es)
  pub index : ℕ
  pub is : slice_index_or (copies_to n es) at no_copied ≡ record { index = index; space = s; page = p; lsn = t.lsn; version = t.version; text = t.bytes }

slot_listed : (es : List Event) (n i s p : ℕ) (t : Text) → i < n → slot_held (shown Double slot_size i es) ≡ Some (record { space = s; page = p; text = t }) → IsListed es n s p t
unfolding copies_to
slot_listed es zero i s p t lt is = absurd (omega (arith, lt))
slot_listed es (suc n) i s p t lt is = ⊎_elim
    (λ (l : i < n).
    let f = slot_listed es n i s p t l is in
    let b = f.below in
    let tail = as_list (as_copied n (slot_held (shown Double slot_size n es))) in
    record { at = f.at; below = omega (arith, b, length-append (copies_to n es) tail); index = f.index; is = get_or_append_left (copies_to n es) tail no_copied f.at b ∙ f.is })
    (λ (ge : n ≤ i).
    let e : i ≡ n = omega (arith, lt, ge) in
    let c : Copied = record { index = n; space = s; page = p; lsn = t.lsn; version = t.version; text = t.bytes } in
    let there : as_list (as_copied n (slot_held (shown Double slot_size n es))) ≡ c ∷ [] = ap (λ (o : Option Slot). as_list (as_copied n o)) (subst (λ (k : ℕ). slot_held (shown Double slot_size k es) ≡ Some (record { space = s; page = p; text = t })) e is) in
    let all : copies_to n es ++ as_list (as_copied n (slot_held (shown Double slot_size n es))) ≡ copies_to n es ++ c ∷ [] = ap (λ (l : List Copied). copies_to n es ++ l) there in
    record {
      at = length (copies_to n es);
      below = let long = ap length all in omega (arith, long, length-append (copies_to n es) (c ∷ []));
      index = n;
      is = ap (λ (l : List Copied). slice_index_or l (length (copies_to n es)) no_copied) all ∙ get_or-append_seam (copies_to n es) c [] no_copied;
    })
    (cases_lt i n)

-- ---- a page, by its note

module _ (es : List Event) (log : LogView (List Change)) (s p : ℕ) where
  abbrev full : View (List Change)
  full = view log (read_image es)

  -- whatever the log says, a page is read from the same
  copy_to : (i : ℕ) (t : Text) → IsCopy (disk_view es) s p i t → IsCopy full s p i t
  copy_to i t c = record { within = c.within; is = c.is }

  copy_from : (i : ℕ) (t : Text) → IsCopy full s p i t → IsCopy (disk_view es) s p i t
  copy_from i t c = record { within = c.within; is = c.is }

  pub chosen_to : (o : Option Text) → IsChosen (disk_view es) s p o → IsChosen full s p o
  chosen_to o (Home t is e) = Home t is e
  chosen_to o (Copy i t none copy most first e) = Copy i t none (copy_to i t copy) (λ j u c. most j u (copy_from j u c)) (λ j u c same. first j u (copy_from j u c) same) e
  chosen_to o (Unused is none e) = Unused is (λ i t c. none i t (copy_from i t c)) e

  pub chosen_from : (o : Option Text) → IsChosen full s p o → IsChosen (disk_view es) s p o
  chosen_from o (Home t is e) = Home t is e
  chosen_from o (Copy i t none copy most first e) = Copy i t none (copy_from i t copy) (λ j u c. most j u (copy_to j u c)) (λ j u c same. first j u (copy_to j u c) same) e
  chosen_from o (Unused is none e) = Unused is (λ i t c. none i t (copy_to i t c)) e

  -- an unused page has no copy
  no_copies : (o : Option Text) → IsChosen full s p o → o ≡ None → (i : ℕ) (t : Text) → IsCopy full s p i t → ⊥
  no_copies o (Home x there e) same i t copy = none-some x (sym same ∙ e)
  no_copies o (Copy j x torn own most first e) same i t copy = none-some x (sym same ∙ e)
  no_copies o (Unused empty none e) same i t copy = none i t copy

  -- a page that isn't read from its home is read from its newest copy
  chosen_copy : (u : Text) → HasNoHome full s p → (o : Option Text) → IsChosen full s p o → o ≡ Some u → ((i : ℕ) × IsCopy full s p i u) × IsNewestCopy full s p u
  chosen_copy u none o (Home x there e) same = absurd (none x there)
  chosen_copy u none o (Unused empty without e) same = absurd (none-some u (sym e ∙ same))
  chosen_copy u none o (Copy i x torn own most first e) same =
      let one : x ≡ u = same_Some x u (sym e ∙ same) in
      ((i, subst (λ (t : Text). IsCopy full s p i t) one own), subst (λ (t : Text). IsNewestCopy full s p t) one most)

  module _ (note : PageNote) (is : IsNoteOf s p note es) where
    -- what the note says of the page
    abbrev Said : NoteSource → Type 0
    Said source.Unused = IsChosen full s p None × (note.lsn ≡ 0)
    Said (source.Home version) = (t : Text) × (full.home s p ≡ Holds t) × IsChosen full s p (Some t) × (t.lsn ≡ note.lsn) × (t.version ≡ version)
    Said (source.Copy version) = (t : Text) × HasNoHome full s p × IsChosen full s p (Some t) × (t.lsn ≡ note.lsn) × (t.version ≡ version)

    said : (x : NoteSource) → IsSourceOf es s p note.lsn x → Said x
    said source.Unused (chosen, zero_is) = (chosen_to None chosen, zero_is)
    said (source.Home version) (t, home, chosen, lsn, named) = (t, home, chosen_to (Some t) chosen, lsn, named)
    said (source.Copy version) (t, none, chosen, lsn, named) = (t, none, chosen_to (Some t) chosen, lsn, named)

    -- the version of the text that is noted
    pub noted_text : version_of note.source ≢ 0 → (t : Text) × IsChosen full s p (Some t) × (t.version ≡ version_of note.source)
    noted_text some = by note.source some (said note.source is.source)
      where
        by : (x : NoteSource) → version_of x ≢ 0 → Said x → (t : Text) × IsChosen full s p (Some t) × (t.version ≡ version_of x)
        by source.Unused some of = absurd (some refl)
        by (source.Home version) some (t, home, chosen, lsn, named) = (t, chosen, named)
        by (source.Copy version) some (t, none, chosen, lsn, named) = (t, chosen, named)

    -- that is the text that is chosen
    pub text_noted : (t : Text) → IsChosen full s p (Some t) → version_of note.source ≡ t.version
    text_noted t chosen = by note.source (said note.source is.source)
      where
        by : (x : NoteSource) → Said x → version_of x ≡ t.version
        by source.Unused (none, lsn) = absurd (none-some t (chosen_one full s p None (Some t) none chosen))
        by (source.Home version) (u, home, own, lsn, named) = sym named ∙ ap (λ (x : Text). x.version) (same_Some u t (chosen_one full s p (Some u) (Some t) own chosen))
        by (source.Copy version) (u, none, own, lsn, named) = sym named ∙ ap (λ (x : Text). x.version) (same_Some u t (chosen_one full s p (Some u) (Some t) own chosen))

    -- and its LSN is noted
    pub lsn_noted : (t : Text) → IsChosen full s p (Some t) → note.lsn ≡ t.lsn
    lsn_noted t chosen = by note.source (said note.source is.source)
      where
        by : (x : NoteSource) → Said x → note.lsn ≡ t.lsn
        by source.Unused (none, lsn) = absurd (none-some t (chosen_one full s p None (Some t) none chosen))
        by (source.Home version) (u, home, own, lsn, named) = sym lsn ∙ ap (λ (x : Text). x.lsn) (same_Some u t (chosen_one full s p (Some u) (Some t) own chosen))
        by (source.Copy version) (u, none, own, lsn, named) = sym lsn ∙ ap (λ (x : Text). x.lsn) (same_Some u t (chosen_one full s p (Some u) (Some t) own chosen))

    -- a copy that can be read from, by the note's LSN
    pub live_noted : (i : ℕ) (t : Text) → IsCopy full s p i t → IsLiveBy note t.lsn → IsLive full s p i t
    live_noted i t copy live = by note.source (said note.source is.source) live
      where
        by : (x : NoteSource) → Said x → IsLiveFrom x note.lsn t.lsn → IsLive full s p i t
        by source.Unused (none, zero_is) le = absurd (no_copies None none refl i t copy)
        by (source.Home version) (u, home, own, lsn, named) lt = record {
          copy = copy;
          above = λ w there. let e = ap (λ (x : Text). x.lsn) (holds_one u w (sym home ∙ there)) in omega (arith, e, lsn, lt);
          newest = λ none. absurd (none u home);
        }
        by (source.Copy version) (u, none, own, lsn, named) le = record {
          copy = copy;
          above = λ w there. absurd (none w there);
          newest = λ without j w c. let most = (chosen_copy u none (Some u) own refl).1 j w c in omega (arith, most, lsn, le);
        }

    pub noted_live : (i : ℕ) (t : Text) → IsLive full s p i t → IsLiveBy note t.lsn
    noted_live i t live = by note.source (said note.source is.source)
      where
        by : (x : NoteSource) → Said x → IsLiveFrom x note.lsn t.lsn
        by source.Unused (none, zero_is) = omega (arith, zero_is)
        by (source.Home version) (u, home, own, lsn, named) = let above = live.above u home in omega (arith, above, lsn)
        by (source.Copy version) (u, none, own, lsn, named) = let c = (chosen_copy u none (Some u) own refl).0 in let most = live.newest none c.0 u c.1 in omega (arith, most, lsn)

-- ---- all keys

module _ (header : HeldHeader) (versions : List ℕ) (notes : List (List PageNote)) (copies : List Copied) (log : LogView (List Change)) (active : ℕ) (es : List Event) (order : are_in_order 0 header.spaces ≡ true) (found : AreFound header versions notes copies log es) where
  abbrev hs : List HeldSpace
  hs = header.spaces

  abbrev Needed : KeyName → Type 0
  Needed = NamedAt header log active es

  abbrev OfBlocks : KeyName → Type 0
  OfBlocks = OneBelow (IsVersionKey versions) (length versions)

  abbrev OfSpaces : KeyName → Type 0
  OfSpaces = OneBelow (IsSpaceKey active hs notes) (length hs)

  abbrev OfCopies : KeyName → Type 0
  OfCopies = OneBelow (IsListedKey hs notes copies) (length copies)

  -- the keys that are looked for
  abbrev pub Sought : KeyName → Type 0
  Sought x = ((OfBlocks x ⊎ (x ≡ key_named 1 active)) ⊎ OfSpaces x) ⊎ OfCopies x

  -- the notes of the space at a place
  space_notes : (i : ℕ) → i < length hs → AreSpaceNotes es (held_at hs i) (notes_at notes i)
  space_notes i lt = pairs_nth (AreSpaceNotes es) hs notes i no_held [] found.notes_of lt

  note_of : (i p : ℕ) → i < length hs → p < (held_at hs i).pages → IsNoteOf (held_at hs i).space p (slice_index_or (notes_at notes i) p no_note) es
  note_of i p lt below = let are = space_notes i lt in are.notes_of.each p (let long = are.long in omega (arith, long, below))

  -- ---- each that is sought is needed

  of_blocks : (x : KeyName) → OfBlocks x → Needed x
  of_blocks x (i, lt, is) =
      let v : ℕ = slice_index_or versions i 0 in
      let f = found.versions_of.none v (i, lt, get_or_default versions i v 0 lt) in
      OfBlock f.0 f.1 f.2 (ap (λ (k : KeyName). k.id) is) (ap (λ (k : KeyName). k.version) is ∙ sym f.3)

  of_spaces : (x : KeyName) → OfSpaces x → Needed x
  of_spaces x (i, lt, inl is) =
      let at = place_has 0 hs i 0 order lt (place_some 0 hs i order lt) in
      OfSpace (held_at hs i).space at.has (ap (λ (k : KeyName). k.id) is ∙ sym at.key_id) (ap (λ (k : KeyName). k.version) is)
  of_spaces x (i, lt, inr (p, below, (some, is))) =
      let long = (space_notes i lt).long in
      let within : p < (held_at hs i).pages = omega (arith, long, below) in
      let at = place_has 0 hs i p order lt within in
      let t = noted_text es log (held_at hs i).space p _ (note_of i p lt within) some in
      OfChosen (held_at hs i).space p t.0 at.has t.1 (λ none. some (sym t.2 ∙ none)) (ap (λ (k : KeyName). k.id) is ∙ sym at.key_id) (ap (λ (k : KeyName). k.version) is ∙ sym t.2)

  of_copies : (x : KeyName) → OfCopies x → Needed x
  of_copies x (j, lt, is) =
      let c : Copied = slice_index_or copies j no_copied in
      let t : Text = record { lsn = c.lsn; version = c.version; bytes = c.text } in
      let listed : IsOfSlot es 64 c = subst (λ (l : List Copied). IsOfSlot es 64 (slice_index_or l j no_copied)) (sym found.copies_of) (listed_of es 64 j (subst (λ (l : List Copied). j < length l) found.copies_of lt)) in
      let at = is.is_place in
      let s : ℕ = c.space in
      let own : (held_at hs is.place).space ≡ s = at.space in
      let note : IsNoteOf s c.page (slice_index_or (notes_at notes is.place) c.page no_note) es = subst (λ (z : ℕ). IsNoteOf z c.page (slice_index_or (notes_at notes is.place) c.page no_note) es) own (note_of is.place c.page at.below at.page) in
      let copy : IsCopy (view log (read_image es)) s c.page c.index t = record { within = listed.below; is = listed.is } in
      OfSlot s c.page c.index t at.has (live_noted es log s c.page _ note c.index t copy is.live) is.key.0 (ap (λ (k : KeyName). k.id) is.key.1 ∙ sym at.key_id) (ap (λ (k : KeyName). k.version) is.key.1)

  pub sought_needed : (x : KeyName) → Sought x → Needed x
  sought_needed x (inl (inl (inl block))) = of_blocks x block
  sought_needed x (inl (inl (inr is))) = OfLog (ap (λ (k : KeyName). k.id) is) (ap (λ (k : KeyName). k.version) is)
  sought_needed x (inl (inr space)) = of_spaces x space
  sought_needed x (inr copy) = of_copies x copy

  -- ---- and each that is needed is sought

  pub needed_sought : (x : KeyName) → Needed x → Sought x
  needed_sought x (OfBlock n from end id version) =
      let f = found.versions_of.all n from end in
      let v : ℕ = block_version (block_at header.blocks (reads Log es) n) in
      let at : slice_index_or versions f.0 0 ≡ v = get_or_default versions f.0 0 v f.1 ∙ f.2 in
      inl (inl (inl (f.0, f.1, key_is x 1 (slice_index_or versions f.0 0) id (version ∙ sym at))))
  needed_sought x (OfLog id version) = inl (inl (inr (key_is x 1 active id version)))
  needed_sought x (OfSpace s has id version) =
      let f = place_found hs s 0 has in
      inl (inr (f.0, f.1.below, inl (key_is x _ active (id ∙ f.1.key_id) version)))
  needed_sought x (OfChosen s p t has chosen some id version) =
      let f = place_found hs s p has in
      let own : (held_at hs f.0).space ≡ s = f.1.space in
      let note : IsNoteOf s p (slice_index_or (notes_at notes f.0) p no_note) es = subst (λ (z : ℕ). IsNoteOf z p (slice_index_or (notes_at notes f.0) p no_note) es) own (note_of f.0 p f.1.below f.1.page) in
      let named = text_noted es log s p _ note t chosen in
      let long = (space_notes f.0 f.1.below).long in
      let page = f.1.page in
      inl (inr (f.0, f.1.below, inr (p, omega (arith, long, page), ((λ none. some (sym named ∙ none)), key_is x _ _ (id ∙ f.1.key_id) (version ∙ sym named)))))
  needed_sought x (OfSlot s p i t has live some id version) =
      let f = place_found hs s p has in
      let own : (held_at hs f.0).space ≡ s = f.1.space in
      let note : IsNoteOf s p (slice_index_or (notes_at notes f.0) p no_note) es = subst (λ (z : ℕ). IsNoteOf z p (slice_index_or (notes_at notes f.0) p no_note) es) own (note_of f.0 p f.1.below f.1.page) in
      let l = slot_listed es 64 i s p t live.copy.within live.copy.is in
      let c : slice_index_or copies l.at no_copied ≡ record { index = l.index; space = s; page = p; lsn = t.lsn; version = t.version; text = t.bytes } = ap (λ (cs : List Copied). slice_index_or cs l.at no_copied) found.copies_of ∙ l.is in
      inr (
        l.at,
        subst (λ (cs : List Copied). l.at < length cs) (sym found.copies_of) l.below,
        subst (λ (k : Copied). IsCopyKey hs notes k x) (sym c)
            (record { place = f.0; is_place = f.1; live = noted_live es log s p _ note i t live; key = (some, key_is x _ _ (id ∙ f.1.key_id) version) }),
      )

  -- ---- what was found in the end

  pub needed_all : (ring : List RingEntry) (o : Option KeyName) → LooksFor ring Sought None o → o ≡ None → AreThere ring Needed
  needed_all ring o looks none = looked_all ring Needed o (looks_as ring Sought Needed None o sought_needed needed_sought looks) none

  pub needed_least : (ring : List RingEntry) (o : Option KeyName) (name : KeyName) → LooksFor ring Sought None o → o ≡ Some name → IsLeastLacking ring Needed name
  needed_least ring o name looks some = looked_least ring Needed o name (looks_as ring Sought Needed None o sought_needed needed_sought looks) some

-- the four parts that are looked through
pub looks_all : (ring : List RingEntry) (xs : List HeaderSpace) (versions : List ℕ) (notes : List (List PageNote)) (copies : List Copied) (active : ℕ) (a b d e : Option KeyName) → LooksFor ring (OneBelow (IsVersionKey versions) (length versions)) None a → LooksFor ring (λ x. x ≡ key_named 1 active) a b
    → LooksFor ring (OneBelow (IsSpaceKey active (map space_said xs) notes) (length xs)) b d → LooksFor ring (OneBelow (IsListedKey (map space_said xs) notes copies) (length copies)) d e
    → LooksFor ring (λ x. ((OneBelow (IsVersionKey versions) (length versions) x ⊎ (x ≡ key_named 1 active)) ⊎ OneBelow (IsSpaceKey active (map space_said xs) notes) (length (map space_said xs)) x) ⊎ OneBelow (IsListedKey (map space_said xs) notes copies) (length copies) x) None e
looks_all ring xs versions notes copies active a b d e first second third fourth =
    let moved = subst (λ (n : ℕ). LooksFor ring (OneBelow (IsSpaceKey active (map space_said xs) notes) n) b d) (sym (length-map xs space_said)) third in
    looks_then ring _ _ None d e (looks_then ring _ _ None b d (looks_then ring _ _ None a b first second) moved) fourth
