-- What the steps of an opening look at of a store that recovers as it reads: its files, its pages, and the texts of its run.
use Rattle.std.proofs.Common.{◌≡◌, ℕ, suc, ◌+◌, ◌<◌, ◌≤◌, Bool, true, if◌then◌else◌, List, [], ◌∷◌, ◌++◌, length, map, slice_index_or, refl, sym, ap, subst, ◌∙◌, arith, append_assoc}
use Rattle.disk_model.specs.Event.{Event, is_there, reads}
use Rattle.key_ring.specs.Ring.{RingEntry}
use Rattle.redo_text.specs.Changes.{Begins}
use Rattle.redo_text.specs.Text.{AreAllowed, change_text, text_of}
use Rattle.redo_text.specs.declared.change.Change.{Change}
use Rattle.redo_text.proofs.ChangeLaws.{change_some, one_rest}
use Rattle.store_image.specs.Recovers as pages
use Rattle.store_image.specs.View.{Logged}
use Rattle.store_files.specs.Header.{HeldHeader, HeldSpace, are_in_order}
use Rattle.store_files.specs.Pages.{has_page}
use Rattle.store_files.specs.RingBlock.{IsMtrText}
use Rattle.store_files.specs.Run.{AreLogEntries, HasText, MakeWholeMtr}
use Rattle.store_files.proofs.RunsOnce.{text_one, whole_one}
use Rattle.store_files.proofs.SpacesInOrder.{has_first, has_rest, ordered}
use Rattle.crash_image.specs.Recovers.{AreOfStore, RunIsOfStore, SpacesLong}
use Rattle.crash_image.specs.Rest.{read_image}
use Rattle.recovery.specs.Changes.{HasNoStoreChangeAt}
use Rattle.recovery.specs.Files.{HasOtherLength, HasStoreFile, HaveStoreFiles, IsFirstMisfit, StoreFile, found_length, space_file}
use Rattle.recovery.specs.SpaceList.{held_at}
use Rattle.recovery.specs.Walks.{AllHave}
use Rattle.recovery.proofs.WalkSteps.{first_is}

-- ---- files

pub length_there : (f : StoreFile) (es : List Event) → is_there f.name es ≡ true → found_length f.name es ≡ length (reads f.name es)
length_there f es there = ap (λ (b : Bool). if b then length (reads f.name es) else 0) there

pub spaces_there : (es : List Event) (hs : List HeldSpace) → SpacesLong (read_image es) hs → AllHave (λ file. is_there file.name es ≡ true) (map space_file hs) → HaveStoreFiles (map space_file hs) es
spaces_there es [] long there = tt
spaces_there es (h ∷ hs) long there = (record { there = there.0; size = long.0 }, spaces_there es hs long.1 there.1)

pub no_misfit : (es : List Event) (files : List StoreFile) (f : StoreFile) (found : ℕ) → HaveStoreFiles files es → IsFirstMisfit files f found es → ⊥
no_misfit es files f found have misfit =
    let (x, other, has) = first_is (HasStoreFile es) (HasOtherLength f found es) (HasStoreFile es) files misfit have in
    other.other (other.is ∙ length_there x es has.there ∙ has.size)

-- ---- spaces

-- each page of each space is one of the store
pub all_in_store : (id : ℕ) (hs : List HeldSpace) → are_in_order id hs ≡ true → AllHave (λ h. (p : ℕ) → p < h.pages → has_page hs h.space p ≡ true) hs
all_in_store id [] order = tt
all_in_store id (h ∷ hs) order = let o = ordered id h hs order in (λ p lt. has_first h hs p lt, more hs (all_in_store h.space hs o.rest))
  where
    more : (xs : List HeldSpace) → AllHave (λ x. (p : ℕ) → p < x.pages → has_page hs x.space p ≡ true) xs → AllHave (λ x. (p : ℕ) → p < x.pages → has_page (h ∷ hs) x.space p ≡ true) xs
    more [] all = tt
    more (x ∷ xs) all = (λ p lt. has_rest h hs x.space p (ordered id h hs order).rest (all.0 p lt), more xs all.1)

pub by_index : {A : Type 0} (R : A → Type 0) (xs : List A) (d : A) → ((i : ℕ) → i < length xs → R (slice_index_or xs i d)) → AllHave R xs
by_index R [] d each = tt
by_index R (x ∷ xs) d each = (each 0 (omega arith), by_index R xs d (λ i lt. each (suc i) (omega (arith, lt))))

pub by_places : (R : HeldSpace → Type 0) (hs : List HeldSpace) → ((i : ℕ) → i < length hs → R (held_at hs i)) → AllHave R hs
by_places R [] each = tt
by_places R (h ∷ hs) each = (each 0 (omega arith), by_places R hs (λ i lt. each (suc i) (omega (arith, lt))))

-- ---- the text of a mini-transaction

-- a change at the front of a text of changes
behind_front : (text : List ℕ) (c : Change) (new : List ℕ) (hs : List HeldSpace) (ds : List Change) → Begins text c new → IsMtrText text ds → AreOfStore hs ds → (es : List Change) × IsMtrText new es × AreOfStore hs es
behind_front text c new hs [] begins is all = absurd (change_some c new (sym begins.is ∙ is.is))
behind_front text c new hs (d ∷ ds) begins is all =
    let other : Begins text d (text_of ds) = record { allowed = is.allowed.0; is = is.is } in
    (ds, record { is = one_rest text c d new (text_of ds) begins other; allowed = is.allowed.1 }, all.1)

-- a text of changes of the store has no place before its end where none begins
pub no_place : (hs : List HeldSpace) (at : ℕ) (text : List ℕ) (cs : List Change) → HasNoStoreChangeAt hs text at → IsMtrText text cs → AreOfStore hs cs → ⊥
no_place hs at text cs has is all = walk has.before cs text has.is has.allowed is all
  where
    stuck : (ds : List Change) → IsMtrText has.rest ds → AreOfStore hs ds → ⊥
    stuck [] own of = has.some own.is
    stuck (d ∷ ds) own of = has.none d (text_of ds) (record { allowed = own.allowed.0; is = own.is }) of.0

    walk : (bs ds : List Change) (t : List ℕ) → t ≡ text_of bs ++ has.rest → AreAllowed bs → IsMtrText t ds → AreOfStore hs ds → ⊥
    walk [] ds t same allowed own of = stuck ds (subst (λ (l : List ℕ). IsMtrText l ds) same own) of
    walk (b ∷ bs) ds t same (first, allowed) own of =
        let e : t ≡ change_text b ++ (text_of bs ++ has.rest) = same ∙ append_assoc (change_text b) (text_of bs) has.rest in
        let r = behind_front t b (text_of bs ++ has.rest) hs ds (record { allowed = first; is = e }) own of in
        walk bs r.0 (text_of bs ++ has.rest) refl allowed r.1 r.2

-- ---- an entry of the run

module _ (header : HeldHeader) (keys : List RingEntry) (file : List ℕ) where
  entries_up : (n : ℕ) (run : List (Logged (List Change))) (end : ℕ) → AreLogEntries header keys file n run end → n ≤ end
  entries_up n [] end is = omega (arith, is)
  entries_up n (e ∷ es) end (k, text, whole, has, says, first, lsn, rest) = let up = entries_up (n + k) es end rest in omega (arith, up)

  -- a whole mini-transaction behind a beginning of the run is the next of it
  pub next_entry : (hs : List HeldSpace) (number count : ℕ) (text : List ℕ) → MakeWholeMtr header.blocks file number count → HasText header keys file number count text → (n : ℕ) (before run : List (Logged (List Change))) (end : ℕ)
      → AreLogEntries header keys file n before number → AreLogEntries header keys file n run end → RunIsOfStore hs run → number + count ≤ end → (cs : List Change) × IsMtrText text cs × AreOfStore hs cs
  next_entry hs number count text whole has n [] [] end lead is all within = let some = whole.some in absurd (omega (arith, lead, is, within, some))
  next_entry hs number count text whole has n [] (e ∷ es) end lead (k, t, w, ht, says, first, lsn, rest) all within =
      let w2 : MakeWholeMtr header.blocks file n count = subst (λ (m : ℕ). MakeWholeMtr header.blocks file m count) (sym lead) whole in
      let h2 : HasText header keys file n count text = subst (λ (m : ℕ). HasText header keys file m count text) (sym lead) has in
      let same : k ≡ count = whole_one header.blocks file n k count w w2 in
      let texts : t ≡ text = text_one header keys file n count t text (subst (λ (m : ℕ). HasText header keys file n m t) same ht) h2 in
      (e.mtr, subst (λ (l : List ℕ). IsMtrText l e.mtr) texts says, all.0)
  next_entry hs number count text whole has n (d ∷ ds) [] end (j, u, v, hu, rd, fd, xd, more) is all within =
      let up = entries_up (n + j) ds number more in
      let some = whole.some in
      absurd (omega (arith, up, is, within, some))
  next_entry hs number count text whole has n (d ∷ ds) (e ∷ es) end (j, u, v, hu, rd, fd, xd, more) (k, t, w, ht, says, first, lsn, rest) all within =
      let same : j ≡ k = whole_one header.blocks file n j k v w in
      next_entry hs number count text whole has (n + k) ds es end (subst (λ (m : ℕ). AreLogEntries header keys file (n + m) ds number) same more) rest all.1 within
