-- The changes of a mini-transaction are noted one after another.
use Rattle.std.proofs.Common.{◌≡◌, ◌≢◌, ◌⊎◌, ℕ, zero, suc, ◌+◌, ◌<◌, ◌≤◌, Bool, true, false, true≢false, nat_eq, nat_le, ◌&&◌, ◌||◌, if◌then◌else◌, List, [], ◌∷◌, ◌++◌, length, slice_index_or, refl, sym, ap, subst, ◌∙◌, arith, inl, inr, ⊎_elim}
use Rattle.std.specs.Prelude.{slice_set}
use Rattle.std.proofs.lemmas.Bool.{cases_eq, cases_lt, cases_Bool}
use Rattle.std.proofs.lemmas.Bool.Decides.{nat_tests}
use Rattle.std.proofs.lemmas.List.{get_or-set_same, get_or-set_other, length-set}
use Rattle.doublewrite.specs.Restore.{no_space, space_at}
use Rattle.redo_text.specs.Changes.{Begins, BeginsWithNone}
use Rattle.redo_text.specs.Text.{change_text, text_of}
use Rattle.redo_text.specs.declared.change.Change.{Change}
use Rattle.redo_text.specs.declared.change.Change.TheVariants.{Put, Kind, Touch, Floor, Encrypt}
use Rattle.redo_text.proofs.ChangeLaws.{change_some, one_change}
use Rattle.space_head.specs.declared.space.SpaceInfo.{SpaceInfo}
use Rattle.store_files.specs.Header.{HeldSpace, are_in_order}
use Rattle.store_files.specs.Pages.{Page, Head, change_names, has_page, mtr_acts, mtr_names, page_after}
use Rattle.store_files.specs.RingBlock.{IsMtrText}
use Rattle.store_model.specs.Fold.{space_of}
use Rattle.image_log.proofs.ChangeLists.{ReadsUpTo, length_joined, reads_end, reads_first, reads_next}
use Rattle.crash_image.specs.Recovers.{IsOfStore, AreOfStore}
use Rattle.recovery.specs.Changes.{FitLast, HasNoStoreChangeAt, NotesMtr, head_lsn, info_after, lsn_at, page_named}
use Rattle.recovery.specs.Heads.{AreInfosFor, IsInfoFor}
use Rattle.recovery.specs.SpaceList.{IsPlaceOf, held_at}
use Rattle.recovery.specs.Walks.{PairsHave}
use Rattle.recovery.specs.declared.changes.RunChanges.{RunChanges}
use Rattle.recovery.specs.declared.notes.PageNote.{PageNote}
use Rattle.recovery.proofs.PlaceSteps.{one_place}

-- ---- one change

pub names_by : (c : Change) (s p : ℕ) → change_names c s p ≡ (nat_eq (space_of c) s && nat_eq (page_named c) p)
names_by (Put z page at bytes) s p = refl
names_by (Kind z page kind) s p = refl
names_by (Touch z page) s p = refl
names_by (Floor z version) s p = refl
names_by (Encrypt z) s p = refl

pub of_store_is : (hs : List HeldSpace) (c : Change) → has_page hs (space_of c) (page_named c) ≡ true → IsOfStore hs c
of_store_is hs (Put z page at bytes) has = has
of_store_is hs (Kind z page kind) has = has
of_store_is hs (Touch z page) has = has
of_store_is hs (Floor z version) has = has
of_store_is hs (Encrypt z) has = has

pub is_of_store : (hs : List HeldSpace) (c : Change) → IsOfStore hs c → has_page hs (space_of c) (page_named c) ≡ true
is_of_store hs (Put z page at bytes) has = has
is_of_store hs (Kind z page kind) has = has
is_of_store hs (Touch z page) has = has
is_of_store hs (Floor z version) has = has
is_of_store hs (Encrypt z) has = has

pub all_of_store : (hs : List HeldSpace) (cs : List Change) (c : Change) → AreOfStore hs cs → IsOfStore hs c → AreOfStore hs (cs ++ c ∷ [])
all_of_store hs [] c are is = (is, tt)
all_of_store hs (d ∷ ds) c are is = (are.0, all_of_store hs ds c are.1 is)

same_page : (b : Bool) (x : Page) → (if b then x else x) ≡ x
same_page true x = refl
same_page false x = refl

same_info : (b : Bool) (x : SpaceInfo) → (if b then x else x) ≡ x
same_info true x = refl
same_info false x = refl

with_zero : (b : Bool) (x y : Page) → (if b && nat_eq 0 0 then x else y) ≡ (if b then x else y)
with_zero true x y = let e : nat_eq 0 0 ≡ true = grind (arith, nat_tests) in ap (λ (t : Bool). if t then x else y) e
with_zero false x y = refl

head_if : (b : Bool) (x y : SpaceInfo) → (if b then Head x else Head y) ≡ Head (if b then x else y)
head_if true x y = refl
head_if false x y = refl

-- page 0 after a change that may be of another page
pub head_after : (c : Change) (s : ℕ) (info : SpaceInfo) → (if change_names c s 0 then page_after c (Head info) else Head info) ≡ Head (if nat_eq (space_of c) s then info_after c info else info)
head_after (Put z page at bytes) s info = same_page (nat_eq z s && nat_eq page 0) (Head info) ∙ ap Head (sym (same_info (nat_eq z s) info))
head_after (Kind z page kind) s info = same_page (nat_eq z s && nat_eq page 0) (Head info) ∙ ap Head (sym (same_info (nat_eq z s) info))
head_after (Touch z page) s info = same_page (nat_eq z s && nat_eq page 0) (Head info) ∙ ap Head (sym (same_info (nat_eq z s) info))
head_after (Floor z version) s info = with_zero (nat_eq z s) (Head (info_after (Floor z version) info)) (Head info) ∙ head_if (nat_eq z s) (info_after (Floor z version) info) info
head_after (Encrypt z) s info = with_zero (nat_eq z s) (Head (info_after (Encrypt z) info)) (Head info) ∙ head_if (nat_eq z s) (info_after (Encrypt z) info) info

pub info_stays : (c : Change) (info : SpaceInfo) → ((info_after c info).space ≡ info.space) × ((info_after c info).pages ≡ info.pages) × ((info_after c info).key_id ≡ info.key_id)
info_stays (Put z page at bytes) info = (refl, refl, refl)
info_stays (Kind z page kind) info = (refl, refl, refl)
info_stays (Touch z page) info = (refl, refl, refl)
info_stays (Floor z version) info = (refl, refl, refl)
info_stays (Encrypt z) info = (refl, refl, refl)

-- ---- one change more

names_more : (cs : List Change) (c : Change) (s p : ℕ) → mtr_names (cs ++ c ∷ []) s p ≡ (mtr_names cs s p || change_names c s p)
names_more [] c s p = none (change_names c s p)
  where
    none : (b : Bool) → (b || false) ≡ b
    none true = refl
    none false = refl
names_more (d ∷ ds) c s p = ap (λ (b : Bool). change_names d s p || b) (names_more ds c s p) ∙ sym (both (change_names d s p) (mtr_names ds s p) (change_names c s p))
  where
    both : (x y z : Bool) → ((x || y) || z) ≡ (x || (y || z))
    both true y z = refl
    both false y z = refl

acts_more : (cs : List Change) (c : Change) (s p : ℕ) (x : Page) → mtr_acts (cs ++ c ∷ []) s p x ≡ (if change_names c s p then page_after c (mtr_acts cs s p x) else mtr_acts cs s p x)
acts_more [] c s p x = refl
acts_more (d ∷ ds) c s p x = acts_more ds c s p (if change_names d s p then page_after d x else x)

if_true : {A : Type 0} (b : Bool) (x y : A) → b ≡ true → (if b then x else y) ≡ x
if_true b x y is = ap (λ (t : Bool). if t then x else y) is

if_false : {A : Type 0} (b : Bool) (x y : A) → b ≡ false → (if b then x else y) ≡ y
if_false b x y is = ap (λ (t : Bool). if t then x else y) is

or_true : (b : Bool) → (b || true) ≡ true
or_true true = refl
or_true false = refl

or_false : (b : Bool) → (b || false) ≡ b
or_false true = refl
or_false false = refl

module _ (hs : List HeldSpace) (notes : List (List PageNote)) (lsn : ℕ) (order : are_in_order 0 hs ≡ true) (cs : List Change) (c : Change) (old now new : RunChanges) (i : ℕ) (takes : NotesMtr hs notes lsn cs old now) (at : IsPlaceOf hs (space_of c) (page_named c) i) where
  abbrev row : List ℕ
  row = slice_index_or now.last i []

  -- the space at another place is another
  other : (j : ℕ) → j < length hs → j ≢ i → nat_eq (space_of c) (held_at hs j).space ≡ false
  other j lt differ = by (cases_eq (space_of c) (held_at hs j).space)
    where
      by : (space_of c ≡ (held_at hs j).space) ⊎ (space_of c ≡ (held_at hs j).space → ⊥) → nat_eq (space_of c) (held_at hs j).space ≡ false
      by (inl same) = absurd (differ (sym (one_place 0 hs i j order at.below lt (at.space ∙ same))))
      by (inr apart) = grind (arith, nat_tests)

  own : nat_eq (space_of c) (held_at hs i).space ≡ true
  own = let same = at.space in grind (arith, nat_tests)

  unnamed : (j q : ℕ) → change_names c (held_at hs j).space q ≡ false → (if mtr_names (cs ++ c ∷ []) (held_at hs j).space q then lsn else lsn_at old.last j q) ≡ (if mtr_names cs (held_at hs j).space q then lsn else lsn_at old.last j q)
  unnamed j q none =
      ap (λ (b : Bool). if b then lsn else lsn_at old.last j q) (names_more cs c (held_at hs j).space q ∙ ap (λ (b : Bool). mtr_names cs (held_at hs j).space q || b) none ∙ or_false (mtr_names cs (held_at hs j).space q))

  module _ (fit : FitLast hs now.last) (set : new.last ≡ slice_set now.last i (slice_set row (page_named c) lsn)) where
    within : i < length now.last
    within = let long = fit.long in let lt = at.below in omega (arith, long, lt)

    in_row : page_named c < length row
    in_row = let long = fit.pages i at.below in let lt = at.page in omega (arith, long, lt)

    row_is : slice_index_or new.last i [] ≡ slice_set row (page_named c) lsn
    row_is = ap (λ (l : List (List ℕ)). slice_index_or l i []) set ∙ get_or-set_same now.last i (slice_set row (page_named c) lsn) [] within

    last_more : (j q : ℕ) → j < length hs → q < (held_at hs j).pages → lsn_at new.last j q ≡ (if mtr_names (cs ++ c ∷ []) (held_at hs j).space q then lsn else lsn_at old.last j q)
    last_more j q lt below = by_place (cases_eq j i)
      where
        by_page : j ≡ i → (q ≡ page_named c) ⊎ (q ≡ page_named c → ⊥) → lsn_at new.last j q ≡ (if mtr_names (cs ++ c ∷ []) (held_at hs j).space q then lsn else lsn_at old.last j q)
        by_page here (inl same) =
            let test : nat_eq (page_named c) q ≡ true = grind (arith, nat_tests) in
            let named : change_names c (held_at hs j).space q ≡ true = names_by c (held_at hs j).space q ∙ ap (λ (b : Bool). b && nat_eq (page_named c) q) (ap (λ (k : ℕ). nat_eq (space_of c) (held_at hs k).space) here ∙ own) ∙ test in
            let all : mtr_names (cs ++ c ∷ []) (held_at hs j).space q ≡ true = names_more cs c (held_at hs j).space q ∙ ap (λ (b : Bool). mtr_names cs (held_at hs j).space q || b) named ∙ or_true (mtr_names cs (held_at hs j).space q) in
            ap (λ (k : ℕ). slice_index_or (slice_index_or new.last k []) q 0) here
            ∙ ap (λ (l : List ℕ). slice_index_or l q 0) row_is
            ∙ ap (λ (k : ℕ). slice_index_or (slice_set row (page_named c) lsn) k 0) same
            ∙ get_or-set_same row (page_named c) lsn 0 in_row
            ∙ sym (if_true _ lsn (lsn_at old.last j q) all)
        by_page here (inr apart) =
            let test : nat_eq (page_named c) q ≡ false = grind (arith, nat_tests) in
            let none : change_names c (held_at hs j).space q ≡ false = names_by c (held_at hs j).space q ∙ ap (λ (b : Bool). b && nat_eq (page_named c) q) (ap (λ (k : ℕ). nat_eq (space_of c) (held_at hs k).space) here ∙ own) ∙ test in
            ap (λ (k : ℕ). slice_index_or (slice_index_or new.last k []) q 0) here
            ∙ ap (λ (l : List ℕ). slice_index_or l q 0) row_is
            ∙ get_or-set_other row (page_named c) q lsn 0 apart
            ∙ ap (λ (k : ℕ). slice_index_or (slice_index_or now.last k []) q 0) (sym here)
            ∙ takes.last j q lt below
            ∙ sym (unnamed j q none)

        by_place : (j ≡ i) ⊎ (j ≡ i → ⊥) → lsn_at new.last j q ≡ (if mtr_names (cs ++ c ∷ []) (held_at hs j).space q then lsn else lsn_at old.last j q)
        by_place (inl here) = by_page here (cases_eq q (page_named c))
        by_place (inr apart) =
            let none : change_names c (held_at hs j).space q ≡ false = names_by c (held_at hs j).space q ∙ ap (λ (b : Bool). b && nat_eq (page_named c) q) (other j lt apart) in
            ap (λ (l : List (List ℕ)). slice_index_or (slice_index_or l j []) q 0) set
            ∙ ap (λ (l : List ℕ). slice_index_or l q 0) (get_or-set_other now.last i j (slice_set row (page_named c) lsn) [] apart)
            ∙ takes.last j q lt below
            ∙ sym (unnamed j q none)

  module _ (long : length now.spaces ≡ length hs) (later : head_lsn notes i < lsn → new.spaces ≡ slice_set now.spaces i (info_after c (space_at now.spaces i))) (earlier : lsn ≤ head_lsn notes i → new.spaces ≡ now.spaces) where
    abbrev Wanted : ℕ → Type 0
    Wanted j = Head (space_at new.spaces j) ≡ (if nat_le lsn (head_lsn notes j) then Head (space_at old.spaces j) else mtr_acts (cs ++ c ∷ []) (held_at hs j).space 0 (Head (space_at old.spaces j)))

    -- the space at another place stays
    stays : (j : ℕ) → j ≢ i → space_at new.spaces j ≡ space_at now.spaces j
    stays j apart = ⊎_elim
        (λ (above : head_lsn notes i < lsn). ap (λ (l : List SpaceInfo). space_at l j) (later above) ∙ get_or-set_other now.spaces i j (info_after c (space_at now.spaces i)) no_space apart)
        (λ (below : lsn ≤ head_lsn notes i). ap (λ (l : List SpaceInfo). space_at l j) (earlier below)) (cases_lt (head_lsn notes i) lsn)

    within_spaces : i < length now.spaces
    within_spaces = let lt = at.below in omega (arith, long, lt)

    -- what the changes make of page 0, where they are later
    acted : (j : ℕ) → j < length hs → nat_le lsn (head_lsn notes j) ≡ false → mtr_acts (cs ++ c ∷ []) (held_at hs j).space 0 (Head (space_at old.spaces j)) ≡ Head (if nat_eq (space_of c) (held_at hs j).space then info_after c (space_at now.spaces j) else space_at now.spaces j)
    acted j lt test =
        let before : mtr_acts cs (held_at hs j).space 0 (Head (space_at old.spaces j)) ≡ Head (space_at now.spaces j) = sym (takes.heads j lt ∙ if_false _ (Head (space_at old.spaces j)) (mtr_acts cs (held_at hs j).space 0 (Head (space_at old.spaces j))) test) in
        acts_more cs c (held_at hs j).space 0 (Head (space_at old.spaces j))
        ∙ ap (λ (x : Page). if change_names c (held_at hs j).space 0 then page_after c x else x) before
        ∙ head_after c (held_at hs j).space (space_at now.spaces j)

    heads_more : (j : ℕ) → j < length hs → Wanted j
    heads_more j lt = by (cases_Bool (nat_le lsn (head_lsn notes j)))
      where
        by_place : nat_le lsn (head_lsn notes j) ≡ false → (j ≡ i) ⊎ (j ≡ i → ⊥) → Head (space_at new.spaces j) ≡ Head (if nat_eq (space_of c) (held_at hs j).space then info_after c (space_at now.spaces j) else space_at now.spaces j)
        by_place test (inl here) =
            let above : head_lsn notes j < lsn = grind (arith, nat_tests) in
            let set = later (subst (λ (k : ℕ). head_lsn notes k < lsn) here above) in
            let new_is : space_at new.spaces i ≡ info_after c (space_at now.spaces i) = ap (λ (l : List SpaceInfo). space_at l i) set ∙ get_or-set_same now.spaces i (info_after c (space_at now.spaces i)) no_space within_spaces in
            ap Head (subst (λ (k : ℕ). space_at new.spaces k ≡ (if nat_eq (space_of c) (held_at hs k).space then info_after c (space_at now.spaces k) else space_at now.spaces k)) (sym here)
            (new_is ∙ sym (if_true _ (info_after c (space_at now.spaces i)) (space_at now.spaces i) own)))
        by_place test (inr apart) = ap Head (stays j apart ∙ sym (if_false _ (info_after c (space_at now.spaces j)) (space_at now.spaces j) (other j lt apart)))

        same_at : lsn ≤ head_lsn notes j → (j ≡ i) ⊎ (j ≡ i → ⊥) → space_at new.spaces j ≡ space_at now.spaces j
        same_at le (inl here) = ap (λ (l : List SpaceInfo). space_at l j) (earlier (subst (λ (k : ℕ). lsn ≤ head_lsn notes k) here le))
        same_at le (inr apart) = stays j apart

        by : (nat_le lsn (head_lsn notes j) ≡ true) ⊎ (nat_le lsn (head_lsn notes j) ≡ false) → Wanted j
        by (inl test) =
            let le : lsn ≤ head_lsn notes j = grind (arith, nat_tests) in
            ap Head (same_at le (cases_eq j i)) ∙ takes.heads j lt ∙ if_true _ (Head (space_at old.spaces j)) (mtr_acts cs (held_at hs j).space 0 (Head (space_at old.spaces j))) test
            ∙ sym (if_true _ (Head (space_at old.spaces j)) (mtr_acts (cs ++ c ∷ []) (held_at hs j).space 0 (Head (space_at old.spaces j))) test)
        by (inr test) = by_place test (cases_eq j i) ∙ sym (acted j lt test) ∙ sym (if_false _ (Head (space_at old.spaces j)) (mtr_acts (cs ++ c ∷ []) (held_at hs j).space 0 (Head (space_at old.spaces j))) test)

  -- One change more is noted.
  pub takes_more : FitLast hs now.last → length now.spaces ≡ length hs → new.last ≡ slice_set now.last i (slice_set row (page_named c) lsn) → (head_lsn notes i < lsn → new.spaces ≡ slice_set now.spaces i (info_after c (space_at now.spaces i))) → (lsn ≤ head_lsn notes i → new.spaces ≡ now.spaces)
      → NotesMtr hs notes lsn (cs ++ c ∷ []) old new
  takes_more fit long set later earlier = record { last = last_more fit set; heads = heads_more long later earlier }

pub takes_none : (hs : List HeldSpace) (notes : List (List PageNote)) (lsn : ℕ) (old : RunChanges) → NotesMtr hs notes lsn [] old old
takes_none hs notes lsn old = record { last = λ i p lt below. refl; heads = λ i lt. sym (same_page (nat_le lsn (head_lsn notes i)) (Head (space_at old.spaces i))) }

-- ---- the text of a mini-transaction

-- RunChanges of the store's pages were read and noted, and the rest is left.
pub record TakesUpTo (hs : List HeldSpace) (notes : List (List PageNote)) (lsn : ℕ) (text rest : List ℕ) (at : ℕ) (old now : RunChanges) : Type 0 where
  pub cs : List Change
  pub reads : ReadsUpTo text cs rest
  pub at_is : at ≡ length (text_of cs)
  pub of_store : AreOfStore hs cs
  pub takes : NotesMtr hs notes lsn cs old now

pub upto_none : (hs : List HeldSpace) (notes : List (List PageNote)) (lsn : ℕ) (text : List ℕ) (old : RunChanges) → TakesUpTo hs notes lsn text text 0 old old
upto_none hs notes lsn text old = record { cs = []; reads = reads_first text; at_is = refl; of_store = tt; takes = takes_none hs notes lsn old }

module _ (hs : List HeldSpace) (notes : List (List PageNote)) (lsn : ℕ) (text rest : List ℕ) (at : ℕ) (old now : RunChanges) (upto : TakesUpTo hs notes lsn text rest at old now) where
  pub upto_end : rest ≡ [] → (cs : List Change) × IsMtrText text cs × AreOfStore hs cs × NotesMtr hs notes lsn cs old now
  upto_end none = (upto.cs, reads_end text upto.cs rest upto.reads none, upto.of_store, upto.takes)

  -- no change begins
  pub upto_stuck : rest ≢ [] → BeginsWithNone rest → HasNoStoreChangeAt hs text at
  upto_stuck some none = record { before = upto.cs; rest = rest; is = upto.reads.is; allowed = upto.reads.allowed; of_store = upto.of_store; at_is = upto.at_is; some = some; none = λ c tail begins of_store. none c tail begins }

  -- one begins of a page that the store hasn't
  pub upto_other : (c : Change) (tail : List ℕ) → Begins rest c tail → has_page hs (space_of c) (page_named c) ≡ false → HasNoStoreChangeAt hs text at
  upto_other c tail begins none = record {
    before = upto.cs;
    rest = rest;
    is = upto.reads.is;
    allowed = upto.reads.allowed;
    of_store = upto.of_store;
    at_is = upto.at_is;
    some = λ empty. change_some c tail (sym begins.is ∙ empty);
    none = λ d more other of_store.
        let same : c ≡ d = one_change rest c d tail more begins other in
        true≢false (sym (is_of_store hs d of_store) ∙ ap (λ (x : Change). has_page hs (space_of x) (page_named x)) (sym same) ∙ none);
  }

  -- one of the store's pages is noted
  pub upto_more : are_in_order 0 hs ≡ true → (c : Change) (tail : List ℕ) (next i : ℕ) (new : RunChanges) → Begins rest c tail → IsPlaceOf hs (space_of c) (page_named c) i → next ≡ at + length (change_text c) → FitLast hs now.last → length now.spaces ≡ length hs
      → new.last ≡ slice_set now.last i (slice_set (slice_index_or now.last i []) (page_named c) lsn) → (head_lsn notes i < lsn → new.spaces ≡ slice_set now.spaces i (info_after c (space_at now.spaces i))) → (lsn ≤ head_lsn notes i → new.spaces ≡ now.spaces)
      → TakesUpTo hs notes lsn text tail next old new
  upto_more order c tail next i new begins place next_is fit long set later earlier = record {
    cs = upto.cs ++ c ∷ [];
    reads = reads_next text upto.cs rest c tail upto.reads begins;
    at_is = next_is ∙ ap (λ (n : ℕ). n + length (change_text c)) upto.at_is ∙ sym (length_joined upto.cs c);
    of_store = all_of_store hs upto.cs c upto.of_store (of_store_is hs c place.has);
    takes = takes_more hs notes lsn order upto.cs c old now new i upto.takes place fit long set later earlier;
  }

-- ---- what is noted keeps its lengths

pub fit_set : (hs : List HeldSpace) (last new : List (List ℕ)) (i page lsn : ℕ) → FitLast hs last → new ≡ slice_set last i (slice_set (slice_index_or last i []) page lsn) → FitLast hs new
fit_set hs last new i page lsn fit set = record {
  long = ap length set ∙ length-set last i (slice_set (slice_index_or last i []) page lsn) ∙ fit.long;
  pages = λ j lt. by j lt (cases_eq j i);
}
  where
    row : List ℕ
    row = slice_set (slice_index_or last i []) page lsn

    by : (j : ℕ) → j < length hs → (j ≡ i) ⊎ (j ≡ i → ⊥) → length (slice_index_or new j []) ≡ (held_at hs j).pages
    by j lt (inl here) =
        let long = fit.long in
        let within : i < length last = omega (arith, long, lt, here) in
        ap (λ (l : List (List ℕ)). length (slice_index_or l j [])) set
        ∙ ap (λ (k : ℕ). length (slice_index_or (slice_set last i row) k [])) here
        ∙ ap length (get_or-set_same last i row [] within)
        ∙ length-set (slice_index_or last i []) page lsn
        ∙ ap (λ (k : ℕ). length (slice_index_or last k [])) (sym here)
        ∙ fit.pages j lt
    by j lt (inr apart) = ap (λ (l : List (List ℕ)). length (slice_index_or l j [])) set ∙ ap length (get_or-set_other last i j row [] apart) ∙ fit.pages j lt

pairs_set : {A B : Type 0} (R : A → B → Type 0) (xs : List A) (ys : List B) (i : ℕ) (y d : B) → PairsHave R xs ys → ((x : A) → R x (slice_index_or ys i d) → R x y) → PairsHave R xs (slice_set ys i y)
pairs_set R [] [] i y d have more = tt
pairs_set R [] (z ∷ zs) i y d have more = absurd have
pairs_set R (x ∷ xs) [] i y d have more = absurd have
pairs_set R (x ∷ xs) (z ∷ zs) zero y d have more = (more x have.0, have.1)
pairs_set R (x ∷ xs) (z ∷ zs) (suc i) y d have more = (have.0, pairs_set R xs zs i y d have.1 more)

-- a space keeps its id, its pages and its key id
pub infos_set : (hs : List HeldSpace) (infos : List SpaceInfo) (i : ℕ) (c : Change) → AreInfosFor hs infos → AreInfosFor hs (slice_set infos i (info_after c (space_at infos i)))
infos_set hs infos i c fit = pairs_set IsInfoFor hs infos i (info_after c (space_at infos i)) no_space fit (λ h is. let stays = info_stays c (space_at infos i) in record { space = stays.0 ∙ is.space; pages = stays.1 ∙ is.pages; key_id = stays.2 ∙ is.key_id })
