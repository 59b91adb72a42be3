-- What changes do to contents is what they do to each page: the fold of a journal, page by page.
use Rattle.std.proofs.Common.{◌≡◌, ℕ, zero, suc, ◌+◌, ◌-◌, ◌<◌, ◌&&◌, Bool, true, false, true≢false, nat_eq, nat_lt, if◌then◌else◌, List, [], ◌∷◌, length, Option, Some, None, refl, sym, ap, ◌∙◌, arith}
use Rattle.std.specs.Prelude.{slice_index_or, slice_set}
use Rattle.std.proofs.lemmas.Bool.Decides.{nat_tests}
use Rattle.std.proofs.lemmas.List.{get_or-set_same, get_or-set_other, length-set}
use Rattle.store_model.specs.Fold.{used, written, page_changed, floor_set, made_ciphered, space_changed, space_of, changed_in, changed, after, fold}
use Rattle.redo_text.specs.declared.change.Change.{Change}
use Rattle.redo_text.specs.declared.change.Change.TheVariants.{Put, Kind, Touch, Floor, Encrypt}
use Rattle.store_model.specs.declared.contents.PlainPage.{PlainPage}
use Rattle.store_model.specs.declared.contents.SpaceContents.{SpaceContents}
use Rattle.space_head.specs.declared.space.SpaceInfo.{SpaceInfo}
use Rattle.store_files.specs.Header.{HeldSpace}
use Rattle.store_files.specs.Pages.{Page, Head, Used, change_names, plain_in, page_after, mtr_acts, page_held, page_in, pages_of, salts_of, has_page, HaveSpaces}

-- ---- one page of one space

-- the page as a change of it leaves it, or as it was
abbrev acted : Change → ℕ → ℕ → Page → Page
acted c s p x = if change_names c s p then page_after c x else x

eq_sym : (a b : ℕ) (t : Bool) → nat_eq a b ≡ t → nat_eq b a ≡ t
eq_sym a b true is = grind (arith, nat_tests)
eq_sym a b false is = grind (arith, nat_tests)

-- a change of one page, in a space that it names
module _ (f : PlainPage → PlainPage) (page : ℕ) (x : SpaceContents) where
  abbrev new : ℕ → Option PlainPage
  new i = Some (f (used (slice_index_or x.pages i None)))

  set_here : (i : ℕ) → nat_eq page (suc i) ≡ true → i < length x.pages → page_in (page_changed page f x) (suc i) ≡ Used (f (plain_in (page_in x (suc i))))
  set_here i is lt =
      let some : nat_eq page 0 ≡ false = grind (arith, nat_tests) in
      let at : page - 1 ≡ i = let e : page ≡ suc i = grind (arith, nat_tests) in omega (arith, e) in
      ap (λ (b : Bool). page_held (slice_index_or (if b then x.pages else slice_set x.pages (page - 1) (new (page - 1))) i None)) some
      ∙ ap (λ (n : ℕ). page_held (slice_index_or (slice_set x.pages n (new n)) i None)) at
      ∙ ap page_held (get_or-set_same x.pages i (new i) None lt)
      ∙ ap (λ (q : PlainPage). Used (f q)) (by (slice_index_or x.pages i None))
    where
      by : (o : Option PlainPage) → used o ≡ plain_in (page_held o)
      by None = refl
      by (Some q) = refl

  set_other : (i : ℕ) → nat_eq page (suc i) ≡ false → page_in (page_changed page f x) (suc i) ≡ page_in x (suc i)
  set_other i isnt = by (nat_eq page 0) refl
    where
      by : (b : Bool) → nat_eq page 0 ≡ b → page_held (slice_index_or (if b then x.pages else slice_set x.pages (page - 1) (new (page - 1))) i None) ≡ page_held (slice_index_or x.pages i None)
      by true none = refl
      by false some = ap page_held (get_or-set_other x.pages (page - 1) i (new (page - 1)) None (λ e. no_place e some))
        where
          no_place : i ≡ page - 1 → nat_eq page 0 ≡ false → ⊥
          no_place e some = let same : nat_eq page (suc i) ≡ true = grind (arith, nat_tests) in true≢false (sym same ∙ isnt)

  -- h is what the change does to a page: nothing to a head, f to any other
  by_page : (h : Page → Page) → h (Head x.info) ≡ Head x.info → ((o : Option PlainPage) → h (page_held o) ≡ Used (f (plain_in (page_held o)))) → (p : ℕ) → p < length x.pages + 1
      → page_in (page_changed page f x) p ≡ (if nat_eq page p then h (page_in x p) else page_in x p)
  by_page h head held zero lt = by (nat_eq page 0)
    where
      by : (b : Bool) → Head x.info ≡ (if b then h (Head x.info) else Head x.info)
      by true = sym head
      by false = refl
  by_page h head held (suc i) lt = by (nat_eq page (suc i)) refl
    where
      by : (b : Bool) → nat_eq page (suc i) ≡ b → page_in (page_changed page f x) (suc i) ≡ (if b then h (page_in x (suc i)) else page_in x (suc i))
      by true is = set_here i is (omega arith) ∙ sym (held (slice_index_or x.pages i None))
      by false isnt = set_other i isnt

-- a change of a space, or of a page in it, is given to the space of its id
in_space : (x y : SpaceContents) (s p : ℕ) (q : Bool) (z : Page) → page_in y p ≡ (if q then z else page_in x p)
    → page_in (if nat_eq x.info.space s then y else x) p ≡ (if nat_eq s x.info.space && q then z else page_in x p)
in_space x y s p q z inside = by (nat_eq x.info.space s) refl
  where
    by : (b : Bool) → nat_eq x.info.space s ≡ b → page_in (if b then y else x) p ≡ (if nat_eq s x.info.space && q then z else page_in x p)
    by true is = inside ∙ sym (ap (λ (b : Bool). if b && q then z else page_in x p) (eq_sym x.info.space s true is))
    by false isnt = sym (ap (λ (b : Bool). if b && q then z else page_in x p) (eq_sym x.info.space s false isnt))

head_by : (x : SpaceContents) (info : SpaceInfo) (g : Page → Page) (p : ℕ) → Head info ≡ g (Head x.info) → page_in (record { info = info; pages = x.pages }) p ≡ (if nat_eq 0 p then g (page_in x p) else page_in x p)
head_by x info g zero is = is
head_by x info g (suc i) is = by (nat_eq 0 (suc i)) refl
  where
    by : (b : Bool) → nat_eq 0 (suc i) ≡ b → page_held (slice_index_or x.pages i None) ≡ (if b then g (page_held (slice_index_or x.pages i None)) else page_held (slice_index_or x.pages i None))
    by true isnt = absurd (zero_suc isnt)
      where
        zero_suc : nat_eq 0 (suc i) ≡ true → ⊥
        zero_suc test = let e : 0 ≡ suc i = grind (arith, nat_tests) in omega (arith, e)
    by false is = refl

-- a change leaves each page of a space as it acts on it
one_change : (c : Change) (x : SpaceContents) (p : ℕ) → p < length x.pages + 1 → page_in (changed_in c x) p ≡ acted c x.info.space p (page_in x p)
one_change (Put s page at bytes) x p lt =
    in_space x (space_changed (Put s page at bytes) x) s p (nat_eq page p) (page_after (Put s page at bytes) (page_in x p))
    (by_page (λ q. record { kind = q.kind; body = written at bytes q.body }) page x (page_after (Put s page at bytes)) refl held p lt)
  where
    held : (o : Option PlainPage) → page_after (Put s page at bytes) (page_held o) ≡ Used (record { kind = (plain_in (page_held o)).kind; body = written at bytes (plain_in (page_held o)).body })
    held None = refl
    held (Some q) = refl
one_change (Kind s page kind) x p lt =
    in_space x (space_changed (Kind s page kind) x) s p (nat_eq page p) (page_after (Kind s page kind) (page_in x p))
    (by_page (λ q. record { kind = kind; body = q.body }) page x (page_after (Kind s page kind)) refl held p lt)
  where
    held : (o : Option PlainPage) → page_after (Kind s page kind) (page_held o) ≡ Used (record { kind = kind; body = (plain_in (page_held o)).body })
    held None = refl
    held (Some q) = refl
one_change (Touch s page) x p lt =
    in_space x (space_changed (Touch s page) x) s p (nat_eq page p) (page_after (Touch s page) (page_in x p))
    (by_page (λ q. q) page x (page_after (Touch s page)) refl held p lt)
  where
    held : (o : Option PlainPage) → page_after (Touch s page) (page_held o) ≡ Used (plain_in (page_held o))
    held None = refl
    held (Some q) = refl
one_change (Floor s version) x p lt =
    in_space x (space_changed (Floor s version) x) s p (nat_eq 0 p) (page_after (Floor s version) (page_in x p)) (head_by x (floor_set version x.info) (page_after (Floor s version)) p refl)
one_change (Encrypt s) x p lt =
    in_space x (space_changed (Encrypt s) x) s p (nat_eq 0 p) (page_after (Encrypt s) (page_in x p)) (head_by x (made_ciphered x.info) (page_after (Encrypt s)) p refl)

-- ---- all spaces

-- a change keeps what a header says of a space, and the space's salt
record Keeps (x y : SpaceContents) : Type 0 where
  space : y.info.space ≡ x.info.space
  pages : y.info.pages ≡ x.info.pages
  key_id : y.info.key_id ≡ x.info.key_id
  salt : y.info.salt ≡ x.info.salt
  long : length y.pages ≡ length x.pages

keeps_page : (f : PlainPage → PlainPage) (page : ℕ) (x : SpaceContents) → Keeps x (page_changed page f x)
keeps_page f page x = record { space = refl; pages = refl; key_id = refl; salt = refl; long = by (nat_eq page 0) }
  where
    by : (b : Bool) → length (if b then x.pages else slice_set x.pages (page - 1) (Some (f (used (slice_index_or x.pages (page - 1) None))))) ≡ length x.pages
    by true = refl
    by false = length-set x.pages (page - 1) _

keeps_change : (c : Change) (x : SpaceContents) → Keeps x (space_changed c x)
keeps_change (Put s page at bytes) x = keeps_page (λ q. record { kind = q.kind; body = written at bytes q.body }) page x
keeps_change (Kind s page kind) x = keeps_page (λ q. record { kind = kind; body = q.body }) page x
keeps_change (Touch s page) x = keeps_page (λ q. q) page x
keeps_change (Floor s version) x = record { space = refl; pages = refl; key_id = refl; salt = refl; long = refl }
keeps_change (Encrypt s) x = record { space = refl; pages = refl; key_id = refl; salt = refl; long = refl }

keeps : (c : Change) (x : SpaceContents) → Keeps x (changed_in c x)
keeps c x = by (nat_eq x.info.space (space_of c))
  where
    by : (b : Bool) → Keeps x (if b then space_changed c x else x)
    by true = keeps_change c x
    by false = record { space = refl; pages = refl; key_id = refl; salt = refl; long = refl }

pub spaces_changed : (c : Change) (hs : List HeldSpace) (xs : List SpaceContents) → HaveSpaces hs xs → HaveSpaces hs (changed c xs)
spaces_changed c [] [] have = tt
spaces_changed c [] (x ∷ xs) have = absurd have
spaces_changed c (h ∷ hs) [] have = absurd have
spaces_changed c (h ∷ hs) (x ∷ xs) (s, n, k, l, rest) = let e = keeps c x in (e.space ∙ s, e.pages ∙ n, e.key_id ∙ k, omega (arith, l, e.long), spaces_changed c hs xs rest)

pub salts_changed : (c : Change) (xs : List SpaceContents) (s : ℕ) → salts_of (changed c xs) s ≡ salts_of xs s
salts_changed c [] s = refl
salts_changed c (x ∷ xs) s = let e = keeps c x in (λ i. if nat_eq (e.space i) s then e.salt i else salts_changed c xs s i)

pub pages_changed : (c : Change) (hs : List HeldSpace) (xs : List SpaceContents) → HaveSpaces hs xs → (s p : ℕ) → has_page hs s p ≡ true → pages_of (changed c xs) s p ≡ acted c s p (pages_of xs s p)
pages_changed c [] xs have s p there = absurd (true≢false (sym there))
pages_changed c (h ∷ hs) [] have s p there = absurd have
pages_changed c (h ∷ hs) (x ∷ xs) (e, n, k, l, rest) s p there = by (nat_eq h.space s) refl (pages_changed c hs xs rest s p) there
  where
    same_space : nat_eq h.space s ≡ true → x.info.space ≡ s
    same_space is = let a : h.space ≡ s = grind (arith, nat_tests) in e ∙ a

    inside : nat_lt p h.pages ≡ true → p < length x.pages + 1
    inside test = let lt : p < h.pages = grind (arith, nat_tests) in omega (arith, lt, l)

    by : (b : Bool) → nat_eq h.space s ≡ b → (has_page hs s p ≡ true → pages_of (changed c xs) s p ≡ acted c s p (pages_of xs s p)) → (if b then nat_lt p h.pages else has_page hs s p) ≡ true
        → (if nat_eq (changed_in c x).info.space s then page_in (changed_in c x) p else pages_of (changed c xs) s p) ≡ acted c s p (if nat_eq x.info.space s then page_in x p else pages_of xs s p)
    by true is later lt =
        let own : nat_eq x.info.space s ≡ true = ap (λ (m : ℕ). nat_eq m s) e ∙ is in
        let kept : nat_eq (changed_in c x).info.space s ≡ true = ap (λ (m : ℕ). nat_eq m s) (keeps c x).space ∙ own in
        ap (λ (b : Bool). if b then page_in (changed_in c x) p else pages_of (changed c xs) s p) kept
        ∙ one_change c x p (inside lt)
        ∙ ap (λ (m : ℕ). acted c m p (page_in x p)) (same_space is)
        ∙ sym (ap (λ (b : Bool). acted c s p (if b then page_in x p else pages_of xs s p)) own)
    by false isnt later rest_there =
        let other : nat_eq x.info.space s ≡ false = ap (λ (m : ℕ). nat_eq m s) e ∙ isnt in
        let kept : nat_eq (changed_in c x).info.space s ≡ false = ap (λ (m : ℕ). nat_eq m s) (keeps c x).space ∙ other in
        ap (λ (b : Bool). if b then page_in (changed_in c x) p else pages_of (changed c xs) s p) kept
        ∙ later rest_there
        ∙ sym (ap (λ (b : Bool). acted c s p (if b then page_in x p else pages_of xs s p)) other)

-- ---- a mini-transaction, and a journal

pub spaces_after : (m : List Change) (hs : List HeldSpace) (xs : List SpaceContents) → HaveSpaces hs xs → HaveSpaces hs (after m xs)
spaces_after [] hs xs have = have
spaces_after (c ∷ cs) hs xs have = spaces_after cs hs (changed c xs) (spaces_changed c hs xs have)

pub salts_after : (m : List Change) (xs : List SpaceContents) (s : ℕ) → salts_of (after m xs) s ≡ salts_of xs s
salts_after [] xs s = refl
salts_after (c ∷ cs) xs s = salts_after cs (changed c xs) s ∙ salts_changed c xs s

pub pages_after : (m : List Change) (hs : List HeldSpace) (xs : List SpaceContents) → HaveSpaces hs xs → (s p : ℕ) → has_page hs s p ≡ true → pages_of (after m xs) s p ≡ mtr_acts m s p (pages_of xs s p)
pages_after [] hs xs have s p there = refl
pages_after (c ∷ cs) hs xs have s p there = pages_after cs hs (changed c xs) (spaces_changed c hs xs have) s p there ∙ ap (mtr_acts cs s p) (pages_changed c hs xs have s p there)

pub spaces_folded : (ms : List (List Change)) (hs : List HeldSpace) (xs : List SpaceContents) → HaveSpaces hs xs → HaveSpaces hs (fold ms xs)
spaces_folded [] hs xs have = have
spaces_folded (m ∷ ms) hs xs have = spaces_folded ms hs (after m xs) (spaces_after m hs xs have)

pub salts_folded : (ms : List (List Change)) (xs : List SpaceContents) (s : ℕ) → salts_of (fold ms xs) s ≡ salts_of xs s
salts_folded [] xs s = refl
salts_folded (m ∷ ms) xs s = salts_folded ms (after m xs) s ∙ salts_after m xs s
