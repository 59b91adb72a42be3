-- The laws of pages that the theory of crashes asks for.
use Rattle.std.proofs.Common.{◌≡◌, ℕ, ◌||◌, Bool, true, false, true≢false, nat_eq, nat_lt, if◌then◌else◌, List, [], ◌∷◌, None, refl, sym, ap, ◌∙◌, arith}
use Rattle.std.proofs.lemmas.Bool.Decides.{nat_tests}
use Rattle.std.proofs.lemmas.Bool.{or_parts}
use Rattle.page_text.specs.Text.{Plain, text}
use Rattle.key_ring.specs.Ring.{RingEntry}
use Rattle.store_image.specs.View.{Text}
use Rattle.redo_text.specs.declared.change.Change.{Change}
use Rattle.redo_text.specs.declared.change.Change.TheVariants.{Put, Kind, Touch, Floor, Encrypt}
use Rattle.store_model.specs.declared.contents.PlainPage.{PlainPage}
use Rattle.space_head.specs.declared.space.SpaceInfo.{SpaceInfo}
use Rattle.store_files.specs.Header.{HeldHeader, HeldSpace}
use Rattle.store_files.specs.Pages.{Page, Head, Unused, Used, change_names, mtr_names, page_after, mtr_acts, is_used, has_page, key_at, head_page, MeansPage}
use Rattle.store_files.proofs.HeadsOnce.{head_one}
use Rattle.store_files.proofs.TextsOnce.{plain_one}
use Rattle.store_image.proofs.ChosenTexts.{text_one}

pub has_head_page : (spaces : List HeldSpace) (s p : ℕ) → has_page spaces s p ≡ true → has_page spaces s 0 ≡ true
has_head_page [] s p is = absurd (true≢false (sym is))
has_head_page (x ∷ xs) s p is = by (nat_eq x.space s) (has_head_page xs s p) is
  where
    first : nat_lt p x.pages ≡ true → nat_lt 0 x.pages ≡ true
    first is = grind (arith, nat_tests)

    by : (b : Bool) → (has_page xs s p ≡ true → has_page xs s 0 ≡ true) → (if b then nat_lt p x.pages else has_page xs s p) ≡ true → (if b then nat_lt 0 x.pages else has_page xs s 0) ≡ true
    by true rest is = first is
    by false rest is = rest is

-- ---- what a mini-transaction does

or_right : (a b : Bool) → (a || b) ≡ false → b ≡ false
or_right false b is = is
or_right true b is = absurd (true≢false is)

pub mtr_idle : (m : List Change) (s p : ℕ) (x : Page) → mtr_names m s p ≡ false → mtr_acts m s p x ≡ x
mtr_idle [] s p x none = refl
mtr_idle (c ∷ cs) s p x none =
    ap (λ (b : Bool). mtr_acts cs s p (if b then page_after c x else x)) (or_parts (change_names c s p) (mtr_names cs s p) none).0
    ∙ mtr_idle cs s p x (or_right (change_names c s p) (mtr_names cs s p) none)

after_used : (c : Change) (x : Page) → is_used (page_after c x) ≡ true
after_used (Put s p at bytes) (Head info) = refl
after_used (Kind s p kind) (Head info) = refl
after_used (Touch s p) (Head info) = refl
after_used (Floor s v) (Head info) = refl
after_used (Encrypt s) (Head info) = refl
after_used (Put s p at bytes) Unused = refl
after_used (Kind s p kind) Unused = refl
after_used (Touch s p) Unused = refl
after_used (Floor s v) Unused = refl
after_used (Encrypt s) Unused = refl
after_used (Put s p at bytes) (Used page) = refl
after_used (Kind s p kind) (Used page) = refl
after_used (Touch s p) (Used page) = refl
after_used (Floor s v) (Used page) = refl
after_used (Encrypt s) (Used page) = refl

stays_used : (m : List Change) (s p : ℕ) (x : Page) → is_used x ≡ true → is_used (mtr_acts m s p x) ≡ true
stays_used [] s p x is = is
stays_used (c ∷ cs) s p x is = stays_used cs s p _ (by (change_names c s p))
  where
    by : (b : Bool) → is_used (if b then page_after c x else x) ≡ true
    by true = after_used c x
    by false = is

pub unused_blank : is_used Unused ≡ false
unused_blank = refl

pub mtr_uses : (m : List Change) (s p : ℕ) (x : Page) → mtr_names m s p ≡ true → is_used (mtr_acts m s p x) ≡ true
mtr_uses [] s p x named = absurd (true≢false (sym named))
mtr_uses (c ∷ cs) s p x named = by (change_names c s p) (mtr_uses cs s p x) named
  where
    by : (b : Bool) → (mtr_names cs s p ≡ true → is_used (mtr_acts cs s p x) ≡ true) → (b || mtr_names cs s p) ≡ true → is_used (mtr_acts cs s p (if b then page_after c x else x)) ≡ true
    by true rest is = stays_used cs s p (page_after c x) (after_used c x)
    by false rest is = rest is

-- ---- texts

one_page : (a b : PlainPage) → ◌≡◌ {A = Plain} (record { kind = a.kind; bytes = a.body }) (record { kind = b.kind; bytes = b.body }) → a ≡ b
one_page a b same = λ i. record { kind = (same i).kind; body = (same i).bytes }

module _ (header : HeldHeader) (keys : List RingEntry) (salts : ℕ → List ℕ) where
  pub means_one : (s p : ℕ) (t : Text) (x y : Page) → MeansPage header keys salts s p t x → MeansPage header keys salts s p t y → x ≡ y
  means_one s p t (Head a) (Head b) (z, na, ta, xa) (z', nb, tb, xb) =
      ap Head (head_one a b ta tb (plain_one 16384 s 0 t.lsn t.version None (head_page a) (head_page b) t.bytes tt xa xb))
  means_one s p t (Head a) Unused m n = elim n [ ]
  means_one s p t Unused y m n = elim m [ ]
  means_one s p t (Used a) Unused m n = elim n [ ]
  means_one s p t (Head a) (Used b) (z, na, ta, xa) (z', kb, xb) = absurd (z' z)
  means_one s p t (Used a) (Head b) (z, ka, xa) (z', nb, tb, xb) = absurd (z z')
  means_one s p t (Used a) (Used b) (z, ka, xa) (z', kb, xb) = ap Used (one_page a b (plain_one 16384 s p t.lsn t.version (key_at header keys salts s t.version) _ _ t.bytes ka xa xb))

  pub means_used : (s p : ℕ) (t : Text) (x : Page) → MeansPage header keys salts s p t x → is_used x ≡ true
  means_used s p t (Head a) m = refl
  means_used s p t Unused m = elim m [ ]
  means_used s p t (Used a) m = refl

  pub means_text : (s p : ℕ) (t u : Text) (x : Page) → MeansPage header keys salts s p t x → MeansPage header keys salts s p u x → t.lsn ≡ u.lsn → t.version ≡ u.version → t ≡ u
  means_text s p t u (Head a) (z, na, ta, xa) (z', nb, tb, xb) lsn version =
      text_one t u lsn version (xa.written ∙ (λ i. text_of_head a (lsn i) (version i)) ∙ sym xb.written)
    where
      text_of_head : (a : SpaceInfo) → ℕ → ℕ → List ℕ
      text_of_head a l v = text s 0 l v None (head_page a)
  means_text s p t u Unused m n lsn version = elim m [ ]
  means_text s p t u (Used a) (z, ka, xa) (z', kb, xb) lsn version =
      text_one t u lsn version (xa.written ∙ (λ i. text s p (lsn i) (version i) (key_at header keys salts s (version i)) (record { kind = a.kind; bytes = a.body })) ∙ sym xb.written)
