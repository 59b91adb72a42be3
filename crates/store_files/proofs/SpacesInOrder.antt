-- The spaces of a header, in order of id: which pages they have, and how many together.
use Rattle.std.proofs.Common.{◌≡◌, ℕ, ◌+◌, ◌<◌, ◌≤◌, Bool, true, false, true≢false, nat_eq, nat_lt, nat_le, if◌then◌else◌, List, [], ◌∷◌, refl, sym, ◌∙◌, arith}
use Rattle.std.proofs.lemmas.Bool.{cond-true, cond-false}
use Rattle.std.proofs.lemmas.Bool.Decides.{nat_tests}
use Rattle.page_places.proofs.Sums.{and_left, and_right}
use Rattle.store_files.specs.Header.{HeldSpace, are_in_order, pages_together}
use Rattle.store_files.specs.Pages.{has_page}

pub record Ordered (id : ℕ) (h : HeldSpace) (hs : List HeldSpace) : Type 0 where
  pub lower : id < h.space
  pub some : 2 ≤ h.pages
  pub rest : are_in_order h.space hs ≡ true

pub ordered : (id : ℕ) (h : HeldSpace) (hs : List HeldSpace) → are_in_order id (h ∷ hs) ≡ true → Ordered id h hs
unfolding are_in_order
ordered id h hs order =
    let first : nat_lt id h.space ≡ true = and_left _ _ order in
    let a = and_right (nat_lt id h.space) _ order in
    let b = and_right (nat_le h.space 4294967279) _ a in
    let pages : nat_le 2 h.pages ≡ true = and_left _ _ b in
    record { lower = grind (arith, nat_tests); some = grind (arith, nat_tests); rest = and_right (nat_le 1 h.key_id) _ (and_right (nat_le 2 h.pages) _ b) }

-- a space of a list in order is above the id before the list
pub above : (id : ℕ) (hs : List HeldSpace) (s p : ℕ) → are_in_order id hs ≡ true → has_page hs s p ≡ true → id < s
above id [] s p order is = absurd (true≢false (sym is))
above id (h ∷ hs) s p order is =
    let o = ordered id h hs order in
    by (nat_eq h.space s) refl o.lower (λ rest. above h.space hs s p o.rest rest) is
  where
    by : (b : Bool) → nat_eq h.space s ≡ b → id < h.space → (has_page hs s p ≡ true → h.space < s) → (if b then nat_lt p h.pages else has_page hs s p) ≡ true → id < s
    by true same lower later is = let e : h.space ≡ s = grind (arith, nat_tests) in omega (arith, lower, e)
    by false same lower later is = omega (arith, lower, later is)

-- a page of the later spaces is none of the first
pub other_space : (h : HeldSpace) (hs : List HeldSpace) (s p : ℕ) → are_in_order h.space hs ≡ true → has_page hs s p ≡ true → nat_eq h.space s ≡ false
other_space h hs s p order is = let lt = above h.space hs s p order is in grind (arith, nat_tests)

pub has_first : (h : HeldSpace) (hs : List HeldSpace) (p : ℕ) → p < h.pages → has_page (h ∷ hs) h.space p ≡ true
has_first h hs p lt =
    let own : nat_eq h.space h.space ≡ true = grind (arith, nat_tests) in
    let below : nat_lt p h.pages ≡ true = grind (arith, nat_tests) in
    cond-true (nat_eq h.space h.space) (nat_lt p h.pages) (has_page hs h.space p) own ∙ below

pub has_rest : (h : HeldSpace) (hs : List HeldSpace) (s p : ℕ) → are_in_order h.space hs ≡ true → has_page hs s p ≡ true → has_page (h ∷ hs) s p ≡ true
has_rest h hs s p order is = cond-false (nat_eq h.space s) (nat_lt p h.pages) (has_page hs s p) (other_space h hs s p order is) ∙ is

-- ---- from a space on

pub order_none : (id : ℕ) → are_in_order id [] ≡ true
unfolding are_in_order
order_none id = refl

pub pages_none : pages_together [] ≡ 0
unfolding pages_together
pages_none = refl

pub pages_more : (s : HeldSpace) (ss : List HeldSpace) → pages_together (s ∷ ss) ≡ s.pages + pages_together ss
unfolding pages_together
pages_more s ss = refl
