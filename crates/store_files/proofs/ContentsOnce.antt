-- Contents of a header's spaces are given by their pages, and their salts by the pages 0.
use Rattle.std.proofs.Common.{◌≡◌, ℕ, suc, ◌+◌, ◌<◌, ◌||◌, Bool, true, false, nat_eq, nat_le, if◌then◌else◌, List, [], ◌∷◌, length, Option, Some, None, refl, sym, ap, subst, ◌∙◌, arith}
use Rattle.std.specs.Prelude.{codes}
use Rattle.std.specs.Str.{bytes_eq}
use Rattle.byte_list.specs.Fields.{be32_at}
use Rattle.byte_list.specs.Bytes.{range}
use Rattle.std.proofs.lemmas.Bool.Decides.{nat_tests}
use Rattle.std.proofs.lemmas.List.{ext_get_or}
use Rattle.std.proofs.lemmas.Option.{same_Some}
use Rattle.std.proofs.lemmas.Bool.{cond-true, cond-false}
use Rattle.store_model.specs.declared.contents.PlainPage.{PlainPage}
use Rattle.store_model.specs.declared.contents.SpaceContents.{SpaceContents}
use Rattle.space_head.specs.declared.space.SpaceInfo.{SpaceInfo}
use Rattle.page_places.specs.Texts.{ends_in_sum}
use Rattle.page_places.proofs.Sums.{and_left, and_right}
use Rattle.store_files.specs.Header.{HeldHeader, HeldSpace, header_in, header_fields, is_header, are_in_order, are_allowed}
use Rattle.store_files.specs.Pages.{Head, page_held, page_in, pages_of, salts_of, has_page, HaveSpaces}
use Rattle.store_files.proofs.SpacesInOrder.{ordered, other_space, has_first, has_rest}

-- ---- a header that is read

order_of : (h : HeldHeader) → are_allowed h ≡ true → are_in_order 0 h.spaces ≡ true
unfolding are_allowed
order_of h is = and_left _ _ (and_right (nat_le (length h.spaces) 16) _ (and_right (nat_le 1 (length h.spaces)) _ (and_right (nat_le h.blocks 4096) _ (and_right (nat_le 32 h.blocks) _ is))))

fields_order : (b : List ℕ) → is_header b ≡ true → are_in_order 0 (header_fields b).spaces ≡ true
unfolding is_header
fields_order b valid =
    order_of (header_fields b) (and_right (nat_eq (be32_at b 240) 1 || nat_eq (be32_at b 240) 2) _ (and_right (nat_eq (be32_at b 12) 16384) _ (and_right (nat_eq (be32_at b 8) 2) _
    (and_right (bytes_eq (range 0 8 b) (codes "KEYSTOR1")) _ (and_right (ends_in_sum b) _ valid)))))

pub header_order : (b : List ℕ) (h : HeldHeader) → header_in b ≡ Some h → are_in_order 0 h.spaces ≡ true
unfolding header_in
header_order b h is = by (is_header b) refl is
  where
    by : (v : Bool) → is_header b ≡ v → (if v then Some (header_fields b) else None) ≡ Some h → are_in_order 0 h.spaces ≡ true
    by true valid e = subst (λ (x : HeldHeader). are_in_order 0 x.spaces ≡ true) (same_Some _ _ e) (fields_order b valid)
    by false valid e = absurd (cc)

-- what is asked of two contents of the same spaces: equal pages, p being below some bound
abbrev Same : (ℕ → Type 0) → List HeldSpace → List SpaceContents → List SpaceContents → Type 0
Same P hs c d = (s p : ℕ) → P p → has_page hs s p ≡ true → pages_of c s p ≡ pages_of d s p

same_rest : (P : ℕ → Type 0) (h : HeldSpace) (hs : List HeldSpace) (x y : SpaceContents) (xs ys : List SpaceContents) → are_in_order h.space hs ≡ true → x.info.space ≡ h.space → y.info.space ≡ h.space → Same P (h ∷ hs) (x ∷ xs) (y ∷ ys) → Same P hs xs ys
same_rest P h hs x y xs ys order ex ey same s p ok is =
    let o : nat_eq h.space s ≡ false = other_space h hs s p order is in
    let there : has_page (h ∷ hs) s p ≡ true = has_rest h hs s p order is in
    sym (cond-false (nat_eq x.info.space s) (page_in x p) (pages_of xs s p) (ap (λ (n : ℕ). nat_eq n s) ex ∙ o))
    ∙ same s p ok there
    ∙ cond-false (nat_eq y.info.space s) (page_in y p) (pages_of ys s p) (ap (λ (n : ℕ). nat_eq n s) ey ∙ o)

same_first : (P : ℕ → Type 0) (h : HeldSpace) (hs : List HeldSpace) (x y : SpaceContents) (xs ys : List SpaceContents) (p : ℕ) → x.info.space ≡ h.space → y.info.space ≡ h.space → P p → p < h.pages → Same P (h ∷ hs) (x ∷ xs) (y ∷ ys) → page_in x p ≡ page_in y p
same_first P h hs x y xs ys p ex ey ok lt same =
    let own : nat_eq h.space h.space ≡ true = grind (arith, nat_tests) in
    let there : has_page (h ∷ hs) h.space p ≡ true = has_first h hs p lt in
    sym (cond-true (nat_eq x.info.space h.space) (page_in x p) (pages_of xs h.space p) (ap (λ (n : ℕ). nat_eq n h.space) ex ∙ own))
    ∙ same h.space p ok there
    ∙ cond-true (nat_eq y.info.space h.space) (page_in y p) (pages_of ys h.space p) (ap (λ (n : ℕ). nat_eq n h.space) ey ∙ own)

pub one_head : (a b : SpaceInfo) → Head a ≡ Head b → a ≡ b
one_head a b e = cc

pub one_held : (a b : Option PlainPage) → page_held a ≡ page_held b → a ≡ b
one_held None None e = refl
one_held None (Some b) e = absurd (cc)
one_held (Some a) None e = absurd (cc)
one_held (Some a) (Some b) e = cc

one_space : (x y : SpaceContents) → length x.pages ≡ length y.pages → ((p : ℕ) → p < length x.pages + 1 → page_in x p ≡ page_in y p) → x ≡ y
one_space x y long same =
    let info : x.info ≡ y.info = one_head x.info y.info (same 0 (omega arith)) in
    let pages : x.pages ≡ y.pages = ext_get_or None x.pages y.pages long (λ i lt. one_held _ _ (same (suc i) (omega (arith, lt)))) in
    (λ i. record { info = info i; pages = pages i })

-- contents of these spaces with equal pages are equal
pub contents_one : (id : ℕ) (hs : List HeldSpace) (c d : List SpaceContents) → are_in_order id hs ≡ true → HaveSpaces hs c → HaveSpaces hs d → ((s p : ℕ) → has_page hs s p ≡ true → pages_of c s p ≡ pages_of d s p) → c ≡ d
contents_one id [] [] [] order hc hd same = refl
contents_one id [] [] (y ∷ ys) order hc hd same = absurd hd
contents_one id [] (x ∷ xs) d order hc hd same = absurd hc
contents_one id (h ∷ hs) [] d order hc hd same = absurd hc
contents_one id (h ∷ hs) (x ∷ xs) [] order hc hd same = absurd hd
contents_one id (h ∷ hs) (x ∷ xs) (y ∷ ys) order (ex, nx, kx, lx, rx) (ey, ny, ky, ly, ry) same =
    let o = ordered id h hs order in
    let all : Same (λ p. Unit {0}) (h ∷ hs) (x ∷ xs) (y ∷ ys) = λ s p ok is. same s p is in
    let first : x ≡ y = one_space x y (omega (arith, lx, ly)) (λ p lt. same_first (λ p. Unit {0}) h hs x y xs ys p ex ey tt (omega (arith, lx, lt)) all) in
    let rest : xs ≡ ys = contents_one h.space hs xs ys o.rest rx ry (λ s p is. same_rest (λ p. Unit {0}) h hs x y xs ys o.rest ex ey all s p tt is) in
    (λ i. first i ∷ rest i)

-- and contents with equal pages 0 have equal salts
pub salts_one : (id : ℕ) (hs : List HeldSpace) (c d : List SpaceContents) → are_in_order id hs ≡ true → HaveSpaces hs c → HaveSpaces hs d → ((s : ℕ) → has_page hs s 0 ≡ true → pages_of c s 0 ≡ pages_of d s 0) → (s : ℕ) → salts_of c s ≡ salts_of d s
salts_one id [] [] [] order hc hd same s = refl
salts_one id [] [] (y ∷ ys) order hc hd same s = absurd hd
salts_one id [] (x ∷ xs) d order hc hd same s = absurd hc
salts_one id (h ∷ hs) [] d order hc hd same s = absurd hc
salts_one id (h ∷ hs) (x ∷ xs) [] order hc hd same s = absurd hd
salts_one id (h ∷ hs) (x ∷ xs) (y ∷ ys) order (ex, nx, kx, lx, rx) (ey, ny, ky, ly, ry) same s =
    let o = ordered id h hs order in
    let only : Same (λ p. p ≡ 0) (h ∷ hs) (x ∷ xs) (y ∷ ys) = λ r p ok is. subst (λ (q : ℕ). pages_of (x ∷ xs) r q ≡ pages_of (y ∷ ys) r q) (sym ok) (same r (subst (λ (q : ℕ). has_page (h ∷ hs) r q ≡ true) ok is)) in
    let info : x.info ≡ y.info = one_head x.info y.info (same_first (λ p. p ≡ 0) h hs x y xs ys 0 ex ey refl (omega (arith, o.some)) only) in
    let rest : salts_of xs s ≡ salts_of ys s = salts_one h.space hs xs ys o.rest rx ry (λ r is. same_rest (λ p. p ≡ 0) h hs x y xs ys o.rest ex ey only r 0 refl is) s in
    (λ i. if nat_eq (info i).space s then (info i).salt else rest i)
