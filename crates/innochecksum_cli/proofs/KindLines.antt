-- The lines of the page types, one type more.
use Rattle.std.proofs.Common.{◌≡◌, ◌+◌, ◌||◌, ℕ, Bool, true, false, ltb, List, [], ◌∷◌, ◌++◌, cond, count_by, filter, refl, sym, ap, ◌∙◌, arith}
use Rattle.std.specs.List.{flat_map, list_any, range_with_len}
use Rattle.std.proofs.lemmas.List.{append-nil, map-id}
use Rattle.std.proofs.lemmas.List.Concat.{flat_map-append}
use Rattle.std.proofs.lemmas.List.FromFn.{filter_of_map_range_with_len_more}
use Rattle.std.proofs.lemmas.List.Sums.{sum_by-cons}
use Rattle.std.proofs.lemmas.Bool.{lt-ltb}
use Rattle.innochecksum_cli.specs.Pages.{FilePage, is_of_kind}
use Rattle.innochecksum_cli.specs.Lines.{kind_line, kind_lines}

any_by_count : (b rest : Bool) (n : ℕ) → rest ≡ ltb 0 n → (b || rest) ≡ ltb 0 (cond b 1 0 + n)
any_by_count true rest n is = sym (lt-ltb 0 (1 + n) (omega arith))
any_by_count false rest n is = is ∙ ap (ltb 0) (omega arith)

-- some element passes exactly where more than none do
pub list_any-count : {X : Type 0} (p : X → Bool) (xs : List X) → list_any p xs ≡ ltb 0 (count_by p xs)
list_any-count p [] = refl
list_any-count p (x ∷ xs) = any_by_count (p x) (list_any p xs) (count_by p xs) (list_any-count p xs) ∙ ap (ltb 0) (sym (sum_by-cons (λ y. cond (p y) 1 0) x xs))

filter_range_more : (p : ℕ → Bool) (i : ℕ) → filter p (range_with_len 0 (i + 1)) ≡ filter p (range_with_len 0 i) ++ cond (p i) (i ∷ []) []
filter_range_more p i = simp map-id at (filter_of_map_range_with_len_more p (λ (x : ℕ). x) 0 i i (omega arith))

flat_map_bit : (f : ℕ → List ℕ) (xs : List ℕ) (b : Bool) (i : ℕ) → flat_map f (xs ++ cond b (i ∷ []) []) ≡ flat_map f xs ++ cond b (f i) []
flat_map_bit f xs true i = flat_map-append f xs (i ∷ []) ∙ ap (λ (t : List ℕ). flat_map f xs ++ t) (append-nil (f i))
flat_map_bit f xs false i = ap (flat_map f) (append-nil xs) ∙ sym (append-nil (flat_map f xs))

pub kind_lines_none : (pages : List FilePage) → kind_lines 0 pages ≡ []
unfolding kind_lines
kind_lines_none pages = refl

-- one type more: its line, where some page has it
pub kind_lines_more : (pages : List FilePage) (i : ℕ)
    → kind_lines (i + 1) pages ≡ kind_lines i pages ++ cond (ltb 0 (count_by (is_of_kind i) pages)) (kind_line i (count_by (is_of_kind i) pages)) []
unfolding kind_lines
kind_lines_more pages i =
    let f : ℕ → List ℕ = λ kind. kind_line kind (count_by (is_of_kind kind) pages) in
    let p : ℕ → Bool = λ kind. list_any (is_of_kind kind) pages in
    ap (flat_map f) (filter_range_more p i) ∙ flat_map_bit f (filter p (range_with_len 0 i)) (p i) i
    ∙ ap (λ (b : Bool). flat_map f (filter p (range_with_len 0 i)) ++ cond b (f i) []) (list_any-count (is_of_kind i) pages)
