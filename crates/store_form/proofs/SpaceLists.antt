-- The spaces of a header, one by one.
use Rattle.std.proofs.Common.{◌≡◌, ℕ, zero, suc, ◌+◌, ◌*◌, ◌<◌, ◌&&◌, Bool, true, false, nat_le, nat_lt, List, [], ◌∷◌, ◌++◌, length, take, drop, map, slice_index_or, refl, sym, ap, ◌∙◌, arith}
use Rattle.std.specs.Prelude.{slice_set}
use Rattle.std.proofs.lemmas.List.{take_more_set}
use Rattle.byte_list.specs.Fields.{be32_at}
use Rattle.store_files.specs.Header.{HeldSpace, spaces_at, are_in_order}
use Rattle.store_form.specs.Said.{space_said}
use Rattle.store_form.specs.declared.header.HeaderSpace.{HeaderSpace}

abbrev pub space_read : List ℕ → ℕ → HeldSpace
space_read b at = record { space = be32_at b at; pages = be32_at b (at + 4); key_id = be32_at b (at + 8) }

pub spaces_none : (b : List ℕ) (at : ℕ) → spaces_at b at 0 ≡ []
unfolding spaces_at
spaces_none b at = refl

spaces_suc : (b : List ℕ) (n at : ℕ) → spaces_at b at (suc n) ≡ spaces_at b at n ++ (space_read b (at + 12 * n) ∷ [])
unfolding spaces_at
spaces_suc b zero at = let e : at + 12 * 0 ≡ at = omega arith in ap (λ (k : ℕ). space_read b k ∷ []) (sym e)
spaces_suc b (suc n) at =
    let e : (at + 12) + 12 * n ≡ at + 12 * suc n = omega arith in
    ap (λ (l : List HeldSpace). space_read b at ∷ l) (spaces_suc b n (at + 12) ∙ ap (λ (k : ℕ). spaces_at b (at + 12) n ++ (space_read b k ∷ [])) e)

pub spaces_more : (b : List ℕ) (n at : ℕ) → spaces_at b at (n + 1) ≡ spaces_at b at n ++ (space_read b (at + 12 * n) ∷ [])
spaces_more b n at = let e : n + 1 ≡ suc n = omega arith in ap (λ (k : ℕ). spaces_at b at k) e ∙ spaces_suc b n at

pub length-spaces : (b : List ℕ) (n at : ℕ) → length (spaces_at b at n) ≡ n
unfolding spaces_at
length-spaces b zero at = refl
length-spaces b (suc n) at = ap suc (length-spaces b n (at + 12))

map-one : (xs : List HeaderSpace) (y : HeaderSpace) → map space_said (xs ++ y ∷ []) ≡ map space_said xs ++ (space_said y ∷ [])
map-one [] y = refl
map-one (x ∷ xs) y = ap (λ (l : List HeldSpace). space_said x ∷ l) (map-one xs y)

-- a space is read into its place
pub spaces_filled : (b : List ℕ) (xs : List HeaderSpace) (i : ℕ) (y : HeaderSpace) → i < length xs → map space_said (take i xs) ≡ spaces_at b 40 i → space_said y ≡ space_read b (40 + 12 * i)
    → map space_said (take (i + 1) (slice_set xs i y)) ≡ spaces_at b 40 (i + 1)
spaces_filled b xs i y lt so_far is =
    ap (λ (l : List HeaderSpace). map space_said l) (take_more_set xs i y lt)
    ∙ map-one (take i xs) y
    ∙ ap (λ (l : List HeldSpace). l ++ (space_said y ∷ [])) so_far
    ∙ ap (λ (s : HeldSpace). spaces_at b 40 i ++ (s ∷ [])) is
    ∙ sym (spaces_more b i 40)

-- the rest of a list from a place on is what stands there, and the rest behind it
rest_suc : (xs : List HeaderSpace) (i : ℕ) (y : HeaderSpace) → i < length xs → drop i xs ≡ slice_index_or xs i y ∷ drop (suc i) xs
rest_suc [] i y lt = absurd (omega (arith, lt))
rest_suc (x ∷ xs) zero y lt = refl
rest_suc (x ∷ xs) (suc i) y lt = rest_suc xs i y (omega (arith, lt))

pub rest_at : (xs : List HeaderSpace) (i : ℕ) (y : HeaderSpace) → i < length xs → drop i xs ≡ slice_index_or xs i y ∷ drop (i + 1) xs
rest_at xs i y lt = let e : i + 1 ≡ suc i = omega arith in rest_suc xs i y lt ∙ ap (λ (k : ℕ). slice_index_or xs i y ∷ drop k xs) (sym e)

abbrev no_spaces : List HeaderSpace
no_spaces = []

drop_nil : (i : ℕ) → drop i no_spaces ≡ []
drop_nil zero = refl
drop_nil (suc i) = refl

pub rest_none : (xs : List HeaderSpace) (i : ℕ) → i ≡ length xs → drop i xs ≡ []
rest_none [] i is = drop_nil i
rest_none (x ∷ xs) zero is = absurd (omega (arith, is))
rest_none (x ∷ xs) (suc i) is = rest_none xs i (omega (arith, is))

pub order_more : (id : ℕ) (s : HeldSpace) (ss : List HeldSpace) → (nat_lt id s.space && (nat_le s.space 4294967279 && (nat_le 2 s.pages && nat_le 1 s.key_id))) ≡ true → are_in_order id (s ∷ ss) ≡ are_in_order s.space ss
unfolding are_in_order
order_more id s ss is = by (nat_lt id s.space) (nat_le s.space 4294967279) (nat_le 2 s.pages) (nat_le 1 s.key_id) (are_in_order s.space ss) is
  where
    by : (a b c d e : Bool) → (a && (b && (c && d))) ≡ true → (a && (b && (c && (d && e)))) ≡ e
    by true true true true e is = refl
    by false b c d e is = absurd (cc)
    by true false c d e is = absurd (cc)
    by true true false d e is = absurd (cc)
    by true true true false e is = absurd (cc)

pub order_ends : (id : ℕ) (s : HeldSpace) (ss : List HeldSpace) → (nat_lt id s.space && (nat_le s.space 4294967279 && (nat_le 2 s.pages && nat_le 1 s.key_id))) ≡ false → are_in_order id (s ∷ ss) ≡ false
unfolding are_in_order
order_ends id s ss is = by (nat_lt id s.space) (nat_le s.space 4294967279) (nat_le 2 s.pages) (nat_le 1 s.key_id) (are_in_order s.space ss) is
  where
    by : (a b c d e : Bool) → (a && (b && (c && d))) ≡ false → (a && (b && (c && (d && e)))) ≡ false
    by false b c d e is = refl
    by true false c d e is = refl
    by true true false d e is = refl
    by true true true false e is = refl
    by true true true true e is = absurd (cc)
