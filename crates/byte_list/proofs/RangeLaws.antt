-- What is behind a place of a list, the bytes from a place on, and zero bytes.
use Rattle.std.proofs.Common.{◌≡◌, ℕ, ◌+◌, ◌-◌, ◌<◌, ◌≤◌, List, ◌∷◌, ◌++◌, length, take, drop, get_or, sym, ap, ◌∙◌, arith, length-drop}
use Rattle.std.proofs.lemmas.List.{drop_at, drop-drop, drop-replicate, drop-take, get_or-drop, get_or-take, length-replicate, length-take-le, take-append-drop, take-replicate, take-take, take_at, drop_more}
use Rattle.byte_list.specs.Bytes.{range, zeros}

pub length-range : (at n : ℕ) (xs : List ℕ) → at + n ≤ length xs → length (range at n xs) ≡ n
length-range at n xs fits = length-take-le n (drop at xs) (omega (arith, length-drop at xs))

pub get_or-range : (at n : ℕ) (xs : List ℕ) (i : ℕ) → i < n → get_or (range at n xs) i 0 ≡ get_or xs (at + i) 0
get_or-range at n xs i lt = get_or-take n (drop at xs) i 0 lt ∙ get_or-drop at xs i 0

-- two ranges, one behind the other
pub range-add : (at n m : ℕ) (xs : List ℕ) → range at (n + m) xs ≡ range at n xs ++ range (at + n) m xs
range-add at n m xs =
    sym (take-append-drop n (take (n + m) (drop at xs)))
    ∙ (λ i. take-take n (n + m) (drop at xs) (omega arith) i ++ (drop-take n m (drop at xs) ∙ ap (take m) (drop-drop n at xs)) i)

-- what is behind a place: a range, and what is behind it
pub split_off : (at n : ℕ) (xs : List ℕ) → drop at xs ≡ range at n xs ++ drop (at + n) xs
split_off at n xs = sym (take-append-drop n (drop at xs)) ∙ ap (λ (x : List ℕ). range at n xs ++ x) (drop-drop n at xs)

-- an element of a list, and what is behind it
pub drop_item : {A : Type 0} (xs : List A) (i : ℕ) (x : A) → i < length xs → x ≡ get_or xs i x → drop i xs ≡ x ∷ drop (i + 1) xs
drop_item xs i x lt is = drop_more xs i x lt ∙ ap (λ y. y ∷ drop (i + 1) xs) (sym is)

-- a range of a range
pub range-range : (from k at n : ℕ) (xs : List ℕ) → from + k ≤ n → range from k (range at n xs) ≡ range (at + from) k xs
range-range from k at n xs inside =
    let apart : n ≡ from + (n - from) = omega arith in
    ap (λ (m : ℕ). take k (drop from (take m (drop at xs)))) apart
    ∙ ap (take k) (drop-take from (n - from) (drop at xs) ∙ ap (take (n - from)) (drop-drop from at xs))
    ∙ take-take k (n - from) (drop (at + from) xs) (omega arith)

-- the middle one of three lists that are joined
pub range_at : (xs ys zs : List ℕ) (at n : ℕ) → length xs ≡ at → length ys ≡ n → range at n (xs ++ (ys ++ zs)) ≡ ys
range_at xs ys zs at n ex ey = ap (take n) (drop_at xs (ys ++ zs) at ex) ∙ take_at ys zs n ey

-- ---- zero bytes

pub length-zeros : (n : ℕ) → length (zeros n) ≡ n
unfolding zeros
length-zeros n = length-replicate n 0

pub take-zeros : (n m : ℕ) → n ≤ m → take n (zeros m) ≡ zeros n
unfolding zeros
take-zeros n m le = take-replicate n m 0 le

pub drop-zeros : (n m : ℕ) → drop n (zeros m) ≡ zeros (m - n)
unfolding zeros
drop-zeros n m = drop-replicate n m 0

pub range-zeros : (at n m : ℕ) → at + n ≤ m → range at n (zeros m) ≡ zeros n
range-zeros at n m fits = ap (take n) (drop-zeros at m) ∙ take-zeros n (m - at) (omega arith)
