-- A list with other bytes at a place.
use Rattle.std.proofs.Common.{◌≡◌, ℕ, ◌+◌, ◌-◌, ◌<◌, ◌≤◌, List, [], ◌++◌, length, take, drop, sym, ◌∙◌, ap, arith, append_assoc, length-append, length-drop, ⊎_elim}
use Rattle.std.proofs.lemmas.List.{append-nil, drop-append-le, drop-drop, drop-take, drop_all, drop_at, length-take-le, take-append-drop, take-append-le, take-take, take_all, take_at}
use Rattle.std.proofs.lemmas.Bool.{cases_lt}
use Rattle.std.proofs.Math.Seq.{drop-append-add}
use borrow.Rule.Slice.PartMut.{put_mid}
use Rattle.byte_list.specs.Bytes.{put, range}
use Rattle.byte_list.proofs.RangeLaws.{length-range}

-- the three parts, the first two apart
pub put_parts : (at : ℕ) (new xs : List ℕ) → put at new xs ≡ take at xs ++ (new ++ drop (at + length new) xs)
put_parts at new xs = append_assoc (take at xs) new (drop (at + length new) xs)

-- what a write into a slice's part leaves
pub put_written : (at n : ℕ) (new xs : List ℕ) → n ≡ length new → put_mid at n xs new ≡ put at new xs
put_written at n new xs e =
    ap (λ (k : ℕ). take at xs ++ (new ++ drop k (drop at xs))) e ∙ ap (λ (l : List ℕ). take at xs ++ (new ++ l)) (drop-drop (length new) at xs) ∙ sym (put_parts at new xs)

module _ (at : ℕ) (new xs : List ℕ) (fits : at + length new ≤ length xs) where
  front : length (take at xs) ≡ at
  front = length-take-le at xs (omega arith)

  pub length-put : length (put at new xs) ≡ length xs
  length-put =
      omega (arith, length-append (take at xs ++ new) (drop (at + length new) xs), length-append (take at xs) new, front, length-drop (at + length new) xs)

  -- what was put
  pub range-put_same : (n : ℕ) → n ≡ length new → range at n (put at new xs) ≡ new
  range-put_same n is =
      ap (λ (l : List ℕ). take n l) (ap (λ (l : List ℕ). drop at l) (put_parts at new xs) ∙ drop_at (take at xs) (new ++ drop (at + length new) xs) at front)
      ∙ take_at new (drop (at + length new) xs) n (sym is)

  -- what lies before it
  pub range-put_before : (from n : ℕ) → from + n ≤ at → range from n (put at new xs) ≡ range from n xs
  range-put_before from n before =
      let rest = new ++ drop (at + length new) xs in
      let inner : drop from (take at xs ++ rest) ≡ drop from (take at xs) ++ rest = drop-append-le from (take at xs) rest (omega (arith, front)) in
      let cut : take n (drop from (take at xs) ++ rest) ≡ take n (drop from (take at xs)) = take-append-le n (drop from (take at xs)) rest (omega (arith, front, length-drop from (take at xs))) in
      let split : at ≡ from + (at - from) = omega arith in
      let swapped : drop from (take at xs) ≡ take (at - from) (drop from xs) = ap (λ (k : ℕ). drop from (take k xs)) split ∙ drop-take from (at - from) xs in
      ap (λ (l : List ℕ). take n (drop from l)) (put_parts at new xs) ∙ ap (λ (l : List ℕ). take n l) inner ∙ cut ∙ ap (λ (l : List ℕ). take n l) swapped ∙ take-take n (at - from) (drop from xs) (omega arith)

  -- and behind it
  pub range-put_after : (from n : ℕ) → at + length new ≤ from → range from n (put at new xs) ≡ range from n xs
  range-put_after from n after =
      let both = take at xs ++ new in
      let long : length both ≡ at + length new = omega (arith, length-append (take at xs) new, front) in
      let split : from ≡ length both + (from - (at + length new)) = omega (arith, long) in
      let back : at + length new + (from - (at + length new)) ≡ from = omega arith in
      ap (λ (k : ℕ). take n (drop k (put at new xs))) split
      ∙ ap (λ (l : List ℕ). take n l) (drop-append-add both (drop (at + length new) xs) (from - (at + length new)))
      ∙ ap (λ (l : List ℕ). take n l) (drop-drop (from - (at + length new)) (at + length new) xs)
      ∙ ap (λ (k : ℕ). take n (drop k xs)) back

-- the middle one of three lists that are joined
pub put_at : (xs ys zs new : List ℕ) (at : ℕ) → length xs ≡ at → length ys ≡ length new → put at new (xs ++ (ys ++ zs)) ≡ xs ++ (new ++ zs)
put_at xs ys zs new at ex ey =
    put_parts at new (xs ++ (ys ++ zs))
    ∙ (λ i. take_at xs (ys ++ zs) at ex i ++ (new ++ (sym (drop-drop (length new) at (xs ++ (ys ++ zs))) ∙ ap (drop (length new)) (drop_at xs (ys ++ zs) at ex) ∙ drop_at ys zs (length new) ey) i))

-- behind a list of this length
pub put_next : (at : ℕ) (xs new ys : List ℕ) → length xs ≡ at → put at new (xs ++ ys) ≡ xs ++ (new ++ drop (length new) ys)
put_next at xs new ys is =
    ap (λ (l : List ℕ). l ++ new ++ drop (at + length new) (xs ++ ys)) (take_at xs ys at is)
    ∙ ap (λ (k : ℕ). xs ++ new ++ drop (k + length new) (xs ++ ys)) (sym is)
    ∙ ap (λ (l : List ℕ). xs ++ new ++ l) (drop-append-add xs ys (length new))
    ∙ append_assoc xs new (drop (length new) ys)

-- what is there, put again
pub put-range : (at n : ℕ) (xs : List ℕ) → at + n ≤ length xs → put at (range at n xs) xs ≡ xs
put-range at n xs fits =
    let long = length-range at n xs fits in
    let back : drop (at + n) xs ≡ drop n (drop at xs) = sym (drop-drop n at xs) in
    ap (λ (k : ℕ). take at xs ++ range at n xs ++ drop (at + k) xs) long
    ∙ append_assoc (take at xs) (range at n xs) (drop (at + n) xs)
    ∙ ap (λ (l : List ℕ). take at xs ++ (range at n xs ++ l)) back
    ∙ ap (λ (l : List ℕ). take at xs ++ l) (take-append-drop n (drop at xs))
    ∙ take-append-drop at xs

-- what is there, put again, wherever it is
pub put-range_any : (at n : ℕ) (xs : List ℕ) → put at (range at n xs) xs ≡ xs
put-range_any at n xs = ⊎_elim
    (λ (short : n < length (drop at xs)). put-range at n xs (omega (arith, short, length-drop at xs)))
    (λ (long : length (drop at xs) ≤ n).
    let whole : range at n xs ≡ drop at xs = take_all n (drop at xs) long in
    let past : drop (at + length (drop at xs)) xs ≡ [] = drop_all (at + length (drop at xs)) xs (omega (arith, length-drop at xs)) in
    ap (λ (l : List ℕ). put at l xs) whole
    ∙ ap (λ (l : List ℕ). take at xs ++ drop at xs ++ l) past
    ∙ append-nil (take at xs ++ drop at xs)
    ∙ take-append-drop at xs)
    (cases_lt n (length (drop at xs)))

-- the same of bytes that are known to be there
pub put_own : (at : ℕ) (new xs : List ℕ) → range at (length new) xs ≡ new → put at new xs ≡ xs
put_own at new xs e = ap (λ (l : List ℕ). put at l xs) (sym e) ∙ put-range_any at (length new) xs
