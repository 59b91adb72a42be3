-- The bytes from a place up to another, read and put in place of others.
use Rattle.std.proofs.Common.{◌≡◌, ℕ, ◌+◌, ◌-◌, ◌<◌, ◌≤◌, List, ◌++◌, length, length-append, length-drop, length-take, take, drop, set, sym, ap, ◌∙◌, arith, drop-drop, take-append-drop}
use Rattle.std.proofs.lemmas.List.{set-append_left, set-append_right}
use Rattle.std.proofs.Math.Seq.{take-length}
use Rattle.byte_list.specs.Bytes.{part_of, put, with_part}
use Rattle.byte_list.proofs.PutLaws.{put_parts}

-- the bytes before a place, from there up to another, and after are all of them
pub cut_at : (xs : List ℕ) (i j : ℕ) → i ≤ j → take i xs ++ (part_of xs i j ++ drop j xs) ≡ xs
cut_at xs i j le =
    let rest : drop (j - i) (drop i xs) ≡ drop j xs = drop-drop (j - i) i xs ∙ ap (λ n. drop n xs) (let e : i + (j - i) ≡ j = omega arith in e) in
    let inner : part_of xs i j ++ drop j xs ≡ drop i xs = ap (λ t. part_of xs i j ++ t) (sym rest) ∙ take-append-drop (j - i) (drop i xs) in
    ap (λ t. take i xs ++ t) inner ∙ take-append-drop i xs

-- a part up to the end
pub part_rest : (xs : List ℕ) (i : ℕ) → part_of xs i (length xs) ≡ drop i xs
part_rest xs i = ap (λ n. take n (drop i xs)) (sym (length-drop i xs)) ∙ take-length (drop i xs)

-- a part that is as long as the one in whose place it stands is put there
pub with_part-put : (xs : List ℕ) (at to : ℕ) (new : List ℕ) → at + length new ≡ to → with_part xs at to new ≡ put at new xs
with_part-put xs at to new e = ap (λ n. take at xs ++ (new ++ drop n xs)) (sym e) ∙ sym (put_parts at new xs)

-- and keeps the list's length
pub length_with_part : (xs : List ℕ) (at to : ℕ) (new : List ℕ) → length new + at ≡ to → to ≤ length xs → length (with_part xs at to new) ≡ length xs
length_with_part xs at to new long inside =
    omega (arith, length-append (take at xs) (new ++ drop to xs), length-append new (drop to xs), length-take at xs, length-drop to xs)

-- a byte that is set in a part is set in the list
pub set_in_part : (xs : List ℕ) (at to i x : ℕ) → at ≤ to → to ≤ length xs → at + i < to → with_part xs at to (set (part_of xs at to) i x) ≡ set xs (at + i) x
set_in_part xs at to i x le inside below =
    let front : length (take at xs) ≡ at = omega (arith, length-take at xs) in
    let inner : i < length (part_of xs at to) = omega (arith, length-take (to - at) (drop at xs), length-drop at xs) in
    let back : at + i - at ≡ i = omega arith in
    let whole : set xs (at + i) x ≡ set (take at xs ++ (part_of xs at to ++ drop to xs)) (at + i) x = ap (λ p. set p (at + i) x) (sym (cut_at xs at to le)) in
    let past : set (take at xs ++ (part_of xs at to ++ drop to xs)) (at + i) x ≡ take at xs ++ set (part_of xs at to ++ drop to xs) (at + i - at) x =
    set-append_right (take at xs) (part_of xs at to ++ drop to xs) at (at + i) x front (omega arith) in
    let within : set (part_of xs at to ++ drop to xs) (at + i - at) x ≡ set (part_of xs at to) i x ++ drop to xs =
    ap (λ k. set (part_of xs at to ++ drop to xs) k x) back ∙ set-append_left (part_of xs at to) (drop to xs) i x inner in
    sym (whole ∙ (past ∙ ap (λ t. take at xs ++ t) within))
