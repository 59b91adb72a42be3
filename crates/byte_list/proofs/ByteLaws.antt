-- What is made of bytes is bytes.
use Rattle.std.proofs.Common.{ℕ, zero, suc, ◌+◌, ◌-◌, ◌<◌, List, [], ◌∷◌, ◌++◌, map, take, drop, length, replicate, bit_xor, arith}
use Rattle.std.proofs.lemmas.List.{get_or-drop}
use Rattle.std.proofs.lemmas.Nat.{xor_lt}
use lib.Lanes.{zip2}
use Rattle.byte_list.specs.Bytes.{AreBytes, zeros, range, put, part_of}
use Rattle.byte_list.specs.Xor.{xored}

pub bytes_nil : AreBytes []
bytes_nil i = omega arith

pub bytes_cons : (x : ℕ) (xs : List ℕ) → x < 256 → AreBytes xs → AreBytes (x ∷ xs)
bytes_cons x xs h t zero = h
bytes_cons x xs h t (suc i) = t i

pub bytes_append : (xs ys : List ℕ) → AreBytes xs → AreBytes ys → AreBytes (xs ++ ys)
bytes_append [] ys h t i = t i
bytes_append (x ∷ xs) ys h t zero = h 0
bytes_append (x ∷ xs) ys h t (suc i) = bytes_append xs ys (λ j. h (suc j)) t i

pub bytes_drop : (n : ℕ) (xs : List ℕ) → AreBytes xs → AreBytes (drop n xs)
bytes_drop n xs h i = rw (get_or-drop n xs i 0) (h (n + i))

pub bytes_take : (n : ℕ) (xs : List ℕ) → AreBytes xs → AreBytes (take n xs)
bytes_take zero xs h i = omega arith
bytes_take (suc n) [] h i = omega arith
bytes_take (suc n) (x ∷ xs) h zero = h 0
bytes_take (suc n) (x ∷ xs) h (suc i) = bytes_take n xs (λ j. h (suc j)) i

pub bytes_replicate : (n a : ℕ) → a < 256 → AreBytes (replicate n a)
bytes_replicate zero a h i = bytes_nil i
bytes_replicate (suc n) a h zero = h
bytes_replicate (suc n) a h (suc i) = bytes_replicate n a h i

pub bytes_zeros : (n : ℕ) → AreBytes (zeros n)
unfolding zeros
bytes_zeros n = bytes_replicate n 0 (omega arith)

pub bytes_four : (a b c d : ℕ) → a < 256 → b < 256 → c < 256 → d < 256 → AreBytes (a ∷ b ∷ c ∷ d ∷ [])
bytes_four a b c d ha hb hc hd =
    bytes_cons a (b ∷ c ∷ d ∷ []) ha (bytes_cons b (c ∷ d ∷ []) hb (bytes_cons c (d ∷ []) hc (bytes_cons d [] hd bytes_nil)))

pub bytes_range : (at n : ℕ) (xs : List ℕ) → AreBytes xs → AreBytes (range at n xs)
bytes_range at n xs h = bytes_take n (drop at xs) (bytes_drop at xs h)

pub bytes_part_of : (xs : List ℕ) (at to : ℕ) → AreBytes xs → AreBytes (part_of xs at to)
bytes_part_of xs at to h = bytes_range at (to - at) xs h

pub bytes_put : (at : ℕ) (new xs : List ℕ) → AreBytes new → AreBytes xs → AreBytes (put at new xs)
bytes_put at new xs hn hx =
    bytes_append (take at xs ++ new) (drop (at + length new) xs) (bytes_append (take at xs) new (bytes_take at xs hx) hn) (bytes_drop (at + length new) xs hx)

-- ---- maps

pub bytes_made : (f : ℕ → ℕ) → ((k : ℕ) → f k < 256) → (xs : List ℕ) → AreBytes (map f xs)
bytes_made f h [] i = omega arith
bytes_made f h (x ∷ xs) zero = h x
bytes_made f h (x ∷ xs) (suc i) = bytes_made f h xs i

pub bytes_map : (f : ℕ → ℕ) → ((a : ℕ) → a < 256 → f a < 256) → (xs : List ℕ) → AreBytes xs → AreBytes (map f xs)
bytes_map f h [] t i = omega arith
bytes_map f h (x ∷ xs) t zero = h x (t 0)
bytes_map f h (x ∷ xs) t (suc i) = bytes_map f h xs (λ j. t (suc j)) i

pub bytes_zip2 : (f : ℕ → ℕ → ℕ) → ((a b : ℕ) → a < 256 → b < 256 → f a b < 256) → (xs ys : List ℕ) → AreBytes xs → AreBytes ys → AreBytes (zip2 f xs ys)
bytes_zip2 f keeps [] ys h t i = omega arith
bytes_zip2 f keeps (x ∷ xs) [] h t i = omega arith
bytes_zip2 f keeps (x ∷ xs) (y ∷ ys) h t zero = keeps x y (h 0) (t 0)
bytes_zip2 f keeps (x ∷ xs) (y ∷ ys) h t (suc i) = bytes_zip2 f keeps xs ys (λ j. h (suc j)) (λ j. t (suc j)) i

pub bytes_xored : (xs ys : List ℕ) → AreBytes xs → AreBytes ys → AreBytes (xored xs ys)
bytes_xored xs ys h t = bytes_zip2 bit_xor (xor_lt 8) xs ys h t
