-- One step of the loops over bytes.
use Rattle.std.proofs.Common.{◌≡◌, ℕ, zero, suc, ◌+◌, ◌<◌, ◌≤◌, List, [], ◌∷◌, ◌++◌, length, take, drop, map, get_or, set, bit_xor, refl, sym, ap, ap₂, ◌∙◌, arith, add-one}
use Rattle.std.proofs.lemmas.Nat.{xor_comm}
use Rattle.std.proofs.lemmas.List.{take_all}
use Rattle.std.proofs.lemmas.Simd.{length-zip2, put_chunk_whole}
use lib.Lanes.{put_chunk, zip2}
use Rattle.aes_core.specs.Cipher.{xored}

mapped_at : (f : ℕ → ℕ) (xs : List ℕ) (i : ℕ) → i < length xs → get_or (map f (take i xs) ++ drop i xs) i 0 ≡ get_or xs i 0
mapped_at f [] i h = absurd (omega arith)
mapped_at f (x ∷ xs) zero h = refl
mapped_at f (x ∷ xs) (suc i) h = mapped_at f xs i (omega arith)

mapped_suc : (f : ℕ → ℕ) (xs : List ℕ) (i : ℕ) → i < length xs
    → set (map f (take i xs) ++ drop i xs) i (f (get_or xs i 0)) ≡ map f (take (suc i) xs) ++ drop (suc i) xs
mapped_suc f [] i h = absurd (omega arith)
mapped_suc f (x ∷ xs) zero h = refl
mapped_suc f (x ∷ xs) (suc i) h = ap (λ (ys : List ℕ). f x ∷ ys) (mapped_suc f xs i (omega arith))

mapped_more : (f : ℕ → ℕ) (xs : List ℕ) (i : ℕ) → i < length xs
    → set (map f (take i xs) ++ drop i xs) i (f (get_or xs i 0)) ≡ map f (take (i + 1) xs) ++ drop (i + 1) xs
mapped_more f xs i h = mapped_suc f xs i h ∙ ap (λ (n : ℕ). map f (take n xs) ++ drop n xs) (sym (add-one i))

-- the next element is turned
pub mapped_step : (f : ℕ → ℕ) (xs now : List ℕ) (i v : ℕ) → i < length xs → now ≡ map f (take i xs) ++ drop i xs → v ≡ f (get_or now i 0) → set now i v ≡ map f (take (i + 1) xs) ++ drop (i + 1) xs
mapped_step f xs now i v lt is value =
    ap₂ (λ (l : List ℕ) (k : ℕ). set l i k) is (value ∙ ap (λ (l : List ℕ). f (get_or l i 0)) is ∙ ap f (mapped_at f xs i lt)) ∙ mapped_more f xs i lt

pub mapped_all : (f : ℕ → ℕ) (xs : List ℕ) (i : ℕ) → length xs ≤ i → map f (take i xs) ++ drop i xs ≡ map f xs
mapped_all f [] zero h = refl
mapped_all f [] (suc i) h = refl
mapped_all f (x ∷ xs) zero h = absurd (omega arith)
mapped_all f (x ∷ xs) (suc i) h = ap (λ (ys : List ℕ). f x ∷ ys) (mapped_all f xs i (omega arith))

pub xored_at : (xs ys : List ℕ) (i : ℕ) → length xs ≡ length ys → i < length xs → get_or (xored (take i xs) (take i ys) ++ drop i xs) i 0 ≡ get_or xs i 0
xored_at [] ys i e h = absurd (omega arith)
xored_at (x ∷ xs) [] i e h = absurd (omega arith)
xored_at (x ∷ xs) (y ∷ ys) zero e h = refl
xored_at (x ∷ xs) (y ∷ ys) (suc i) e h = xored_at xs ys i (omega arith) (omega arith)

xored_suc : (xs ys : List ℕ) (i : ℕ) → length xs ≡ length ys → i < length xs
    → set (xored (take i xs) (take i ys) ++ drop i xs) i (bit_xor (get_or xs i 0) (get_or ys i 0)) ≡ xored (take (suc i) xs) (take (suc i) ys) ++ drop (suc i) xs
xored_suc [] ys i e h = absurd (omega arith)
xored_suc (x ∷ xs) [] i e h = absurd (omega arith)
xored_suc (x ∷ xs) (y ∷ ys) zero e h = refl
xored_suc (x ∷ xs) (y ∷ ys) (suc i) e h = ap (λ (zs : List ℕ). bit_xor x y ∷ zs) (xored_suc xs ys i (omega arith) (omega arith))

pub xored_more : (xs ys : List ℕ) (i : ℕ) → length xs ≡ length ys → i < length xs
    → set (xored (take i xs) (take i ys) ++ drop i xs) i (bit_xor (get_or xs i 0) (get_or ys i 0)) ≡ xored (take (i + 1) xs) (take (i + 1) ys) ++ drop (i + 1) xs
xored_more xs ys i e h = xored_suc xs ys i e h ∙ ap (λ (n : ℕ). xored (take n xs) (take n ys) ++ drop n xs) (sym (add-one i))

pub xored_all : (xs ys : List ℕ) (i : ℕ) → length xs ≡ length ys → length xs ≤ i → xored (take i xs) (take i ys) ++ drop i xs ≡ xored xs ys
xored_all [] [] zero e h = refl
xored_all [] [] (suc i) e h = refl
xored_all [] (y ∷ ys) i e h = absurd (omega arith)
xored_all (x ∷ xs) [] i e h = absurd (omega arith)
xored_all (x ∷ xs) (y ∷ ys) zero e h = absurd (omega arith)
xored_all (x ∷ xs) (y ∷ ys) (suc i) e h = ap (λ (zs : List ℕ). bit_xor x y ∷ zs) (xored_all xs ys i (omega arith) (omega arith))

-- the second list is read no further than the first
pub xored_front : (xs ys : List ℕ) (n : ℕ) → length xs ≤ n → xored xs (take n ys) ≡ xored xs ys
xored_front [] ys n h = refl
xored_front (x ∷ xs) ys zero h = absurd (omega arith)
xored_front (x ∷ xs) [] (suc n) h = refl
xored_front (x ∷ xs) (y ∷ ys) (suc n) h = ap (λ (zs : List ℕ). bit_xor x y ∷ zs) (xored_front xs ys n (omega arith))

pub xored_swap : (xs ys : List ℕ) → xored xs ys ≡ xored ys xs
xored_swap [] [] = refl
xored_swap [] (y ∷ ys) = refl
xored_swap (x ∷ xs) [] = refl
xored_swap (x ∷ xs) (y ∷ ys) = (λ i. xor_comm x y i ∷ xored_swap xs ys i)

-- lanes over the whole of a slice
pub lanes_xored : (n : ℕ) (xs ys : List ℕ) → length xs ≡ n → length ys ≡ n → put_chunk 0 xs (zip2 bit_xor (take n xs) (take n ys)) ≡ xored xs ys
lanes_xored n xs ys ex ey =
    ap₂ (λ (a b : List ℕ). put_chunk 0 xs (zip2 bit_xor a b)) (take_all n xs (omega arith)) (take_all n ys (omega arith))
    ∙ put_chunk_whole xs (xored xs ys) (sym (length-zip2 bit_xor xs ys (ex ∙ sym ey)))
