-- Reads in a row, over the bytes that a reader tells std.
use Rattle.std.proofs.Common.{◌≡◌, ◌≤◌, ◌+◌, ℕ, List, ◌++◌, length, take, Option, Some, None, Result, Ok, Err, sym, ◌∙◌, ap, arith, length-append, length-take}
use Rattle.std.proofs.lemmas.List.{take-append-le}
use Rattle.std.proofs.Math.Seq.{take-append-add}
use Rattle.std.specs.Io.KnownBytes.{Keeps, Consumes, ReadConsumes}
use Rattle.std.proofs.KnownBytes.{Keeps-trans}

-- reads that took nothing, and then one that did
pub Keeps-Consumes : (a b c : Option (List ℕ)) (bs : List ℕ) → Keeps a b → Consumes b c bs → Consumes a c bs
Keeps-Consumes None b c bs kept read = tt
Keeps-Consumes (Some xs) None c bs kept read = absurd kept
Keeps-Consumes (Some xs) (Some ys) None bs kept read = absurd read
Keeps-Consumes (Some xs) (Some ys) (Some zs) bs kept read = sym kept ∙ read

pub Keeps-ReadConsumes : {E : Type 0} (a b c : Option (List ℕ)) (r : Result ℕ E) (buf : List ℕ) → Keeps a b → ReadConsumes b c r buf → ReadConsumes a c r buf
Keeps-ReadConsumes a b c (Ok n) buf kept read = (Keeps-Consumes a b c (take n buf) kept read.0, read.1)
Keeps-ReadConsumes a b c (Err e) buf kept read = Keeps-trans a b c kept read

-- a buffer of which i bytes are filled, and then n more
pub take-filled_more : (i n : ℕ) (xs ys post : List ℕ) → i ≤ length xs → n ≤ length ys → take (i + n) (take i xs ++ (ys ++ post)) ≡ take i xs ++ take n ys
take-filled_more i n xs ys post filled more =
    let size : i ≡ length (take i xs) = omega (arith, length-take i xs, filled) in
    ap (λ (k : ℕ). take (k + n) (take i xs ++ (ys ++ post))) size
    ∙ take-append-add (take i xs) (ys ++ post) n ∙ ap (λ (l : List ℕ). take i xs ++ l) (take-append-le n ys post more)

pub filled_more_within : (i n : ℕ) (xs ys post : List ℕ) → i ≤ length xs → n ≤ length ys → i + n ≤ length (take i xs ++ (ys ++ post))
filled_more_within i n xs ys post filled more =
    omega (arith, length-append (take i xs) (ys ++ post), length-append ys post, length-take i xs, filled, more)
