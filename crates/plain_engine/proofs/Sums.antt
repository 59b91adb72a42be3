-- A block has its length, its checksum and one number.
use Rattle.std.proofs.Common.{◌≡◌, ℕ, ◌+◌, ◌≤◌, true, List, [], ◌∷◌, ◌++◌, length, take, drop, refl, sym, ◌∙◌, ap, arith, length-append, append_assoc}
use Rattle.std.proofs.lemmas.List.{take_at, drop_at, take-append-le}
use Rattle.std.proofs.lemmas.Bool.Decides.{nat_tests}
use Rattle.std.proofs.lemmas.Nat.{from_be_bytes-to_be_bytes_8}
use Rattle.std.specs.Int.{to_be_bytes, from_be_bytes, w32, w64}
use Rattle.bytes_core.specs.Crc.{crc32c}
use Rattle.plain_engine.specs.Block.{plain_sealed, same_bytes, sums_up, block_head, IsLogBlock}

pub same_bytes-itself : (bs : List ℕ) → same_bytes bs bs ≡ true
same_bytes-itself [] = refl
same_bytes-itself (b ∷ bs) = let rest = same_bytes-itself bs in grind (arith, nat_tests)

pub length-plain_sealed : (text : List ℕ) → length (plain_sealed text) ≡ length text + 4
unfolding plain_sealed
length-plain_sealed text = let four : length (to_be_bytes w32 (crc32c text)) ≡ 4 = refl in omega (arith, four, length-append text (to_be_bytes w32 (crc32c text)))

pub sums_up-plain_sealed : (text : List ℕ) → length text ≡ 4092 → sums_up (plain_sealed text) ≡ true
unfolding plain_sealed sums_up
sums_up-plain_sealed text size =
    let sum = to_be_bytes w32 (crc32c text) in
    let front : take 4092 (text ++ sum) ≡ text = take_at text sum 4092 size in
    let back : drop 4092 (text ++ sum) ≡ sum = drop_at text sum 4092 size in
    ap (λ (l : List ℕ). same_bytes l (to_be_bytes w32 (crc32c (take 4092 (text ++ sum))))) back
    ∙ ap (λ (l : List ℕ). same_bytes sum (to_be_bytes w32 (crc32c l))) front ∙ same_bytes-itself sum

pub length-block_head : (number used : ℕ) → length (block_head number used) ≡ 16
unfolding block_head
length-block_head number used = refl

pub length-front : (number : ℕ) (text rest : List ℕ) → length text + length rest ≡ 4076 → length (block_head number (length text) ++ text ++ rest) ≡ 4092
length-front number text rest size =
    omega (arith, length-block_head number (length text), length-append (block_head number (length text) ++ text) rest, length-append (block_head number (length text)) text)

pub IsLogBlock-length : {number : ℕ} {text block : List ℕ} → IsLogBlock number text block → length block ≡ 4096
IsLogBlock-length {number} {text} b =
    omega (arith, ap length b.is, length-plain_sealed (block_head number (length text) ++ text ++ b.rest), length-front number text b.rest b.size)

pub IsLogBlock-sums_up : {number : ℕ} {text block : List ℕ} → IsLogBlock number text block → sums_up block ≡ true
IsLogBlock-sums_up {number} {text} b = ap sums_up b.is ∙ sums_up-plain_sealed (block_head number (length text) ++ text ++ b.rest) (length-front number text b.rest b.size)

pub take-plain_sealed : (n : ℕ) (text : List ℕ) → n ≤ length text → take n (plain_sealed text) ≡ take n text
unfolding plain_sealed
take-plain_sealed n text le = take-append-le n text (to_be_bytes w32 (crc32c text)) le

head_first : (number used : ℕ) → take 8 (block_head number used) ≡ to_be_bytes w64 number
unfolding block_head
head_first number used = refl

pub IsLogBlock-first : {number : ℕ} {text block : List ℕ} → IsLogBlock number text block → take 8 block ≡ to_be_bytes w64 number
IsLogBlock-first {number} {text} b =
    let head = block_head number (length text) in
    let long = length-block_head number (length text) in
    ap (λ (l : List ℕ). take 8 l) b.is
    ∙ take-plain_sealed 8 (head ++ text ++ b.rest) (omega (arith, length-front number text b.rest b.size))
    ∙ ap (λ (l : List ℕ). take 8 l) (append_assoc head text b.rest)
    ∙ take-append-le 8 head (text ++ b.rest) (omega (arith, long))
    ∙ head_first number (length text)

-- a block has one number
pub IsLogBlock-number : {m n : ℕ} {a b block : List ℕ} → IsLogBlock m a block → IsLogBlock n b block → m ≡ n
IsLogBlock-number {m} {n} x y =
    sym (from_be_bytes-to_be_bytes_8 m x.small) ∙ ap (from_be_bytes w64) (sym (IsLogBlock-first x) ∙ IsLogBlock-first y) ∙ from_be_bytes-to_be_bytes_8 n y.small
