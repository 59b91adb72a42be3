-- A number of 16 bytes as four words: highest first, with the words' bytes turned round, and lowest first.
use Rattle.std.proofs.Common.{◌≡◌, ℕ, ◌+◌, ◌*◌, ◌/◌, ◌%◌, ◌^◌, ◌<◌, [], ◌∷◌, ◌++◌, bit_xor, List, refl, sym, ap, ◌∙◌, arith, reverse}
use Rattle.std.specs.Int.{byte_at, from_be_bytes, from_le_bytes, swap_bytes, to_be_bytes, to_le_bytes, w32, w128}
use Rattle.std.proofs.Math.Nat.{div-div-eq-div-mul}
use Rattle.std.proofs.lemmas.Nat.{le_bytes_4, xor_mod, xor_shr}
use Rattle.aes_core.specs.Cipher.{xored}
use Rattle.aes_core.proofs.Inverse.{byte_at-lt}
use Rattle.byte_list.proofs.ByteLaws.{bytes_four}

turned : (a b c d : ℕ) → from_be_bytes w32 (a ∷ b ∷ c ∷ d ∷ []) ≡ from_le_bytes w32 (d ∷ c ∷ b ∷ a ∷ [])
turned a b c d = omega arith

pub swapped : (m s : ℕ) → s ≡ swap_bytes w32 m → to_le_bytes w32 s ≡ to_be_bytes w32 m
swapped m s e =
    le_bytes_4 (byte_at 3 m ∷ byte_at 2 m ∷ byte_at 1 m ∷ byte_at 0 m ∷ []) s refl
    (bytes_four (byte_at 3 m) (byte_at 2 m) (byte_at 1 m) (byte_at 0 m) (byte_at-lt 3 m) (byte_at-lt 2 m) (byte_at-lt 1 m) (byte_at-lt 0 m))
    (e ∙ turned (byte_at 0 m) (byte_at 1 m) (byte_at 2 m) (byte_at 3 m))

-- the low word of a number
low_3 : (m : ℕ) → byte_at 3 (m % 4294967296) ≡ byte_at 3 m
low_3 m = omega arith

low_2 : (m : ℕ) → byte_at 2 (m % 4294967296) ≡ byte_at 2 m
low_2 m = omega arith

low_1 : (m : ℕ) → byte_at 1 (m % 4294967296) ≡ byte_at 1 m
low_1 m = omega arith

low_0 : (m : ℕ) → byte_at 0 (m % 4294967296) ≡ byte_at 0 m
low_0 m = omega arith

pub low_word : (m : ℕ) → to_be_bytes w32 (m % 4294967296) ≡ to_be_bytes w32 m
low_word m = (λ i. low_3 m i ∷ low_2 m i ∷ low_1 m i ∷ low_0 m i ∷ [])

-- a byte of a word is a byte of the number
within : (n a b : ℕ) → n / a / b % 256 ≡ n / (a * b) % 256
within n a b = ap (λ (m : ℕ). m % 256) (div-div-eq-div-mul n a b)

pub four_words : (n : ℕ)
    → to_be_bytes w32 (n / 79228162514264337593543950336) ++ to_be_bytes w32 (n / 18446744073709551616) ++ to_be_bytes w32 (n / 4294967296) ++ to_be_bytes w32 n ≡ to_be_bytes w128 n
four_words n =
    let e33 = within n 79228162514264337593543950336 16777216 in
    let e32 = within n 79228162514264337593543950336 65536 in
    let e31 = within n 79228162514264337593543950336 256 in
    let e23 = within n 18446744073709551616 16777216 in
    let e22 = within n 18446744073709551616 65536 in
    let e21 = within n 18446744073709551616 256 in
    let e13 = within n 4294967296 16777216 in
    let e12 = within n 4294967296 65536 in
    let e11 = within n 4294967296 256 in
    (λ i. e33 i ∷ e32 i ∷ e31 i ∷ n / 79228162514264337593543950336 % 256 ∷ e23 i ∷ e22 i ∷ e21 i ∷ n / 18446744073709551616 % 256 ∷ e13 i ∷ e12 i ∷ e11 i ∷ n / 4294967296 % 256 ∷ n / 16777216 % 256 ∷ n / 65536 % 256 ∷ n / 256 % 256 ∷ n % 256 ∷ [])

-- ---- lowest first

pub le_low_word : (m : ℕ) → to_le_bytes w32 (m % 4294967296) ≡ to_le_bytes w32 m
le_low_word m = ap reverse (low_word m)

pub le_four_words : (n : ℕ)
    → to_le_bytes w32 n ++ to_le_bytes w32 (n / 4294967296) ++ to_le_bytes w32 (n / 18446744073709551616) ++ to_le_bytes w32 (n / 79228162514264337593543950336) ≡ to_le_bytes w128 n
le_four_words n = ap reverse (four_words n)

-- what four words are joined to
abbrev pub words_sum : ℕ → ℕ → ℕ → ℕ → ℕ
words_sum a b c d = a + 4294967296 * b + 18446744073709551616 * c + 79228162514264337593543950336 * d

pub le_joined : (a b c d n : ℕ) → a < 4294967296 → b < 4294967296 → c < 4294967296 → d < 4294967296 → n ≡ words_sum a b c d
    → to_le_bytes w128 n ≡ to_le_bytes w32 a ++ to_le_bytes w32 b ++ to_le_bytes w32 c ++ to_le_bytes w32 d
le_joined a b c d n ha hb hc hd e =
    let ea : n % 4294967296 ≡ a = omega arith in
    let eb : n / 4294967296 % 4294967296 ≡ b = omega arith in
    let ec : n / 18446744073709551616 % 4294967296 ≡ c = omega arith in
    let ed : n / 79228162514264337593543950336 ≡ d = omega arith in
    let wa = sym (le_low_word n) ∙ ap (to_le_bytes w32) ea in
    let wb = sym (le_low_word (n / 4294967296)) ∙ ap (to_le_bytes w32) eb in
    let wc = sym (le_low_word (n / 18446744073709551616)) ∙ ap (to_le_bytes w32) ec in
    sym (le_four_words n) ∙ (λ i. wa i ++ wb i ++ wc i ++ ap (to_le_bytes w32) ed i)

byte_of_xor : (m n k : ℕ) → bit_xor m n / 2 ^ k % 256 ≡ bit_xor (m / 2 ^ k % 256) (n / 2 ^ k % 256)
byte_of_xor m n k = ap (λ (x : ℕ). x % 256) (xor_shr m n k) ∙ xor_mod (m / 2 ^ k) (n / 2 ^ k) 8

pub le_xored : (m n : ℕ) → to_le_bytes w128 (bit_xor m n) ≡ xored (to_le_bytes w128 m) (to_le_bytes w128 n)
le_xored m n =
    let b0 = xor_mod m n 8 in
    let b1 = byte_of_xor m n 8 in
    let b2 = byte_of_xor m n 16 in
    let b3 = byte_of_xor m n 24 in
    let b4 = byte_of_xor m n 32 in
    let b5 = byte_of_xor m n 40 in
    let b6 = byte_of_xor m n 48 in
    let b7 = byte_of_xor m n 56 in
    let b8 = byte_of_xor m n 64 in
    let b9 = byte_of_xor m n 72 in
    let b10 = byte_of_xor m n 80 in
    let b11 = byte_of_xor m n 88 in
    let b12 = byte_of_xor m n 96 in
    let b13 = byte_of_xor m n 104 in
    let b14 = byte_of_xor m n 112 in
    let b15 = byte_of_xor m n 120 in
    (λ i. b0 i ∷ b1 i ∷ b2 i ∷ b3 i ∷ b4 i ∷ b5 i ∷ b6 i ∷ b7 i ∷ b8 i ∷ b9 i ∷ b10 i ∷ b11 i ∷ b12 i ∷ b13 i ∷ b14 i ∷ b15 i ∷ [])

-- ---- highest first, digit by digit

abbrev pub digits_back : ℕ → List ℕ
digits_back n =
    let d1 = n / 256 in
    let d2 = d1 / 256 in
    let d3 = d2 / 256 in
    let d4 = d3 / 256 in
    let d5 = d4 / 256 in
    let d6 = d5 / 256 in
    let d7 = d6 / 256 in
    let d8 = d7 / 256 in
    let d9 = d8 / 256 in
    let d10 = d9 / 256 in
    let d11 = d10 / 256 in
    let d12 = d11 / 256 in
    let d13 = d12 / 256 in
    let d14 = d13 / 256 in
    let d15 = d14 / 256 in
    d15 % 256 ∷ d14 % 256 ∷ d13 % 256 ∷ d12 % 256 ∷ d11 % 256 ∷ d10 % 256 ∷ d9 % 256 ∷ d8 % 256 ∷ d7 % 256 ∷ d6 % 256 ∷ d5 % 256 ∷ d4 % 256 ∷ d3 % 256 ∷ d2 % 256 ∷ d1 % 256 ∷ n % 256 ∷ []

pub digits_back_are : (n : ℕ) → digits_back n ≡ to_be_bytes w128 n
digits_back_are n =
    let e2 = div-div-eq-div-mul n 256 256 in
    let e3 = ap (λ (m : ℕ). m / 256) e2 ∙ div-div-eq-div-mul n 65536 256 in
    let e4 = ap (λ (m : ℕ). m / 256) e3 ∙ div-div-eq-div-mul n 16777216 256 in
    let e5 = ap (λ (m : ℕ). m / 256) e4 ∙ div-div-eq-div-mul n 4294967296 256 in
    let e6 = ap (λ (m : ℕ). m / 256) e5 ∙ div-div-eq-div-mul n 1099511627776 256 in
    let e7 = ap (λ (m : ℕ). m / 256) e6 ∙ div-div-eq-div-mul n 281474976710656 256 in
    let e8 = ap (λ (m : ℕ). m / 256) e7 ∙ div-div-eq-div-mul n 72057594037927936 256 in
    let e9 = ap (λ (m : ℕ). m / 256) e8 ∙ div-div-eq-div-mul n 18446744073709551616 256 in
    let e10 = ap (λ (m : ℕ). m / 256) e9 ∙ div-div-eq-div-mul n 4722366482869645213696 256 in
    let e11 = ap (λ (m : ℕ). m / 256) e10 ∙ div-div-eq-div-mul n 1208925819614629174706176 256 in
    let e12 = ap (λ (m : ℕ). m / 256) e11 ∙ div-div-eq-div-mul n 309485009821345068724781056 256 in
    let e13 = ap (λ (m : ℕ). m / 256) e12 ∙ div-div-eq-div-mul n 79228162514264337593543950336 256 in
    let e14 = ap (λ (m : ℕ). m / 256) e13 ∙ div-div-eq-div-mul n 20282409603651670423947251286016 256 in
    let e15 = ap (λ (m : ℕ). m / 256) e14 ∙ div-div-eq-div-mul n 5192296858534827628530496329220096 256 in
    (λ i. e15 i % 256 ∷ e14 i % 256 ∷ e13 i % 256 ∷ e12 i % 256 ∷ e11 i % 256 ∷ e10 i % 256 ∷ e9 i % 256 ∷ e8 i % 256 ∷ e7 i % 256 ∷ e6 i % 256 ∷ e5 i % 256 ∷ e4 i % 256 ∷ e3 i % 256 ∷ e2 i % 256 ∷ n / 256 % 256 ∷ n % 256 ∷ [])
