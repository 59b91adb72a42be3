-- The field with 256 elements (FIPS 197, 4): polynomials modulo x ^ 8 + x ^ 4 + x ^ 3 + x + 1, an element
-- being the number whose bit i is the coefficient of x ^ i. And what AES makes of one byte by it: `sub_byte`
-- when it enciphers, `inv_sub_byte` when it deciphers.
use Rattle.std.specs.Prelude.{ℕ, zero, suc, ◌+◌, ◌*◌, ◌/◌, ◌%◌, ◌==◌, bit_xor, if◌then◌else◌}
use Rattle.std.specs.Int.{bit_at}

-- x times a (FIPS 197, 4.2.1): one place up, and where x ^ 8 comes out, x ^ 4 + x ^ 3 + x + 1 in its place
abbrev pub times_x : ℕ → ℕ
times_x a = bit_xor (a * 2 % 256) (if a / 128 % 2 == 1 then 0x1B else 0)

-- a times the polynomial of the lowest k coefficients of b
unfoldable pub product_of : ℕ → ℕ → ℕ → ℕ
product_of zero a b = 0
product_of (suc k) a b = bit_xor (if b % 2 == 1 then a else 0) (product_of k (times_x a) (b / 2))

-- the product of two elements (FIPS 197, 4.2)
abbrev pub times : ℕ → ℕ → ℕ
times a b = product_of 8 b a

-- the first of the n elements from b on whose product with a is 1, or 0
unfoldable pub inverse_from : ℕ → ℕ → ℕ → ℕ
inverse_from a zero b = 0
inverse_from a (suc n) b = if times a b == 1 then b else inverse_from a n (b + 1)

-- the element whose product with a is 1, found by trying all; 0 has none and gives 0
abbrev pub inverse : ℕ → ℕ
inverse a = inverse_from a 256 0

-- bit i of the affine map (FIPS 197, 5.1.1): bits i, i + 4, i + 5, i + 6, i + 7 of b and bit i of 63 in hex, added
abbrev pub affine_bit : ℕ → ℕ → ℕ
affine_bit b i =
    (bit_at b i + bit_at b ((i + 4) % 8) + bit_at b ((i + 5) % 8) + bit_at b ((i + 6) % 8) + bit_at b ((i + 7) % 8) + bit_at 0x63 i) % 2

-- the affine map of SubBytes
abbrev pub affine : ℕ → ℕ
affine b =
    affine_bit b 0 + 2 * affine_bit b 1 + 4 * affine_bit b 2 + 8 * affine_bit b 3
    + 16 * affine_bit b 4 + 32 * affine_bit b 5 + 64 * affine_bit b 6 + 128 * affine_bit b 7

-- SubBytes on one byte (FIPS 197, 5.1.1), the way there: its inverse in the field, then the affine map
unfoldable pub sub_byte : ℕ → ℕ
sub_byte a = affine (inverse a)

-- ---- the way back

-- bit i of the inverse of the affine map: bits i + 2, i + 5, i + 7 of b and bit i of 05 in hex, added
abbrev pub inv_affine_bit : ℕ → ℕ → ℕ
inv_affine_bit b i = (bit_at b ((i + 2) % 8) + bit_at b ((i + 5) % 8) + bit_at b ((i + 7) % 8) + bit_at 0x05 i) % 2

-- the inverse of the affine map
abbrev pub inv_affine : ℕ → ℕ
inv_affine b =
    inv_affine_bit b 0 + 2 * inv_affine_bit b 1 + 4 * inv_affine_bit b 2 + 8 * inv_affine_bit b 3
    + 16 * inv_affine_bit b 4 + 32 * inv_affine_bit b 5 + 64 * inv_affine_bit b 6 + 128 * inv_affine_bit b 7

-- InvSubBytes on one byte (FIPS 197, 5.3.2), the way back: the inverse of the affine map, then the inverse in the field
unfoldable pub inv_sub_byte : ℕ → ℕ
inv_sub_byte a = inverse (inv_affine a)

-- ---- the round constants

-- x ^ n (FIPS 197, 5.2)
unfoldable pub power : ℕ → ℕ
power zero = 1
power (suc n) = times_x (power n)
