-- A product is linear in its second factor, and two circulant matrices that undo each other.
use Rattle.std.proofs.Common.{◌≡◌, ℕ, zero, suc, ◌+◌, ◌*◌, ◌/◌, ◌%◌, ◌^◌, ◌==◌, ◌<◌, Bool, true, false, List, [], ◌∷◌, get_or, bit_xor, refl, sym, ap, ap₂, ◌∙◌, arith, pow_pos}
use Rattle.std.specs.Prelude.{if◌then◌else◌}
use Rattle.std.proofs.lemmas.Nat.{xor_lt, xor_shr, xor_mod, xor_block}
use lib.Bits.{xor_assoc, xor_self, xor_zero_r}
use Rattle.byte_list.proofs.XorLaws.{xor_four}
use Rattle.aes_core.specs.Field.{product_of, times, times_x}
use Rattle.aes_core.specs.Cipher.{circulant_times, row_times}

abbrev differs : Bool → Bool → Bool
differs false b = b
differs true false = true
differs true true = false

differs-small : (x y : ℕ) → x < 2 → y < 2 → (bit_xor x y == 1) ≡ differs (x == 1) (y == 1)
differs-small zero zero hx hy = refl
differs-small zero (suc zero) hx hy = refl
differs-small (suc zero) zero hx hy = refl
differs-small (suc zero) (suc zero) hx hy = refl
differs-small (suc (suc x)) y hx hy = absurd (omega arith)
differs-small x (suc (suc y)) hx hy = absurd (omega arith)

chosen_xor : (p : ℕ) (a b : Bool) → (if differs a b then p else 0) ≡ bit_xor (if a then p else 0) (if b then p else 0)
chosen_xor p false false = refl
chosen_xor p false true = refl
chosen_xor p true false = sym (xor_zero_r p)
chosen_xor p true true = sym (xor_self p)

doubled_xor : (a b : ℕ) → bit_xor a b * 2 % 256 ≡ bit_xor (a * 2 % 256) (b * 2 % 256)
doubled_xor a b =
    let one : bit_xor (a * 2 ^ 1 + 0) (b * 2 ^ 1 + 0) ≡ bit_xor a b * 2 ^ 1 + bit_xor 0 0 = xor_block 1 a b 0 0 (pow_pos 1) (pow_pos 1) in
    let ea : a * 2 ^ 1 + 0 ≡ a * 2 = omega arith in
    let eb : b * 2 ^ 1 + 0 ≡ b * 2 = omega arith in
    let ec : bit_xor a b * 2 ^ 1 + bit_xor 0 0 ≡ bit_xor a b * 2 = omega arith in
    ap (λ (n : ℕ). n % 256) (sym ec ∙ sym one ∙ ap₂ bit_xor ea eb) ∙ xor_mod (a * 2) (b * 2) 8

pub times_x-xor : (a b : ℕ) → times_x (bit_xor a b) ≡ bit_xor (times_x a) (times_x b)
times_x-xor a b =
    let top : (bit_xor a b / 128 % 2 == 1) ≡ differs (a / 128 % 2 == 1) (b / 128 % 2 == 1) =
    ap (λ (n : ℕ). n == 1) (ap (λ (n : ℕ). n % 2) (xor_shr a b 7) ∙ xor_mod (a / 128) (b / 128) 1)
    ∙ differs-small (a / 128 % 2) (b / 128 % 2) (omega arith) (omega arith) in
    ap₂ (λ (h : ℕ) (c : Bool). bit_xor h (if c then 0x1B else 0)) (doubled_xor a b) top
    ∙ ap (bit_xor (bit_xor (a * 2 % 256) (b * 2 % 256))) (chosen_xor 0x1B (a / 128 % 2 == 1) (b / 128 % 2 == 1))
    ∙ xor_four (a * 2 % 256) (b * 2 % 256) (if (a / 128 % 2 == 1) then 0x1B else 0) (if (b / 128 % 2 == 1) then 0x1B else 0)

chosen_of_xor : (c : Bool) (a b : ℕ) → (if c then bit_xor a b else 0) ≡ bit_xor (if c then a else 0) (if c then b else 0)
chosen_of_xor true a b = refl
chosen_of_xor false a b = refl

product_of-xor : (k a b m : ℕ) → product_of k (bit_xor a b) m ≡ bit_xor (product_of k a m) (product_of k b m)
unfolding product_of
product_of-xor zero a b m = refl
product_of-xor (suc k) a b m =
    ap₂ bit_xor (chosen_of_xor (m % 2 == 1) a b)
    (ap (λ (n : ℕ). product_of k n (m / 2)) (times_x-xor a b) ∙ product_of-xor k (times_x a) (times_x b) (m / 2))
    ∙ xor_four (if (m % 2 == 1) then a else 0) (if (m % 2 == 1) then b else 0) (product_of k (times_x a) (m / 2)) (product_of k (times_x b) (m / 2))

pub times-xor : (m a b : ℕ) → times m (bit_xor a b) ≡ bit_xor (times m a) (times m b)
times-xor m a b = product_of-xor 8 a b m

pub times_x-lt : (a : ℕ) → times_x a < 256
times_x-lt a = xor_lt 8 (a * 2 % 256) (if (a / 128 % 2 == 1) then 0x1B else 0) (omega arith) (small (a / 128 % 2 == 1))
  where
    small : (c : Bool) → (if c then 0x1B else 0) < 2 ^ 8
    small false = omega arith
    small true = omega arith

chosen-lt : (c : Bool) (a : ℕ) → a < 256 → (if c then a else 0) < 256
chosen-lt true a h = h
chosen-lt false a h = omega arith

product_of-lt : (k a m : ℕ) → a < 256 → product_of k a m < 256
unfolding product_of
product_of-lt zero a m h = omega arith
product_of-lt (suc k) a m h =
    xor_lt 8 (if (m % 2 == 1) then a else 0) (product_of k (times_x a) (m / 2)) (chosen-lt (m % 2 == 1) a h) (product_of-lt k (times_x a) (m / 2) (times_x-lt a))

pub times-lt : (m a : ℕ) → a < 256 → times m a < 256
times-lt m a h = product_of-lt 8 a m h

-- ---- a circulant matrix is linear

pub sum_four : (a b c d e f g h : ℕ)
    → bit_xor (bit_xor (bit_xor (bit_xor a e) (bit_xor b f)) (bit_xor c g)) (bit_xor d h)
    ≡ bit_xor (bit_xor (bit_xor (bit_xor a b) c) d) (bit_xor (bit_xor (bit_xor e f) g) h)
sum_four a b c d e f g h =
    ap (λ (n : ℕ). bit_xor (bit_xor n (bit_xor c g)) (bit_xor d h)) (xor_four a e b f)
    ∙ ap (λ (n : ℕ). bit_xor n (bit_xor d h)) (xor_four (bit_xor a b) (bit_xor e f) c g)
    ∙ xor_four (bit_xor (bit_xor a b) c) (bit_xor (bit_xor e f) g) d h

pub row_times-xor : (m n o p a b c d e f g h : ℕ)
    → row_times m n o p (bit_xor a e) (bit_xor b f) (bit_xor c g) (bit_xor d h) ≡ bit_xor (row_times m n o p a b c d) (row_times m n o p e f g h)
row_times-xor m n o p a b c d e f g h =
    rw (times-xor m a e, times-xor n b f, times-xor o c g, times-xor p d h)
    (sum_four (times m a) (times n b) (times o c) (times p d) (times m e) (times n f) (times o g) (times p h))

-- ---- two matrices

-- a row times one column of another matrix, times a
abbrev entry : ℕ → ℕ → ℕ → ℕ → ℕ → ℕ → ℕ → ℕ → ℕ → ℕ
entry m n o p i j k l a = row_times m n o p (times i a) (times j a) (times k a) (times l a)

-- a row times what the circulant matrix i j k l makes of a column: each element of the column apart
row_of_rows : (m n o p i j k l a b c d : ℕ)
    → row_times m n o p (row_times i j k l a b c d) (row_times l i j k a b c d) (row_times k l i j a b c d) (row_times j k l i a b c d)
    ≡ bit_xor (bit_xor (bit_xor (entry m n o p i l k j a) (entry m n o p j i l k b)) (entry m n o p k j i l c)) (entry m n o p l k j i d)
row_of_rows m n o p i j k l a b c d =
    row_times-xor m n o p
    (bit_xor (bit_xor (times i a) (times j b)) (times k c)) (bit_xor (bit_xor (times l a) (times i b)) (times j c))
    (bit_xor (bit_xor (times k a) (times l b)) (times i c)) (bit_xor (bit_xor (times j a) (times k b)) (times l c))
    (times l d) (times k d) (times j d) (times i d)
    ∙ ap (λ (x : ℕ). bit_xor x (entry m n o p l k j i d))
    (row_times-xor m n o p (bit_xor (times i a) (times j b)) (bit_xor (times l a) (times i b)) (bit_xor (times k a) (times l b)) (bit_xor (times j a) (times k b))
    (times k c) (times j c) (times i c) (times l c)
    ∙ ap (λ (x : ℕ). bit_xor x (entry m n o p k j i l c))
    (row_times-xor m n o p (times i a) (times l a) (times k a) (times j a) (times j b) (times i b) (times l b) (times k b)))

-- What the matrix i j k l makes of a column, the matrix m n o p makes the column of again, if it does so
-- of each column with one element.
pub undone : (m n o p i j k l : ℕ)
    → ((a : ℕ) → a < 256 → circulant_times m n o p (times i a) (times l a) (times k a) (times j a) ≡ a ∷ 0 ∷ 0 ∷ 0 ∷ [])
    → ((a : ℕ) → a < 256 → circulant_times m n o p (times j a) (times i a) (times l a) (times k a) ≡ 0 ∷ a ∷ 0 ∷ 0 ∷ [])
    → ((a : ℕ) → a < 256 → circulant_times m n o p (times k a) (times j a) (times i a) (times l a) ≡ 0 ∷ 0 ∷ a ∷ 0 ∷ [])
    → ((a : ℕ) → a < 256 → circulant_times m n o p (times l a) (times k a) (times j a) (times i a) ≡ 0 ∷ 0 ∷ 0 ∷ a ∷ [])
    → (a b c d : ℕ) → a < 256 → b < 256 → c < 256 → d < 256
    → circulant_times m n o p (row_times i j k l a b c d) (row_times l i j k a b c d) (row_times k l i j a b c d) (row_times j k l i a b c d)
    ≡ a ∷ b ∷ c ∷ d ∷ []
undone m n o p i j k l c1 c2 c3 c4 a b c d ha hb hc hd =
    let row = λ (r : ℕ) (xs : List ℕ). get_or xs r 0 in
    let e0 = row_of_rows m n o p i j k l a b c d
    ∙ (λ t. bit_xor (bit_xor (bit_xor (row 0 (c1 a ha t)) (row 0 (c2 b hb t))) (row 0 (c3 c hc t))) (row 0 (c4 d hd t))) in
    let e1 = row_of_rows p m n o i j k l a b c d
    ∙ (λ t. bit_xor (bit_xor (bit_xor (row 1 (c1 a ha t)) (row 1 (c2 b hb t))) (row 1 (c3 c hc t))) (row 1 (c4 d hd t))) in
    let e2 = row_of_rows o p m n i j k l a b c d
    ∙ (λ t. bit_xor (bit_xor (bit_xor (row 2 (c1 a ha t)) (row 2 (c2 b hb t))) (row 2 (c3 c hc t))) (row 2 (c4 d hd t))) in
    let e3 = row_of_rows n o p m i j k l a b c d
    ∙ (λ t. bit_xor (bit_xor (bit_xor (row 3 (c1 a ha t)) (row 3 (c2 b hb t))) (row 3 (c3 c hc t))) (row 3 (c4 d hd t))) in
    let z0 : bit_xor (bit_xor (bit_xor a 0) 0) 0 ≡ a = simp xor_zero_r in
    let z1 : bit_xor (bit_xor b 0) 0 ≡ b = simp xor_zero_r in
    (λ t. (e0 ∙ z0) t ∷ (e1 ∙ z1) t ∷ (e2 ∙ xor_zero_r c) t ∷ e3 t ∷ [])

pub row_times-lt : (m n o p a b c d : ℕ) → a < 256 → b < 256 → c < 256 → d < 256 → row_times m n o p a b c d < 256
row_times-lt m n o p a b c d ha hb hc hd =
    xor_lt 8 _ (times p d) (xor_lt 8 _ (times o c) (xor_lt 8 (times m a) (times n b) (times-lt m a ha) (times-lt n b hb)) (times-lt o c hc)) (times-lt p d hd)

product_of-nothing : (k a : ℕ) → product_of k a 0 ≡ 0
unfolding product_of
product_of-nothing zero a = refl
product_of-nothing (suc k) a = product_of-nothing k (times_x a)

pub times_low : (m a : ℕ) → m < 16
    → bit_xor (bit_xor (bit_xor (if m % 2 == 1 then a else 0) (if m / 2 % 2 == 1 then times_x a else 0)) (if m / 4 % 2 == 1 then times_x (times_x a) else 0)) (if m / 8 % 2 == 1 then times_x (times_x (times_x a)) else 0) ≡ times m a
unfolding product_of
times_low m a h =
    let q : m / 2 / 2 ≡ m / 4 = omega arith in
    let e : m / 4 / 2 ≡ m / 8 = omega arith in
    let z : m / 8 / 2 ≡ 0 = omega arith in
    let c0 : ℕ = if m % 2 == 1 then a else 0 in
    let c1 : ℕ = if m / 2 % 2 == 1 then times_x a else 0 in
    let c2 : ℕ = if m / 4 % 2 == 1 then times_x (times_x a) else 0 in
    let c3 : ℕ = if m / 8 % 2 == 1 then times_x (times_x (times_x a)) else 0 in
    let d2 : ℕ = times_x (times_x a) in
    let d3 : ℕ = times_x d2 in
    xor_assoc (bit_xor c0 c1) c2 c3 ∙ xor_assoc c0 c1 (bit_xor c2 c3)
    ∙ ap (λ (n : ℕ). bit_xor c0 (bit_xor c1 (bit_xor c2 n))) (sym (xor_zero_r c3) ∙ ap (bit_xor c3) (sym (product_of-nothing 4 (times_x d3)) ∙ ap (product_of 4 (times_x d3)) (sym z)))
    ∙ ap (λ (n : ℕ). bit_xor c0 (bit_xor c1 (bit_xor c2 (product_of 5 d3 n)))) (sym e)
    ∙ ap (λ (n : ℕ). bit_xor c0 (bit_xor c1 (product_of 6 d2 n))) (sym q)
