-- XOR of numbers and of lists.
use Rattle.std.proofs.Common.{◌≡◌, ℕ, suc, ◌≤◌, List, [], ◌∷◌, ◌++◌, length, bit_xor, refl, sym, ap, ap₂, ◌∙◌, arith}
use Rattle.std.proofs.lemmas.Nat.{xor_comm}
use lib.Bits.{xor_assoc, xor_self, xor_zero_r}
use Rattle.byte_list.specs.Xor.{xored}

pub xor_swap : (a b c : ℕ) → bit_xor a (bit_xor b c) ≡ bit_xor b (bit_xor a c)
xor_swap a b c = sym (xor_assoc a b c) ∙ ap (λ (n : ℕ). bit_xor n c) (xor_comm a b) ∙ xor_assoc b a c

pub xor_four : (a b c d : ℕ) → bit_xor (bit_xor a b) (bit_xor c d) ≡ bit_xor (bit_xor a c) (bit_xor b d)
xor_four a b c d = xor_assoc a b (bit_xor c d) ∙ ap (bit_xor a) (xor_swap b c d) ∙ sym (xor_assoc a c (bit_xor b d))

pub xor_twice : (a b : ℕ) → bit_xor (bit_xor a b) b ≡ a
xor_twice a b = xor_assoc a b b ∙ ap (bit_xor a) (xor_self b) ∙ xor_zero_r a

-- ---- lists

pub xored_twice : (xs ys : List ℕ) → length xs ≤ length ys → xored (xored xs ys) ys ≡ xs
xored_twice [] ys h = refl
xored_twice (x ∷ xs) [] h = absurd (omega arith)
xored_twice (x ∷ xs) (y ∷ ys) h = ap₂ (λ (z : ℕ) (zs : List ℕ). z ∷ zs) (xor_twice x y) (xored_twice xs ys (omega arith))

pub xored_append : (a b c d : List ℕ) → length a ≡ length c → xored (a ++ b) (c ++ d) ≡ xored a c ++ xored b d
xored_append [] b [] d h = refl
xored_append [] b (y ∷ c) d h = absurd (omega arith)
xored_append (x ∷ a) b [] d h = absurd (omega arith)
xored_append (x ∷ a) b (y ∷ c) d h = ap (λ (l : List ℕ). bit_xor x y ∷ l) (xored_append a b c d (omega arith))

pub length-xored : (xs ys : List ℕ) → length xs ≤ length ys → length (xored xs ys) ≡ length xs
length-xored [] ys h = refl
length-xored (x ∷ xs) [] h = absurd (omega arith)
length-xored (x ∷ xs) (y ∷ ys) h = ap (λ (n : ℕ). suc n) (length-xored xs ys (omega arith))
