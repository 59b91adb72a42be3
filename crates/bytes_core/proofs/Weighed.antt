-- A byte that is moved on by many bits, from where the bit 1 alone comes to.
use Rattle.std.proofs.Common.{◌≡◌, ℕ, zero, suc, ◌+◌, ◌^◌, ◌<◌, Bool, true, false, List, [], ◌∷◌, map, bit_xor, refl, sym, ap, ◌∙◌, arith}
use Rattle.std.specs.Prelude.{if◌then◌else◌}
use Rattle.std.specs.List.{range_with_len}
use Rattle.std.proofs.lemmas.List.FromFn.{fill_by_all, get_or-map-range_with_len, length-map-range_with_len}
use Rattle.bytes_core.specs.Crc.{low_coefficients, moved, moved_by, moved_bytes, after_bits}
use Rattle.bytes_core.proofs.Division.{unit}
use Rattle.bytes_core.proofs.Register.{moved_by-xor, moved_by-add, after_low_bits}

-- the register after more bits, each of which adds g in the place of 1
unfoldable pub weighed : ℕ → ℕ → ℕ → List Bool → ℕ
weighed p g r [] = r
weighed p g r (b ∷ bs) = weighed p g (moved p (bit_xor r (if b then g else 0))) bs

moved_by-zero : (p n : ℕ) → moved_by p n 0 ≡ 0
unfolding moved_by
moved_by-zero p zero = refl
moved_by-zero p (suc n) = moved_by-zero p n

moved_by-moved : (p n r : ℕ) → moved_by p n (moved p r) ≡ moved p (moved_by p n r)
unfolding moved_by
moved_by-moved p zero r = refl
moved_by-moved p (suc n) r = moved_by-moved p n (moved p r)

moved_by-unit : (p n : ℕ) (b : Bool) → moved_by p n (unit b) ≡ (if b then moved_by p n 1 else 0)
moved_by-unit p n false = moved_by-zero p n
moved_by-unit p n true = refl

weighed-after : (p n r : ℕ) (bs : List Bool) → moved_by p n (after_bits p r bs) ≡ weighed p (moved_by p n 1) (moved_by p n r) bs
unfolding after_bits weighed
weighed-after p n r [] = refl
weighed-after p n r (b ∷ bs) =
    weighed-after p n (moved p (bit_xor r (unit b))) bs
    ∙ ap (λ (k : ℕ). weighed p (moved_by p n 1) k bs) (moved_by-moved p n (bit_xor r (unit b))
    ∙ ap (moved p) (moved_by-xor p n r (unit b) ∙ ap (bit_xor (moved_by p n r)) (moved_by-unit p n b)))

moved_byte : (p n b : ℕ) → b < 2 ^ 8 → moved_by p (8 + n) b ≡ weighed p (moved_by p n 1) 0 (low_coefficients 8 b)
moved_byte p n b h =
    moved_by-add p 8 n b ∙ ap (moved_by p n) (sym (after_low_bits p 8 0 b h)) ∙ weighed-after p n 0 (low_coefficients 8 b)
    ∙ ap (λ (k : ℕ). weighed p (moved_by p n 1) k (low_coefficients 8 b)) (moved_by-zero p n)

-- each value of a byte, where g is the bit 1 moved on by eight bits less
abbrev pub weighed_bytes : ℕ → ℕ → List ℕ
weighed_bytes p g = map (λ (b : ℕ). weighed p g 0 (low_coefficients 8 b)) (range_with_len 0 256)

pub moved_bytes_are : (p n m g : ℕ) → moved_by p n 1 ≡ g → 8 + n ≡ m → moved_bytes p m ≡ weighed_bytes p g
moved_bytes_are p n m g is e =
    fill_by_all (λ (b : ℕ). weighed p g 0 (low_coefficients 8 b)) (moved_bytes p m) 256 0 (length-map-range_with_len (moved_by p m) 0 256)
    (λ b h. get_or-map-range_with_len (moved_by p m) 0 256 b b 0 h (omega arith)
    ∙ ap (λ (k : ℕ). moved_by p k b) (sym e) ∙ moved_byte p n b h
    ∙ ap (λ (k : ℕ). weighed p k 0 (low_coefficients 8 b)) is)
