-- What zero bytes say: no header, no checkpoint, no ring block, no slot, and an unused page.
use Rattle.std.proofs.Common.{◌≡◌, ◌≢◌, ℕ, zero, suc, ◌+◌, ◌≤◌, ◌&&◌, Bool, true, false, true≢false, nat_eq, List, [], ◌∷◌, length, take, codes, Option, Some, None, refl, sym, ap, ◌∙◌, arith, cond}
use Rattle.std.proofs.lemmas.Bool.{cond-true, cond-false}
use Rattle.std.proofs.lemmas.Bool.Decides.{nat_tests}
use Rattle.std.proofs.lemmas.Option.{none-some}
use Rattle.std.proofs.lemmas.Slice.Eq.{bytes_eq-Decides}
use Rattle.std.specs.Int.{from_be_bytes, w32, w64}
use Rattle.std.specs.Str.{bytes_eq}
use Rattle.byte_list.specs.Bytes.{range, zeros}
use Rattle.byte_list.specs.Fields.{be32_at, be64_at}
use Rattle.byte_list.proofs.RangeLaws.{range-zeros, take-zeros}
use Rattle.page_places.specs.Texts.{are_zero, has_magic, held, is_page_text, slot_held}
use Rattle.page_places.proofs.Sums.{and_right, not_true}
use Rattle.page_places.proofs.Texts.{no_magic, none_read}
use Rattle.redo_log.proofs.CheckLaws.{check_is, checkpoint_is}
use Rattle.store_image.specs.Checkpoint.{HeldCheckpoint}
use Rattle.store_image.specs.View.{Slot, Zero}
use Rattle.store_files.specs.Checkpoint.{checkpoint_in}
use Rattle.store_files.specs.Header.{header_in}
use Rattle.store_files.specs.RingBlock.{is_ring_block}
use Rattle.store_files.proofs.RingBlocks.{block_number}
use Rattle.store_form.proofs.HeaderLaws.{header_none}

four_zeros : from_be_bytes w32 (zeros 4) ≡ 0
unfolding zeros
four_zeros = refl

eight_zeros : from_be_bytes w64 (zeros 8) ≡ 0
unfolding zeros
eight_zeros = refl

pub be32_zeros : (n at : ℕ) → at + 4 ≤ n → be32_at (zeros n) at ≡ 0
unfolding be32_at
be32_zeros n at within = ap (λ (l : List ℕ). from_be_bytes w32 l) (range-zeros at 4 n within) ∙ four_zeros

pub be64_zeros : (n at : ℕ) → at + 8 ≤ n → be64_at (zeros n) at ≡ 0
unfolding be64_at
be64_zeros n at within = ap (λ (l : List ℕ). from_be_bytes w64 l) (range-zeros at 8 n within) ∙ eight_zeros

not_one : (a b : ℕ) → a ≡ b → nat_eq a 2 ≡ true → b ≡ 0 → ⊥
not_one a b same two none = let e : a ≡ 2 = grind (arith, nat_tests) in omega (arith, e, same, none)

pub zero_header : (n : ℕ) → 12 ≤ n → header_in (zeros n) ≡ None
zero_header n long = header_none (zeros n) (λ is. first (be32_at (zeros n) 8) (be32_at (zeros n) 12) (be32_zeros n 8 long) is.form)
  where
    first : (a b : ℕ) → a ≡ 0 → (nat_eq a 2 && nat_eq b 16384) ≡ true → ⊥
    first a b none is = let two : nat_eq a 2 ≡ true = grind (arith, nat_tests) in let e : a ≡ 2 = grind (arith, nat_tests) in omega (arith, e, none)

pub zero_checkpoint : (i n : ℕ) (c : HeldCheckpoint) → 16 ≤ n → checkpoint_in i (zeros n) ≡ Some c → ⊥
zero_checkpoint i n c long is =
    let some = (check_is i (zeros n) (checkpoint_is i (zeros n) c is).0).some in
    let none = be64_zeros n 8 long in
    omega (arith, some, none)

pub zero_ring_block : (m n : ℕ) → 1 ≤ m → 8 ≤ n → is_ring_block m (zeros n) ≡ true → ⊥
zero_ring_block m n low long is =
    let number = block_number m (zeros n) is in
    let none = be64_zeros n 0 long in
    omega (arith, number, none, low)

magic_zeros : bytes_eq (zeros 8) (codes "DWSLOT01") ≡ false
unfolding zeros
magic_zeros = refl

no_slot_magic : (n : ℕ) → 8 ≤ n → has_magic (zeros n) ≡ false
unfolding has_magic
no_slot_magic n long = ap (λ (l : List ℕ). bytes_eq l (codes "DWSLOT01")) (take-zeros 8 n long) ∙ magic_zeros

pub zero_slot : (n : ℕ) → 8 ≤ n → slot_held (zeros n) ≡ None
zero_slot n long = none_read (zeros n) (no_magic (zeros n) (no_slot_magic n long))

pub zero_are_zero : (n : ℕ) → are_zero (zeros n) ≡ true
unfolding are_zero zeros
zero_are_zero zero = refl
zero_are_zero (suc n) = zero_are_zero n

no_zero_text : (p n : ℕ) → p ≢ 0 → 8 ≤ n → is_page_text p (zeros n) ≡ false
unfolding is_page_text
no_zero_text p n some long = not_true (is_page_text p (zeros n)) (λ is.
    let number : nat_eq (be32_at (zeros n) 4) p ≡ true = and_right _ _ is in
    let none = be32_zeros n 4 long in
    let e : be32_at (zeros n) 4 ≡ p = grind (arith, nat_tests) in
    some (sym e ∙ none))

pub zero_home : (p n : ℕ) → p ≢ 0 → 8 ≤ n → held p (zeros n) ≡ Zero
unfolding held
zero_home p n some long = cond-false (is_page_text p (zeros n)) _ _ (no_zero_text p n some long) ∙ cond-true (are_zero (zeros n)) _ _ (zero_are_zero n)
