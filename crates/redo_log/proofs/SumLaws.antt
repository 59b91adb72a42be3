-- The checksum of a file block of 4096 bytes, as a test reads it.
use Rattle.std.proofs.Common.{◌≡◌, ℕ, ◌-◌, ◌≤◌, Bool, true, false, true≢false, nat_eq, nat_le, List, length, take, drop, refl, sym, ap, ◌∙◌, arith, length-drop}
use Rattle.std.proofs.lemmas.Bool.Decides.{nat_tests}
use Rattle.std.proofs.lemmas.List.{take_all}
use Rattle.std.specs.Int.{from_be_bytes, w32}
use Rattle.std.proofs.lemmas.Bool.{eq-eqb}
use Rattle.byte_list.specs.Bytes.{AreBytes}
use Rattle.byte_list.specs.Fields.{be32_at}
use Rattle.bytes_core.specs.Crc.{crc32c}
use Rattle.bytes_core.proofs.LastByte.{ends-stored, stored-ends}
use Rattle.page_places.specs.Texts.{ends_in_sum}
use Rattle.page_places.proofs.Sums.{ends-ends_in_sum, ends_in_sum-ends, not_true}
use Rattle.redo_text.specs.Reading.{stored_block_sum, computed_block_sum}

pub eq_of : (a b : ℕ) → nat_eq a b ≡ true → a ≡ b
eq_of a b is = grind (arith, nat_tests)

pub le_of : (a b : ℕ) → nat_le a b ≡ true → a ≤ b
le_of a b is = grind (arith, nat_tests)

pub of_le : (a b : ℕ) → a ≤ b → nat_le a b ≡ true
of_le a b is = grind (arith, nat_tests)

module _ (b : List ℕ) (long : length b ≡ 4096) where
  end : length b - 4 ≡ 4092
  end = omega (arith, long)

  four : take 4 (drop 4092 b) ≡ drop 4092 b
  four = take_all 4 (drop 4092 b) (omega (arith, length-drop 4092 b, long))

  stored_is : stored_block_sum b ≡ from_be_bytes w32 (drop (length b - 4) b)
  unfolding be32_at
  stored_is = ap (from_be_bytes w32) four ∙ ap (λ (n : ℕ). from_be_bytes w32 (drop n b)) (sym end)

  computed_is : computed_block_sum b ≡ crc32c (take (length b - 4) b)
  computed_is = ap (λ (n : ℕ). crc32c (take n b)) (sym end)

  sum_there : ends_in_sum b ≡ true → stored_block_sum b ≡ computed_block_sum b
  sum_there is = stored_is ∙ ends-stored b (ends_in_sum-ends b is) ∙ sym computed_is

  sum_here : AreBytes b → stored_block_sum b ≡ computed_block_sum b → ends_in_sum b ≡ true
  sum_here are is = ends-ends_in_sum b (stored-ends b (omega (arith, long)) are (sym stored_is ∙ is ∙ computed_is))

  -- the two sums are the same exactly where the block ends in its checksum
  pub sum_test : AreBytes b → nat_eq (stored_block_sum b) (computed_block_sum b) ≡ ends_in_sum b
  sum_test are = by (ends_in_sum b) refl
    where
      by : (t : Bool) → ends_in_sum b ≡ t → nat_eq (stored_block_sum b) (computed_block_sum b) ≡ ends_in_sum b
      by true e = eq-eqb _ _ (sum_there e) ∙ sym e
      by false e = not_true _ (λ t. true≢false (sym (sum_here are (eq_of _ _ t)) ∙ e)) ∙ sym e
