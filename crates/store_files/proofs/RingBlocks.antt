-- A ring block by its bytes alone, and as redo_text reads it: both say the same of 4096 bytes, and a block that is written is read back.
use Rattle.std.proofs.Common.{◌≡◌, ◌≢◌, ℕ, ◌+◌, ◌-◌, ◌^◌, ◌<◌, ◌≤◌, Bool, true, false, true≢false, nat_eq, List, ◌++◌, length, take, refl, sym, ap, ◌∙◌, arith, ⊎_elim}
use Rattle.std.specs.Prelude.{eqb, Result, Ok, Err}
use Rattle.std.proofs.lemmas.Bool.{eq-eqb, ne_eqb}
use Rattle.std.proofs.lemmas.Bool.Decides.{eqb_tells, nat_tests}
use Rattle.std.proofs.lemmas.List.{take_at}
use Rattle.aes_core.specs.Algorithm.{ciphered, deciphered}
use Rattle.aes_core.specs.Cipher.{IsCipherBlock, IsKey}
use Rattle.aes_core.specs.Modes.{whole_blocks}
use Rattle.aes_core.specs.declared.algorithm.Algorithm.{Algorithm}
use Rattle.aes_core.specs.declared.algorithm.Algorithm.TheVariants.{Cbc, Ctr}
use Rattle.aes_core.proofs.ModeLaws.{cbc_undone, ctr_twice, stream_blocks}
use Rattle.byte_list.specs.Bytes.{AreBytes, zeros}
use Rattle.bytes_core.proofs.LastByte.{ends-append}
use Rattle.disk_model.specs.Crash.{torn_bytes}
use Rattle.page_places.specs.Texts.{ends_in_sum}
use Rattle.page_places.proofs.Sums.{and_left, and_right, and_both, not_true, ends-ends_in_sum, torn_page}
use Rattle.redo_text.specs.Block.{enciphered_body, filled, flags, head, log_iv, ring_block}
use Rattle.redo_text.specs.Reading.{reading, block_body, number_of, used_of, block_version, stored_block_sum, computed_block_sum}
use Rattle.redo_text.specs.declared.fault.BlockFault.{BlockFault}
use Rattle.redo_text.specs.declared.fault.BlockFault.TheVariants.{WrongNumber}
use Rattle.redo_text.specs.declared.key.RedoKey.{RedoKey}
use Rattle.redo_text.proofs.BlockFields.{body_is, filled_bytes, number_is, used_is}
use Rattle.redo_text.proofs.BlockTaken.{reading_sum, taken, sum_ends}
use Rattle.store_files.specs.RingBlock.{has_no_fault, is_ring_block, begins_mtr, ends_mtr, block_text}
use Rattle.store_files.proofs.TextsOnce.{iv_block}

-- ---- what is read with no fault

no_fault : (r : Result (Unit {0}) BlockFault) → has_no_fault r ≡ true → r ≡ Ok tt
no_fault (Ok u) is = refl
no_fault (Err e) is = absurd (true≢false (sym is))

pub block_sum : (n : ℕ) (b : List ℕ) → is_ring_block n b ≡ true → ends_in_sum b ≡ true
unfolding is_ring_block
block_sum n b valid = and_left _ _ valid

pub block_long : (n : ℕ) (b : List ℕ) → is_ring_block n b ≡ true → length b ≡ 4096
unfolding is_ring_block
block_long n b valid = let long : nat_eq (length b) 4096 ≡ true = and_left _ _ (and_right (ends_in_sum b) _ valid) in grind (arith, nat_tests)

-- a valid ring block is read with no fault
pub block_read : (n : ℕ) (b : List ℕ) → is_ring_block n b ≡ true → reading n b ≡ Ok tt
unfolding is_ring_block
block_read n b valid = no_fault (reading n b) (and_right (nat_eq (length b) 4096) _ (and_right (ends_in_sum b) _ valid))

wrong_number : (n : ℕ) (b : List ℕ) → stored_block_sum b ≡ computed_block_sum b → number_of b ≢ n → reading n b ≡ Err (WrongNumber n (number_of b))
unfolding reading
wrong_number n b sum differ = rw (eq-eqb (stored_block_sum b) (computed_block_sum b) sum, ne_eqb (number_of b) n differ) refl

number_read : (n : ℕ) (b : List ℕ) → reading n b ≡ Ok tt → number_of b ≡ n
number_read n b ok =
    ⊎_elim (λ (yes : (eqb (number_of b) n ≡ true) × (number_of b ≡ n)). yes.1)
    (λ (no : (eqb (number_of b) n ≡ false) × (number_of b ≢ n)). let bad : Ok tt ≡ Err (WrongNumber n (number_of b)) = sym ok ∙ wrong_number n b (reading_sum n b ok) no.1 in absurd cc) (eqb_tells (number_of b) n)

-- a valid ring block has its number
pub block_number : (n : ℕ) (b : List ℕ) → is_ring_block n b ≡ true → number_of b ≡ n
block_number n b valid = number_read n b (block_read n b valid)

valid_block : (n : ℕ) (b : List ℕ) → ends_in_sum b ≡ true → length b ≡ 4096 → reading n b ≡ Ok tt → is_ring_block n b ≡ true
unfolding is_ring_block
valid_block n b sum long ok =
    let size : nat_eq (length b) 4096 ≡ true = grind (arith, nat_tests) in
    and_both _ _ sum (and_both _ _ size (ap has_no_fault ok))

-- 4096 bytes that are read with no fault are a valid ring block
pub read_is_block : (n : ℕ) (b : List ℕ) → length b ≡ 4096 → AreBytes b → reading n b ≡ Ok tt → is_ring_block n b ≡ true
read_is_block n b long are ok = valid_block n b (ends-ends_in_sum b (sum_ends b long are (reading_sum n b ok))) long ok

-- and are none once the last byte is inverted
pub ring_block_torn : (n m : ℕ) (b : List ℕ) → is_ring_block n b ≡ true → is_ring_block m (torn_bytes b) ≡ false
ring_block_torn n m b valid = not_true _ (λ torn. true≢false (sym (block_sum m (torn_bytes b) torn) ∙ torn_page b (block_sum n b valid)))

-- ---- a block that is written

deciphered_back : (algorithm : Algorithm) (key iv text : List ℕ) → IsKey key → IsCipherBlock iv → AreBytes text → deciphered algorithm key iv (ciphered algorithm key iv text) ≡ text
deciphered_back Cbc key iv text k v are = cbc_undone key iv k v text are
deciphered_back Ctr key iv text k v are = ctr_twice key iv text (stream_blocks key iv k (whole_blocks text + 1))

log_iv_block : (number : ℕ) → IsCipherBlock (log_iv number)
unfolding log_iv
log_iv_block number = iv_block 0xffff_fff0 0 number

module _ (key : RedoKey) (number : ℕ) (first last : Bool) (text : List ℕ) (long : length (ring_block key number first last text) ≡ 4096) (small : number < 2 ^ 64) (some : 1 ≤ key.version) (version : key.version < 2 ^ 32) (least : 1 ≤ length text) (most : length text ≤ 4076)
    (whole : last ≡ false → length text ≡ 4076) where
  abbrev o : List ℕ
  o = ring_block key number first last text

  -- A ring block that is written is valid under its number, has its version, and says whether it is the first and the last of its mini-transaction.
  pub ring_block_back : (is_ring_block number o ≡ true) × (block_version o ≡ key.version) × (begins_mtr o ≡ first) × (ends_mtr o ≡ last)
  ring_block_back =
      let t = taken key number first last text o long refl small some version least most whole in
      let sum : ends_in_sum o ≡ true = ends-ends_in_sum o (ends-append (head number key.version (length text) (flags first last) ++ enciphered_body key number text)) in
      (valid_block number o sum long t.0, t.1, t.3, t.4)

  -- and its text comes back under its key
  pub ring_block_text : IsKey key.local → AreBytes text → block_text key.algorithm key.local o ≡ text
  ring_block_text is_key are =
      let used : used_of o ≡ length text = used_is key number first last text o long refl most in
      let number_there : number_of o ≡ number = number_is key number first last text o long refl small in
      let body_there : block_body o ≡ enciphered_body key number text = body_is key number first last text o long refl in
      let clear : deciphered key.algorithm key.local (log_iv (number_of o)) (block_body o) ≡ filled text =
      (λ i. deciphered key.algorithm key.local (log_iv (number_there i)) (body_there i)) ∙ deciphered_back key.algorithm key.local (log_iv number) (filled text) is_key (log_iv_block number) (filled_bytes text are) in
      (λ i. take (used i) (clear i)) ∙ take_at text (zeros (4076 - length text)) (length text) refl
