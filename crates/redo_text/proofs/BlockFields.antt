-- What is read of a ring block that was written.
use Rattle.std.proofs.Common.{◌≡◌, ℕ, ◌-◌, ◌<◌, ◌≤◌, ◌^◌, Bool, true, false, List, [], ◌++◌, length, take, drop, refl, sym, ap, ◌∙◌, arith, length-append, append_assoc}
use Rattle.std.specs.Int.{to_be_bytes, w32}
use Rattle.std.proofs.lemmas.List.{append-nil, take-take, take_at}
use Rattle.byte_list.specs.Bytes.{AreBytes, range, zeros}
use Rattle.byte_list.proofs.ByteLaws.{bytes_append, bytes_zeros}
use Rattle.byte_list.proofs.FieldLaws.{be16_at-written, be32_at-written, be64_at-written}
use Rattle.byte_list.proofs.RangeLaws.{range_at}
use Rattle.bytes_core.specs.Crc.{crc32c}
use Rattle.bytes_core.proofs.Division.{crc32c-lt}
use Rattle.redo_text.specs.declared.key.RedoKey.{RedoKey}
use Rattle.redo_text.specs.Block.{enciphered_body, filled, flags, head, ring_block}
use Rattle.redo_text.specs.Reading.{block_body, computed_block_sum, block_flags, is_first, is_last, number_of, stored_block_sum, used_of, block_version}
use Rattle.redo_text.proofs.BlockWrites.{length-head}

-- the fields of a head
module _ (number version used bits : ℕ) (rest : List ℕ) where
  pub number-head : number < 2 ^ 64 → number_of (head number version used bits ++ rest) ≡ number
  unfolding head
  number-head small = be64_at-written (head number version used bits ++ rest) 0 number refl small

  pub version-head : version < 2 ^ 32 → block_version (head number version used bits ++ rest) ≡ version
  unfolding head
  version-head small = be32_at-written (head number version used bits ++ rest) 8 version refl small

  pub used-head : used < 2 ^ 16 → used_of (head number version used bits ++ rest) ≡ used
  unfolding head
  used-head small = be16_at-written (head number version used bits ++ rest) 12 used refl small

  pub flags-head : bits < 2 ^ 16 → block_flags (head number version used bits ++ rest) ≡ bits
  unfolding head
  flags-head small = be16_at-written (head number version used bits ++ rest) 14 bits refl small

-- flags of two bits
pub flags-small : (first last : Bool) → flags first last < 2 ^ 16
flags-small false false = omega arith
flags-small false true = omega arith
flags-small true false = omega arith
flags-small true true = omega arith

pub first-flags : (first last : Bool) → is_first (flags first last) ≡ first
first-flags false false = refl
first-flags false true = refl
first-flags true false = refl
first-flags true true = refl

pub last-flags : (first last : Bool) → is_last (flags first last) ≡ last
last-flags false false = refl
last-flags false true = refl
last-flags true false = refl
last-flags true true = refl

-- a block by its parts: a body of 4076 bytes, and the checksum
module _ (key : RedoKey) (number : ℕ) (first last : Bool) (text o : List ℕ) (long : length o ≡ 4096) (is : o ≡ ring_block key number first last text) where
  abbrev pub h : List ℕ
  h = head number key.version (length text) (flags first last)

  abbrev pub b : List ℕ
  b = enciphered_body key number text

  abbrev pub sum : List ℕ
  sum = to_be_bytes w32 (crc32c (h ++ b))

  parts : o ≡ h ++ (b ++ sum)
  parts = is ∙ append_assoc h b sum

  pub body_long : length b ≡ 4076
  body_long =
      let all = length-append h (b ++ sum) in
      let more = length-append b sum in
      omega (arith, sym long ∙ ap length parts, all, more, length-head number key.version (length text) (flags first last))

  pub body_is : block_body o ≡ enciphered_body key number text
  body_is = ap block_body parts ∙ range_at h b sum 16 4076 (length-head number key.version (length text) (flags first last)) body_long

  pub number_is : number < 2 ^ 64 → number_of o ≡ number
  number_is small = ap number_of parts ∙ number-head number key.version (length text) (flags first last) (b ++ sum) small

  pub version_is : key.version < 2 ^ 32 → block_version o ≡ key.version
  version_is small = ap block_version parts ∙ version-head number key.version (length text) (flags first last) (b ++ sum) small

  pub used_is : length text ≤ 4076 → used_of o ≡ length text
  used_is most = ap used_of parts ∙ used-head number key.version (length text) (flags first last) (b ++ sum) (omega arith)

  pub flags_is : block_flags o ≡ flags first last
  flags_is = ap block_flags parts ∙ flags-head number key.version (length text) (flags first last) (b ++ sum) (flags-small first last)

  front_long : length (h ++ b) ≡ 4092
  front_long = length-append h b ∙ omega (arith, length-head number key.version (length text) (flags first last), body_long)

  pub sum_is : stored_block_sum o ≡ computed_block_sum o
  sum_is =
      let here : range 4092 4 o ≡ sum = ap (range 4092 4) (is ∙ ap (λ (l : List ℕ). (h ++ b) ++ l) (sym (append-nil sum))) ∙ range_at (h ++ b) sum [] 4092 4 front_long refl in
      let front : range 0 4092 o ≡ h ++ b = ap (range 0 4092) is ∙ take_at (h ++ b) sum 4092 front_long in
      be32_at-written o 4092 (crc32c (h ++ b)) here (crc32c-lt (h ++ b)) ∙ ap crc32c (sym front)

-- the text in a body in clear
pub filled_bytes : (text : List ℕ) → AreBytes text → AreBytes (filled text)
filled_bytes text are = bytes_append text (zeros (4076 - length text)) are (bytes_zeros (4076 - length text))

pub text_read : (text block : List ℕ) → length text ≤ 4076 → block_body block ≡ filled text → range 16 (length text) block ≡ text
text_read text block most is =
    sym (take-take (length text) 4076 (drop 16 block) most) ∙ ap (take (length text)) is ∙ take_at text (zeros (4076 - length text)) (length text) refl
