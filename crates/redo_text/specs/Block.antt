-- The blocks of a mini-transaction: 4096 bytes each, with 4076 bytes of its text under a key. Numbers have their highest byte first, but for those of the IV.
use Rattle.std.specs.Prelude.{◌≡◌, ℕ, ◌+◌, ◌-◌, ◌*◌, ◌<◌, ◌==◌, Bool, List, ◌++◌, length, if◌then◌else◌}
use Rattle.std.specs.Int.{div_ceil, to_be_bytes, to_le_bytes, w16, w32, w64}
use Rattle.aes_core.specs.Algorithm.{ciphered}
use Rattle.aes_core.specs.Modes.{joined}
use Rattle.byte_list.specs.Bytes.{range, zeros}
use Rattle.bytes_core.specs.Crc.{crc32c}
use Rattle.redo_text.specs.declared.key.RedoKey.{RedoKey}

-- the bytes of a ring block, those of its text or body, where the body begins, and where the checksum stands behind it
abbrev pub ring_block_size : ℕ
ring_block_size = 4096

abbrev pub ring_body_size : ℕ
ring_body_size = 4076

abbrev pub ring_body_at : ℕ
ring_body_at = 16

abbrev pub ring_sum_at : ℕ
ring_sum_at = 4092

-- a text with its checksum behind it
abbrev pub sealed : List ℕ → List ℕ
sealed text = text ++ to_be_bytes w32 (crc32c text)

-- bit 0 for the first block of a mini-transaction, bit 1 for its last
abbrev pub flags : Bool → Bool → ℕ
flags first last = (if first then 1 else 0) + (if last then 2 else 0)

-- the first 16 bytes: number, key version, used length and flags
unfoldable pub head : ℕ → ℕ → ℕ → ℕ → List ℕ
head number version used flags = to_be_bytes w64 number ++ (to_be_bytes w32 version ++ (to_be_bytes w16 used ++ to_be_bytes w16 flags))

-- the IV of a block, or its first counter
unfoldable pub log_iv : ℕ → List ℕ
log_iv number = to_le_bytes w32 0xFFFFFFF0 ++ (to_le_bytes w32 0 ++ to_le_bytes w64 number)

-- the body in clear: the text and zero bytes after it
abbrev pub filled : List ℕ → List ℕ
filled text = text ++ zeros (ring_body_size - length text)

-- the body under the key
abbrev pub enciphered_body : RedoKey → ℕ → List ℕ → List ℕ
enciphered_body key number text = ciphered key.algorithm key.local (log_iv number) (filled text)

-- the block of a number that holds a text of at most 4076 bytes
abbrev pub ring_block : RedoKey → ℕ → Bool → Bool → List ℕ → List ℕ
ring_block key number first last text = sealed (head number key.version (length text) (flags first last) ++ enciphered_body key number text)

-- how many blocks a text has: its length by 4076, rounded up
abbrev pub block_count : List ℕ → ℕ
block_count text = div_ceil (length text) ring_body_size

-- the part of a text that its block k holds, k from 0
abbrev pub text_part : List ℕ → ℕ → List ℕ
text_part text k = range (ring_body_size * k) ring_body_size text

-- block k of a text whose block 0 has this number
abbrev pub nth_block : RedoKey → ℕ → List ℕ → ℕ → List ℕ
nth_block key first text k = ring_block key (first + k) (k == 0) (k + 1 == block_count text) (text_part text k)

-- the blocks of a text, one after the other
abbrev pub blocks : RedoKey → ℕ → List ℕ → List ℕ
blocks key first text = joined (nth_block key first text) (block_count text)

-- each of the first n lists has this many bytes
pub record AreOf (size : ℕ) (lists : ℕ → List ℕ) (n : ℕ) : Type 0 where
  pub long : (k : ℕ) → k < n → length (lists k) ≡ size
