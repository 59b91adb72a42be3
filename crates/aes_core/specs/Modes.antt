-- Modes of operation on lists of bytes: CBC (SP 800-38A, 6.2), CBC with tail (this project's own), CTR (SP 800-38A,
-- 6.5) and CBC over a padded text (the padding of PKCS #7: RFC 5652, 6.3). Block j of a result is a function of j.
use Rattle.std.specs.Prelude.{ℕ, ◌≡◌, ◌<◌, ◌≤◌, zero, suc, ◌+◌, ◌-◌, ◌*◌, ◌/◌, ◌%◌, ◌^◌, List, [], ◌++◌, length, take, drop, replicate}
use Rattle.std.specs.Int.{from_be_bytes, to_be_bytes, w128}
use Rattle.aes_core.specs.Cipher.{decrypted, encrypted, xored}

-- block i of a text
abbrev pub text_block : List ℕ → ℕ → List ℕ
text_block text i = take 16 (drop (16 * i) text)

-- f 0, f 1, .. up to n of them, one after the other
unfoldable pub joined : (ℕ → List ℕ) → ℕ → List ℕ
joined f zero = []
joined f (suc n) = joined f n ++ f n

-- the number of whole blocks of a text
abbrev pub whole_blocks : List ℕ → ℕ
whole_blocks text = length text / 16

-- what is left after the whole blocks
abbrev pub tail_of : List ℕ → List ℕ
tail_of text = drop (16 * whole_blocks text) text

-- ---- CBC

-- the IV, and then the cipher blocks: block n of the text is added to the one before and enciphered
unfoldable pub chain : List ℕ → List ℕ → List ℕ → ℕ → List ℕ
chain key iv text zero = iv
chain key iv text (suc n) = encrypted key (xored (text_block text n) (chain key iv text n))

-- the first n blocks in CBC
abbrev pub cbc_blocks : List ℕ → List ℕ → List ℕ → ℕ → List ℕ
cbc_blocks key iv text n = joined (λ i. chain key iv text (suc i)) n

-- the last partial block, with the first bytes of what the IV enciphers to added
abbrev pub masked_tail : List ℕ → List ℕ → List ℕ → List ℕ
masked_tail key iv text = xored (tail_of text) (encrypted key iv)

-- CBC with tail
abbrev pub cbc_tail : List ℕ → List ℕ → List ℕ → List ℕ
cbc_tail key iv text = cbc_blocks key iv text (whole_blocks text) ++ masked_tail key iv text

-- the block of the cipher text before block n, or the IV
abbrev pub block_before : List ℕ → List ℕ → ℕ → List ℕ
block_before iv text zero = iv
block_before iv text (suc n) = text_block text n

-- the first n blocks of a cipher text, deciphered
abbrev pub uncbc_blocks : List ℕ → List ℕ → List ℕ → ℕ → List ℕ
uncbc_blocks key iv text n = joined (λ i. xored (decrypted key (text_block text i)) (block_before iv text i)) n

-- CBC with tail, deciphered
abbrev pub uncbc_tail : List ℕ → List ℕ → List ℕ → List ℕ
uncbc_tail key iv text = uncbc_blocks key iv text (whole_blocks text) ++ masked_tail key iv text

-- ---- CTR

-- counter i: the whole first block as a big-endian number, and i more, modulo 2 ^ 128
abbrev pub counter_at : List ℕ → ℕ → List ℕ
counter_at counter i = to_be_bytes w128 ((from_be_bytes w128 counter + i) % 2 ^ 128)

-- the first n blocks of the key stream
abbrev pub key_stream : List ℕ → List ℕ → ℕ → List ℕ
key_stream key counter n = joined (λ i. encrypted key (counter_at counter i)) n

-- CTR, both ways; a last partial block takes the first bytes of its key stream block
abbrev pub ctr : List ℕ → List ℕ → List ℕ → List ℕ
ctr key counter text = xored text (key_stream key counter (whole_blocks text + 1))

-- ---- padded CBC

-- a text and k bytes of value k after it, k from 1 to 16, so that whole blocks come out
abbrev pub padded : List ℕ → List ℕ
padded text = text ++ replicate (16 - length text % 16) (16 - length text % 16)

-- the padded text in CBC
abbrev pub cbc_pad : List ℕ → List ℕ → List ℕ → List ℕ
cbc_pad key iv text = cbc_blocks key iv (padded text) (whole_blocks (padded text))

-- the last k bytes are k, and k is from 1 to 16
pub record EndsIn (text : List ℕ) (k : ℕ) : Type 0 where
  pub some : 1 ≤ k
  pub most : k ≤ 16
  pub end : drop (length text - k) text ≡ replicate k k

-- it ends in padding
pub record IsPadded (text : List ℕ) : Type 0 where
  pub count : ℕ
  pub ends : EndsIn text count

-- one block or more, and nothing after them
pub record IsWhole (text : List ℕ) : Type 0 where
  pub some : 0 < length text
  pub blocks : length text % 16 ≡ 0
