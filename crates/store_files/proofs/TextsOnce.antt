-- A page text is that of one plain page.
use Rattle.std.proofs.Common.{◌≡◌, ℕ, ◌==◌, Bool, true, false, ◌+◌, ◌-◌, ◌%◌, ◌^◌, List, [], ◌∷◌, ◌++◌, length, take, drop, replicate, Option, Some, None, IfSome, if◌then◌else◌, refl, sym, ap, ◌∙◌, arith, inl, length-append}
use Rattle.std.proofs.lemmas.List.{take_at}
use Rattle.std.specs.Int.{byte_at, to_be_bytes, to_le_bytes, w32, w64}
use Rattle.aes_core.specs.Algorithm.{ciphered}
use Rattle.aes_core.specs.Cipher.{AreBytes, IsCipherBlock, IsKey}
use Rattle.aes_core.specs.Modes.{uncbc_tail, ctr, whole_blocks}
use Rattle.aes_core.specs.declared.algorithm.Algorithm.{Algorithm}
use Rattle.aes_core.specs.declared.algorithm.Algorithm.TheVariants.{Cbc, Ctr}
use Rattle.aes_core.proofs.Inverse.{byte_at-lt}
use Rattle.aes_core.proofs.ModeLaws.{cbc_undone, ctr_twice, stream_blocks}
use Rattle.aes_core.proofs.Schedule.{key_from}
use Rattle.bytes_core.specs.Crc.{crc32c}
use Rattle.byte_list.proofs.ByteLaws.{bytes_append, bytes_four, bytes_made}
use Rattle.byte_list.specs.Fields.{be16_at}
use Rattle.byte_list.specs.Bytes.{range}
use Rattle.byte_list.proofs.FieldLaws.{be16_at-written}
use Rattle.page_text.specs.Text.{Plain, IsText, before_sum, inner, page_iv, page_key, enciphered}
use Rattle.page_text.specs.declared.key.PageKey.{PageKey}
use Rattle.store_files.specs.Pages.{HasKeyBytes}
use Rattle.page_text.proofs.Opened.{bytes_of_inner}

-- ---- bytes

zeros_eight : AreBytes (replicate 8 0)
zeros_eight = bytes_append (0 ∷ 0 ∷ 0 ∷ 0 ∷ []) (0 ∷ 0 ∷ 0 ∷ 0 ∷ []) four four
  where
    four : AreBytes (0 ∷ 0 ∷ 0 ∷ 0 ∷ [])
    four = bytes_four 0 0 0 0 (omega arith) (omega arith) (omega arith) (omega arith)

be_four : (n : ℕ) → AreBytes (to_be_bytes w32 n)
be_four n = bytes_four _ _ _ _ (omega arith) (omega arith) (omega arith) (omega arith)

le_four : (n : ℕ) → AreBytes (to_le_bytes w32 n)
le_four n = bytes_four _ _ _ _ (omega arith) (omega arith) (omega arith) (omega arith)

eight_le : (n : ℕ) → AreBytes (to_le_bytes w64 n)
eight_le n = bytes_made (λ k. byte_at k n) (λ k. byte_at-lt k n) (0 ∷ 1 ∷ 2 ∷ 3 ∷ 4 ∷ 5 ∷ 6 ∷ 7 ∷ [])

pub iv_block : (space page lsn : ℕ) → IsCipherBlock (page_iv space page lsn)
iv_block space page lsn = record {
  long = refl;
  bytes = bytes_append (to_le_bytes w32 space) (to_le_bytes w32 page ++ to_le_bytes w64 lsn) (le_four space) (bytes_append (to_le_bytes w32 page) (to_le_bytes w64 lsn) (le_four page) (eight_le lsn));
}

-- ---- a cipher text is that of one text

pub ciphered_one : (algorithm : Algorithm) (key iv a b : List ℕ) → IsKey key → IsCipherBlock iv → AreBytes a → AreBytes b → ciphered algorithm key iv a ≡ ciphered algorithm key iv b → a ≡ b
ciphered_one Cbc key iv a b k v ha hb same = sym (cbc_undone key iv k v a ha) ∙ ap (uncbc_tail key iv) same ∙ cbc_undone key iv k v b hb
ciphered_one Ctr key iv a b k v ha hb same =
    sym (ctr_twice key iv a (stream_blocks key iv k (whole_blocks a + 1))) ∙ ap (ctr key iv) same ∙ ctr_twice key iv b (stream_blocks key iv k (whole_blocks b + 1))

pub local_is_key : (key : PageKey) → HasKeyBytes key → IsKey key.local
local_is_key key h = key_from key.local (inl h.long) h.bytes

under_one : (key : Option PageKey) (iv a b : List ℕ) → IfSome key HasKeyBytes → IsCipherBlock iv → AreBytes a → AreBytes b → enciphered key iv a ≡ enciphered key iv b → a ≡ b
under_one None iv a b h v ha hb same = same
under_one (Some key) iv a b h v ha hb same = ciphered_one key.algorithm key.local iv a b (local_is_key key h) v ha hb same

pub key_of-bytes : (version : ℕ) (key : Option PageKey) → IfSome key HasKeyBytes → IfSome (page_key version key) HasKeyBytes
key_of-bytes version key h = by (version == 0)
  where
    by : (b : Bool) → IfSome (if b then None else key) HasKeyBytes
    by true = tt
    by false = h

-- ---- a text is that of one plain page

module _ (size space page lsn version : ℕ) (key : Option PageKey) (a : Plain) (bytes : List ℕ) (t : IsText size space page lsn version key a bytes) where
  abbrev x : List ℕ
  x = enciphered (page_key version key) (page_iv space page lsn) (inner space lsn a.bytes)

  abbrev sum : List ℕ
  sum = to_be_bytes w32 (crc32c (before_sum space page lsn version key a))

  pub kind_read : be16_at bytes 24 ≡ a.kind
  kind_read = be16_at-written bytes 24 a.kind (ap (λ (l : List ℕ). range 24 2 l) t.written) t.kind_fits

  pub cipher_read : take (length bytes - 30) (drop 26 bytes) ≡ x
  cipher_read =
      let long : length x ≡ length bytes - 30 = omega (arith, ap length t.written, length-append x sum) in
      ap (λ (l : List ℕ). take (length bytes - 30) (drop 26 l)) t.written ∙ take_at x sum (length bytes - 30) long

body_one : (space lsn : ℕ) (a b : List ℕ) → length a ≡ length b → inner space lsn a ≡ inner space lsn b → a ≡ b
body_one space lsn a b long same =
    let low : List ℕ = to_be_bytes w32 (lsn % 2 ^ 32) in
    sym (take_at a low (length a) refl) ∙ ap (λ (l : List ℕ). take (length a) (drop 12 l)) same ∙ take_at b low (length a) (sym long)

pub plain_one : (size space page lsn version : ℕ) (key : Option PageKey) (a b : Plain) (bytes : List ℕ) → IfSome key HasKeyBytes → IsText size space page lsn version key a bytes → IsText size space page lsn version key b bytes → a ≡ b
plain_one size space page lsn version key a b bytes h ta tb =
    let kind : a.kind ≡ b.kind = sym (kind_read size space page lsn version key a bytes ta) ∙ kind_read size space page lsn version key b bytes tb in
    let inside : inner space lsn a.bytes ≡ inner space lsn b.bytes =
    under_one (page_key version key) (page_iv space page lsn) _ _ (key_of-bytes version key h) (iv_block space page lsn) (bytes_of_inner space lsn a.bytes ta.body_bytes) (bytes_of_inner space lsn b.bytes tb.body_bytes)
    (sym (cipher_read size space page lsn version key a bytes ta) ∙ cipher_read size space page lsn version key b bytes tb) in
    let body : a.bytes ≡ b.bytes = body_one space lsn a.bytes b.bytes (omega (arith, ta.body_long, tb.body_long)) inside in
    (λ i. record { kind = kind i; bytes = body i })
