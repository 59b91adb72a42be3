-- A page text that is written is held by its home as that text, and means its page.
use Rattle.std.proofs.Common.{◌≡◌, ◌≢◌, ℕ, ◌^◌, ◌<◌, true, nat_eq, List, Option, Some, None, IfSome, refl, ap, ◌∙◌, arith}
use Rattle.std.proofs.lemmas.Bool.Decides.{nat_tests}
use Rattle.bytes_core.proofs.LastByte.{ends-append}
use Rattle.disk_model.specs.Crash.{torn_bytes}
use Rattle.key_ring.specs.Ring.{RingEntry}
use Rattle.byte_list.specs.Fields.{be32_at, be64_at}
use Rattle.byte_list.specs.Bytes.{range}
use Rattle.byte_list.proofs.FieldLaws.{be32_at-written, be64_at-written}
use Rattle.space_head.specs.declared.space.SpaceInfo.{SpaceInfo}
use Rattle.page_text.specs.Text.{Plain, IsText, before_sum}
use Rattle.page_text.specs.declared.key.PageKey.{PageKey}
use Rattle.page_places.specs.Texts.{ends_in_sum, is_page_text, text_in, held, slot_held, slot_bytes}
use Rattle.page_places.proofs.Sums.{and_both, ends-ends_in_sum, torn_page}
use Rattle.page_places.proofs.Texts.{held-text, held-torn, slot-holds}
use Rattle.store_image.specs.View.{Text, Holds}
use Rattle.store_model.specs.declared.contents.PlainPage.{PlainPage}
use Rattle.store_files.specs.Header.{HeldHeader}
use Rattle.store_files.specs.Pages.{Head, Used, key_at, head_page, HasKeyBytes, IsTypedInfo, MeansPage}

-- what the head of a text says in clear, and the text
abbrev pub text_at : ℕ → ℕ → List ℕ → Text
text_at lsn version bytes = record { lsn = lsn; version = version; bytes = bytes }

module _ (size space page lsn version : ℕ) (key : Option PageKey) (plain : Plain) (bytes : List ℕ) (small : page < 2 ^ 32) (t : IsText size space page lsn version key plain bytes) where
  -- a sealed page ends in its checksum
  pub sealed_sum : ends_in_sum bytes ≡ true
  sealed_sum = ap ends_in_sum t.written ∙ ends-ends_in_sum _ (ends-append (before_sum space page lsn version key plain))

  -- it is a text of its page
  pub sealed_is : is_page_text page bytes ≡ true
  unfolding is_page_text
  sealed_is =
      let number : be32_at bytes 4 ≡ page = be32_at-written bytes 4 page (ap (λ (l : List ℕ). range 4 4 l) t.written) small in
      let same : nat_eq page page ≡ true = grind (arith, nat_tests) in
      and_both _ _ sealed_sum (ap (λ (n : ℕ). nat_eq n page) number ∙ same)

  pub sealed_text : text_in bytes ≡ text_at lsn version bytes
  unfolding text_in
  sealed_text =
      let l : be64_at bytes 16 ≡ lsn = be64_at-written bytes 16 lsn (ap (λ (l : List ℕ). range 16 8 l) t.written) t.lsn_fits in
      let v : be32_at bytes 0 ≡ version = be32_at-written bytes 0 version (ap (λ (l : List ℕ). range 0 4 l) t.written) t.version_fits in
      (λ i. record { lsn = l i; version = v i; bytes = bytes })

  -- its home holds it
  pub sealed_held : held page bytes ≡ Holds (text_at lsn version bytes)
  sealed_held = held-text page bytes sealed_is ∙ ap Holds sealed_text

  -- once its last byte is inverted no home holds a text
  pub sealed_torn : (p : ℕ) (u : Text) → held p (torn_bytes bytes) ≢ Holds u
  sealed_torn p u = held-torn p (torn_bytes bytes) (torn_page bytes sealed_sum) u

  -- and its slot holds it
  pub sealed_slot : (batch : ℕ) → space < 2 ^ 32 → slot_held (slot_bytes space page batch bytes) ≡ Some (record { space = space; page = page; text = text_at lsn version bytes })
  sealed_slot batch fits = slot-holds space page batch bytes fits small sealed_is ∙ ap (λ (u : Text). Some (record { space = space; page = page; text = u })) sealed_text

-- A text that was sealed for a page under the key of its version is that page's.
module _ (header : HeldHeader) (keys : List RingEntry) (salts : ℕ → List ℕ) where
  pub sealed_means : (s p lsn version : ℕ) (page : PlainPage) (bytes : List ℕ) → p ≢ 0 → IfSome (key_at header keys salts s version) HasKeyBytes
      → IsText 16384 s p lsn version (key_at header keys salts s version) (record { kind = page.kind; bytes = page.body }) bytes → MeansPage header keys salts s p (text_at lsn version bytes) (Used page)
  sealed_means s p lsn version page bytes some key text = (some, key, text)

  pub head_means : (lsn version : ℕ) (info : SpaceInfo) (bytes : List ℕ) → IsTypedInfo info → IsText 16384 info.space 0 lsn version None (head_page info) bytes → MeansPage header keys salts info.space 0 (text_at lsn version bytes) (Head info)
  head_means lsn version info bytes typed text = (refl, refl, typed, text)
