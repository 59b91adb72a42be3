-- The text of page 0 of a space, as a space is made.
use Rattle.std.proofs.Common.{◌≡◌, ◌≢◌, ℕ, ◌+◌, ◌-◌, ◌%◌, ◌^◌, ◌<◌, ◌≤◌, Bool, true, false, List, [], ◌∷◌, ◌++◌, length, Option, Some, None, if◌then◌else◌, refl, sym, ap, ◌∙◌, inl, inr, arith, length-append, lit<}
use Rattle.std.specs.Prelude.{Ok}
use Rattle.std.specs.Int.{to_be_bytes, w32, w16}
use Rattle.bytes_core.specs.Crc.{crc32c}
use Rattle.byte_list.specs.Bytes.{AreBytes, put, zeros, range}
use Rattle.byte_list.specs.Fields.{be32_at}
use Rattle.byte_list.proofs.ByteLaws.{bytes_append, bytes_cons, bytes_four, bytes_nil, bytes_put, bytes_range, bytes_zeros}
use Rattle.byte_list.proofs.FieldLaws.{be32_at-written}
use Rattle.byte_list.proofs.RangeLaws.{length-zeros}
use Rattle.page_places.specs.Texts.{held, are_zero, is_page_text, text_in}
use Rattle.page_text.specs.Parts.{body}
use Rattle.page_text.specs.Text.{IsText, Plain, before_sum}
use Rattle.page_text.proofs.Writes.{body_long}
use Rattle.space_head.specs.Head.{IsTyped, head_of, with_head}
use Rattle.space_head.specs.Record.{crypt_bytes, record_bytes}
use Rattle.space_head.specs.Sizes.{IsPageSize, record_place}
use Rattle.space_head.specs.declared.space.SpaceInfo.{SpaceInfo}
use Rattle.space_head.specs.declared.space.Home.TheVariants.{Clean, Unused}
use Rattle.space_head.specs.declared.record.CryptRecord.{CryptRecord}
use Rattle.store_image.specs.View.{Text, Holds}
use Rattle.store_files.specs.Pages.{IsTypedInfo, head_of_space, head_page}
use Rattle.store_files.proofs.HeadsOnce.{long}
use Rattle.store_files.proofs.TextsHeld.{sealed_held, sealed_is, sealed_text, text_at}
use Rattle.store_form.specs.Creation.{first_text}
use Rattle.store_form.specs.Made.{IsMadeInfo}
use Rattle.store_form.specs.Rest.{home_told}
use Rattle.store_form.proofs.FirstPages.{head_read, typed}
use Rattle.store_form.proofs.RestPages.{text_not_zero}

four_bytes : (n : ℕ) → AreBytes (to_be_bytes w32 n)
four_bytes n = bytes_four _ _ _ _ (omega arith) (omega arith) (omega arith) (omega arith)

few_bytes : (b : Bool) → AreBytes ((if b then 1 else 0) ∷ 16 ∷ [])
few_bytes true = bytes_cons 1 (16 ∷ []) (lit< tt) (bytes_cons 16 [] (lit< tt) bytes_nil)
few_bytes false = bytes_cons 0 (16 ∷ []) (lit< tt) (bytes_cons 16 [] (lit< tt) bytes_nil)

mode_bytes : (b : Bool) → AreBytes ((if b then 1 else 2) ∷ [])
mode_bytes true = bytes_cons 1 [] (lit< tt) bytes_nil
mode_bytes false = bytes_cons 2 [] (lit< tt) bytes_nil

abbrev magic_of : List ℕ
magic_of = 0x73 ∷ 0x0E ∷ 0x0C ∷ 0x52 ∷ 0x45 ∷ 0x74 ∷ []

magic_bytes : AreBytes magic_of
magic_bytes =
    bytes_cons 0x73 (0x0E ∷ 0x0C ∷ 0x52 ∷ 0x45 ∷ 0x74 ∷ []) (lit< tt) (bytes_cons 0x0E (0x0C ∷ 0x52 ∷ 0x45 ∷ 0x74 ∷ []) (lit< tt)
    (bytes_four 0x0C 0x52 0x45 0x74 (lit< tt) (lit< tt) (lit< tt) (lit< tt)))

crypt_are_bytes : (info : SpaceInfo) → AreBytes info.salt → AreBytes (crypt_bytes (head_of_space info).crypt)
crypt_are_bytes info salt =
    bytes_append (magic_of ++ ((if info.ciphered then 1 else 0) ∷ 16 ∷ [])) (info.salt ++ (to_be_bytes w32 info.floor ++ (to_be_bytes w32 info.key_id ++ ((if info.ciphered then 1 else 2) ∷ []))))
    (bytes_append magic_of ((if info.ciphered then 1 else 0) ∷ 16 ∷ []) magic_bytes (few_bytes info.ciphered))
    (bytes_append info.salt (to_be_bytes w32 info.floor ++ (to_be_bytes w32 info.key_id ++ ((if info.ciphered then 1 else 2) ∷ []))) salt
    (bytes_append (to_be_bytes w32 info.floor) (to_be_bytes w32 info.key_id ++ ((if info.ciphered then 1 else 2) ∷ [])) (four_bytes info.floor)
    (bytes_append (to_be_bytes w32 info.key_id) ((if info.ciphered then 1 else 2) ∷ []) (four_bytes info.key_id) (mode_bytes info.ciphered))))

-- the zero page stands behind a name, so that its bytes are never counted
module _ (info : SpaceInfo) (z : List ℕ) (lz : length z ≡ 16384) (zb : AreBytes z) (made : IsMadeInfo info) where
  head_bytes : AreBytes (with_head (head_of_space info) z)
  head_bytes =
      bytes_put (record_place (length z)) (crypt_bytes (head_of_space info).crypt) (put 54 (to_be_bytes w32 21) (put 46 (to_be_bytes w32 info.pages) (put 38 (to_be_bytes w32 info.space) z))) (crypt_are_bytes info made.salt)
      (bytes_put 54 (to_be_bytes w32 21) (put 46 (to_be_bytes w32 info.pages) (put 38 (to_be_bytes w32 info.space) z)) (four_bytes 21)
      (bytes_put 46 (to_be_bytes w32 info.pages) (put 38 (to_be_bytes w32 info.space) z) (four_bytes info.pages)
      (bytes_put 38 (to_be_bytes w32 info.space) z (four_bytes info.space) zb)))

  head_size : length (with_head (head_of_space info) z) ≡ 16384
  head_size = let sized : IsPageSize (length z) = inr (inr (inl lz)) in long (head_of_space info) z sized (typed info made.typed) ∙ lz

  body_size : length (body (with_head (head_of_space info) z)) + 46 ≡ 16384
  body_size = let low : 46 ≤ length (with_head (head_of_space info) z) = omega (arith, head_size) in body_long (with_head (head_of_space info) z) low ∙ head_size

  body_are_bytes : AreBytes (body (with_head (head_of_space info) z))
  body_are_bytes = bytes_range 38 (length (with_head (head_of_space info) z) - 8 - 38) (with_head (head_of_space info) z) head_bytes

module _ (info : SpaceInfo) (made : IsMadeInfo info) where
  -- it is the text of page 0, in clear
  pub first_is_text : IsText 16384 info.space 0 8192 0 None (head_page info) (first_text info)
  unfolding first_text
  first_is_text = record {
    sized = inr (inr (inl refl));
    fits = inl (refl, refl, refl);
    keyed = λ some. absurd (some refl);
    body_long = body_size info (zeros 16384) (length-zeros 16384) (bytes_zeros 16384) made;
    body_bytes = body_are_bytes info (zeros 16384) (length-zeros 16384) (bytes_zeros 16384) made;
    kind_fits = lit< tt;
    lsn_fits = lit< tt;
    version_fits = lit< tt;
    written = refl;
  }

  -- of a page's length
  pub length-first : length (first_text info) ≡ 16384
  length-first =
      let t = first_is_text in
      let front : List ℕ = before_sum info.space 0 8192 0 None (head_page info) in
      let b : List ℕ = (head_page info).bytes in
      let low : List ℕ = to_be_bytes w32 (8192 % 2 ^ 32) in
      let long = t.body_long in
      omega (arith, ap length t.written, length-append front (to_be_bytes w32 (crc32c front)), length-append b low, long)

  pub first_head : head_of (first_text info) ≡ Ok (head_of_space info)
  first_head = head_read info.space 8192 info (first_text info) length-first made.typed first_is_text

  -- its home holds it
  pub first_held : held 0 (first_text info) ≡ Holds (text_at 8192 0 (first_text info))
  first_held = sealed_held 16384 info.space 0 8192 0 None (head_page info) (first_text info) (lit< tt) first_is_text

  pub first_is : is_page_text 0 (first_text info) ≡ true
  first_is = sealed_is 16384 info.space 0 8192 0 None (head_page info) (first_text info) (lit< tt) first_is_text

  pub first_in : text_in (first_text info) ≡ text_at 8192 0 (first_text info)
  first_in = sealed_text 16384 info.space 0 8192 0 None (head_page info) (first_text info) (lit< tt) first_is_text

  version_0 : be32_at (first_text info) 0 ≡ 0
  version_0 = be32_at-written (first_text info) 0 0 (ap (λ (l : List ℕ). range 0 4 l) first_is_text.written) (lit< tt)

  -- and tells a page in clear
  pub first_told : home_told (first_text info) ≡ Clean 0
  first_told = let some : are_zero (first_text info) ≡ false = text_not_zero 16384 info.space 0 8192 0 None (head_page info) (first_text info) (omega (arith, length-first)) first_is_text in
      ap (λ (b : Bool). if b then Unused else Clean (be32_at (first_text info) 0)) some ∙ ap Clean version_0
