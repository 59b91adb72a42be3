-- What the text of a page 0 says of its space: each field is right, and tells the space.
use Rattle.std.proofs.Common.{◌≡◌, ℕ, ◌+◌, ◌-◌, ◌*◌, ◌%◌, ◌^◌, ◌<◌, ◌≤◌, Bool, true, false, nat_eq, List, [], ◌∷◌, ◌++◌, length, slice_index_or, Some, None, if◌then◌else◌, refl, sym, ap, subst, ◌∙◌, inl, inr, arith, lit<, length-append, append_assoc}
use Rattle.std.specs.Int.{to_be_bytes, w32}
use Rattle.std.proofs.lemmas.List.{take_at}
use Rattle.bytes_core.specs.Crc.{crc32c}
use Rattle.byte_list.specs.Bytes.{put, range, zeros}
use Rattle.byte_list.specs.Fields.{be16_at, be32_at}
use Rattle.byte_list.proofs.FieldLaws.{be16_at-written, be32_at-written}
use Rattle.byte_list.proofs.PutLaws.{length-put, range-put_before, range-put_same}
use Rattle.byte_list.proofs.RangeLaws.{get_or-range, length-zeros, range-range, range_at}
use Rattle.page_text.specs.Parts.{body}
use Rattle.page_text.specs.Text.{FitsPage, IsText, before_sum}
use Rattle.space_head.specs.Head.{with_head}
use Rattle.space_head.specs.Record.{magic, record_bytes}
use Rattle.space_head.specs.Sizes.{IsPageSize, record_place}
use Rattle.space_head.specs.declared.record.CryptRecord.{CryptRecord}
use Rattle.space_head.specs.declared.space.SpaceInfo.{SpaceInfo}
use Rattle.space_head.proofs.Heads.{crypt_long}
use Rattle.space_head.proofs.Places.{place_16384}
use Rattle.store_files.specs.Header.{HeldSpace}
use Rattle.store_files.specs.Pages.{IsTypedInfo, head_of_space, head_page}
use Rattle.store_files.proofs.HeadsOnce.{long}
use Rattle.store_files.proofs.TextsOnce.{cipher_read, kind_read}
use Rattle.store_form.proofs.FirstPages.{typed}
use Rattle.recovery.specs.Heads.{AreRight, head_fields, info_in, number_at}
use Rattle.recovery.specs.declared.heads.Width.TheVariants.{Six}

-- the crypt record of a space
abbrev record_of : SpaceInfo → CryptRecord
record_of info = record { ciphered = info.ciphered; salt = info.salt; minimum = info.floor; key_id = info.key_id; mode = if info.ciphered then 1 else 2 }

-- ---- the parts of a record

module _ (r : CryptRecord) (salt_long : length r.salt ≡ 16) where
  abbrev front : List ℕ
  front = magic ++ ((if r.ciphered then 1 else 0) ∷ 16 ∷ [])

  abbrev behind : List ℕ
  behind = to_be_bytes w32 r.minimum ++ (to_be_bytes w32 r.key_id ++ r.mode ∷ [])

  salt_part : range 8 16 (record_bytes r) ≡ r.salt
  salt_part = range_at front r.salt behind 8 16 refl salt_long

  long_front : length (front ++ r.salt) ≡ 24
  long_front = omega (arith, length-append front r.salt, salt_long)

  shape : record_bytes r ≡ (front ++ r.salt) ++ behind
  shape = sym (append_assoc front r.salt behind)

  floor_part : range 24 4 (record_bytes r) ≡ to_be_bytes w32 r.minimum
  floor_part = ap (λ (l : List ℕ). range 24 4 l) shape ∙ range_at (front ++ r.salt) (to_be_bytes w32 r.minimum) (to_be_bytes w32 r.key_id ++ r.mode ∷ []) 24 4 long_front refl

  abbrev before_key : List ℕ
  before_key = (front ++ r.salt) ++ to_be_bytes w32 r.minimum

  shape_key : record_bytes r ≡ before_key ++ (to_be_bytes w32 r.key_id ++ r.mode ∷ [])
  shape_key = shape ∙ sym (append_assoc (front ++ r.salt) (to_be_bytes w32 r.minimum) (to_be_bytes w32 r.key_id ++ r.mode ∷ []))

  long_before : length before_key ≡ 28
  long_before = omega (arith, length-append (front ++ r.salt) (to_be_bytes w32 r.minimum), long_front)

  key_part : range 28 4 (record_bytes r) ≡ to_be_bytes w32 r.key_id
  key_part = ap (λ (l : List ℕ). range 28 4 l) shape_key ∙ range_at before_key (to_be_bytes w32 r.key_id) (r.mode ∷ []) 28 4 long_before refl

  shape_mode : record_bytes r ≡ (before_key ++ to_be_bytes w32 r.key_id) ++ ((r.mode ∷ []) ++ [])
  shape_mode = shape_key ∙ sym (append_assoc before_key (to_be_bytes w32 r.key_id) (r.mode ∷ []))

  mode_part : range 32 1 (record_bytes r) ≡ r.mode ∷ []
  mode_part = ap (λ (l : List ℕ). range 32 1 l) shape_mode ∙ range_at (before_key ++ to_be_bytes w32 r.key_id) (r.mode ∷ []) [] 32 1 (omega (arith, length-append before_key (to_be_bytes w32 r.key_id), long_before)) refl

-- ---- a page with a head

-- the zero page stands behind a name, so that its bytes are never counted
module _ (info : SpaceInfo) (is_typed : IsTypedInfo info) (z : List ℕ) (lz : length z ≡ 16384) where
  abbrev made : List ℕ
  made = with_head (head_of_space info) z

  abbrev crypt : List ℕ
  crypt = record_bytes (record_of info)

  made_long : length made ≡ 16384
  made_long = let sized : IsPageSize (length z) = inr (inr (inl lz)) in long (head_of_space info) z sized (typed info is_typed) ∙ lz

  abbrev p1 : List ℕ
  p1 = put 38 (to_be_bytes w32 info.space) z

  abbrev p2 : List ℕ
  p2 = put 46 (to_be_bytes w32 info.pages) p1

  abbrev p3 : List ℕ
  p3 = put 54 (to_be_bytes w32 21) p2

  place : record_place (length z) ≡ 10428
  place = ap record_place lz ∙ place_16384

  l1 : length p1 ≡ 16384
  l1 = length-put 38 (to_be_bytes w32 info.space) z (omega (arith, lz)) ∙ lz

  l2 : length p2 ≡ 16384
  l2 = length-put 46 (to_be_bytes w32 info.pages) p1 (omega (arith, l1)) ∙ l1

  l3 : length p3 ≡ 16384
  l3 = length-put 54 (to_be_bytes w32 21) p2 (omega (arith, l2)) ∙ l2

  crypt_size : length crypt ≡ 33
  crypt_size = crypt_long (Some (record_of info)) (record { salt_long = is_typed.salt_long; minimum_fits = is_typed.floor_fits; key_id_fits = is_typed.key_id_fits })

  inside : record_place (length z) + length crypt ≤ length p3
  inside = omega (arith, place, crypt_size, l3)

  space_made : range 38 4 made ≡ to_be_bytes w32 info.space
  space_made =
      range-put_before (record_place (length z)) crypt p3 inside 38 4 (omega (arith, place))
      ∙ range-put_before 54 (to_be_bytes w32 21) p2 (omega (arith, l2)) 38 4 (omega arith)
      ∙ range-put_before 46 (to_be_bytes w32 info.pages) p1 (omega (arith, l1)) 38 4 (omega arith)
      ∙ range-put_same 38 (to_be_bytes w32 info.space) z (omega (arith, lz)) 4 refl

  pages_made : range 46 4 made ≡ to_be_bytes w32 info.pages
  pages_made =
      range-put_before (record_place (length z)) crypt p3 inside 46 4 (omega (arith, place))
      ∙ range-put_before 54 (to_be_bytes w32 21) p2 (omega (arith, l2)) 46 4 (omega arith)
      ∙ range-put_same 46 (to_be_bytes w32 info.pages) p1 (omega (arith, l1)) 4 refl

  flags_made : range 54 4 made ≡ to_be_bytes w32 21
  flags_made =
      range-put_before (record_place (length z)) crypt p3 inside 54 4 (omega (arith, place))
      ∙ range-put_same 54 (to_be_bytes w32 21) p2 (omega (arith, l2)) 4 refl

  crypt_made : range 10428 33 made ≡ crypt
  crypt_made = ap (λ (n : ℕ). range n 33 made) (sym place) ∙ range-put_same (record_place (length z)) crypt p3 inside 33 (sym crypt_size)

-- ---- its text

module _ (s lsn version : ℕ) (info : SpaceInfo) (text : List ℕ) (is_typed : IsTypedInfo info) (is : IsText 16384 s 0 lsn version None (head_page info) text) where
  -- page 0 is in clear
  clear : version ≡ 0
  clear = by is.fits
    where
      by : FitsPage 0 8 version → version ≡ 0
      by (inl first) = first.2
      by (inr other) = absurd (other.0 refl)

  long_text : (v : ℕ) → v ≡ 0 → IsText 16384 s 0 lsn v None (head_page info) text → length text ≡ 16384
  long_text v none t =
      let t0 : IsText 16384 s 0 lsn 0 None (head_page info) text = subst (λ (n : ℕ). IsText 16384 s 0 lsn n None (head_page info) text) none t in
      let front : List ℕ = before_sum s 0 lsn 0 None (head_page info) in
      let b : List ℕ = (head_page info).bytes in
      let low : List ℕ = to_be_bytes w32 (lsn % 2 ^ 32) in
      let long = t0.body_long in
      omega (arith, ap length t0.written, length-append front (to_be_bytes w32 (crc32c front)), length-append b low, long)

  pub text_long : length text ≡ 16384
  text_long = long_text version clear is

  body_text : (v : ℕ) → v ≡ 0 → IsText 16384 s 0 lsn v None (head_page info) text → body text ≡ (head_page info).bytes
  body_text v none t =
      let t0 : IsText 16384 s 0 lsn 0 None (head_page info) text = subst (λ (n : ℕ). IsText 16384 s 0 lsn n None (head_page info) text) none t in
      let low : List ℕ = to_be_bytes w32 (lsn % 2 ^ 32) in
      let n : ℕ = length text - 8 - 38 in
      let read = cipher_read 16384 s 0 lsn 0 None (head_page info) text t0 in
      let size : length (head_page info).bytes ≡ n = omega (arith, t0.body_long, text_long) in
      sym (range-range 12 n 26 (length text - 30) text (omega (arith, text_long))) ∙ ap (λ (l : List ℕ). range 12 n l) read ∙ take_at (head_page info).bytes low n size

  module _ (z : List ℕ) (lz : length z ≡ 16384) (same : body text ≡ body (with_head (head_of_space info) z)) where
    abbrev w : List ℕ
    w = with_head (head_of_space info) z

    lw : length w ≡ 16384
    lw = made_long info is_typed z lz

    -- a part of the body
    part : (at n : ℕ) → 38 ≤ at → at + n + 8 ≤ 16384 → range at n text ≡ range at n w
    part at n low high =
        let from : 38 + (at - 38) ≡ at = omega (arith, low) in
        let ra : range (at - 38) n (body text) ≡ range (38 + (at - 38)) n text = range-range (at - 38) n 38 (length text - 8 - 38) text (omega (arith, low, high, text_long)) in
        let rb : range (at - 38) n (body w) ≡ range (38 + (at - 38)) n w = range-range (at - 38) n 38 (length w - 8 - 38) w (omega (arith, low, high, lw)) in
        ap (λ (k : ℕ). range k n text) (sym from) ∙ sym ra ∙ ap (λ (l : List ℕ). range (at - 38) n l) same ∙ rb ∙ ap (λ (k : ℕ). range k n w) from

    abbrev r : CryptRecord
    r = record_of info

    record_there : range 10428 33 text ≡ record_bytes r
    record_there = part 10428 33 (omega arith) (omega arith) ∙ crypt_made info is_typed z lz

    -- a part of the record
    record_part : (k n : ℕ) → k + n ≤ 33 → range (10428 + k) n text ≡ range k n (record_bytes r)
    record_part k n fits = sym (range-range k n 10428 33 text fits) ∙ ap (λ (l : List ℕ). range k n l) record_there

    record_byte : (k : ℕ) → k < 33 → slice_index_or text (10428 + k) 0 ≡ slice_index_or (record_bytes r) k 0
    record_byte k fits = sym (get_or-range 10428 33 text k fits) ∙ ap (λ (l : List ℕ). slice_index_or l k 0) record_there

    pub record Says : Type 0 where
      pub version_says : be32_at text 0 ≡ 0
      pub kind_says : be16_at text 24 ≡ 8
      pub space_says : be32_at text 38 ≡ info.space
      pub pages_says : be32_at text 46 ≡ info.pages
      pub flags_says : be32_at text 54 ≡ 21
      pub magic_says : number_at Six 10428 text ≡ 0x730E0C524574
      pub type_says : slice_index_or text 10434 0 ≡ (if info.ciphered then 1 else 0)
      pub length_says : slice_index_or text 10435 0 ≡ 16
      pub salt_says : range 10436 16 text ≡ info.salt
      pub floor_says : be32_at text 10452 ≡ info.floor
      pub key_says : be32_at text 10456 ≡ info.key_id
      pub mode_says : slice_index_or text 10460 0 ≡ (if info.ciphered then 1 else 2)

    says : Says
    says =
        let high : be32_at text 10428 ≡ 0x730E0C52 = be32_at-written text 10428 0x730E0C52 (record_part 0 4 (omega arith) ∙ refl) (lit< tt) in
        let low : be16_at text 10432 ≡ 0x4574 = be16_at-written text 10432 0x4574 (record_part 4 2 (omega arith) ∙ refl) (lit< tt) in
        record {
          version_says = be32_at-written text 0 version (ap (λ (l : List ℕ). range 0 4 l) is.written) is.version_fits ∙ clear;
          kind_says = kind_read 16384 s 0 lsn version None (head_page info) text is;
          space_says = be32_at-written text 38 info.space (part 38 4 (omega arith) (omega arith) ∙ space_made info is_typed z lz) is_typed.space_fits;
          pages_says = be32_at-written text 46 info.pages (part 46 4 (omega arith) (omega arith) ∙ pages_made info is_typed z lz) is_typed.pages_fit;
          flags_says = be32_at-written text 54 21 (part 54 4 (omega arith) (omega arith) ∙ flags_made info is_typed z lz) (lit< tt);
          magic_says = (λ i. high i * 65536 + low i);
          type_says = record_byte 6 (omega arith);
          length_says = record_byte 7 (omega arith);
          salt_says = record_part 8 16 (omega arith) ∙ salt_part r is_typed.salt_long;
          floor_says = be32_at-written text 10452 info.floor (record_part 24 4 (omega arith) ∙ floor_part r is_typed.salt_long) is_typed.floor_fits;
          key_says = be32_at-written text 10456 info.key_id (record_part 28 4 (omega arith) ∙ key_part r is_typed.salt_long) is_typed.key_id_fits;
          mode_says = sym (get_or-range 10460 1 text 0 (omega arith)) ∙ ap (λ (l : List ℕ). slice_index_or l 0 0) (record_part 32 1 (omega arith) ∙ mode_part r is_typed.salt_long);
        }

  -- and what that is by the header
  module _ (h : HeldSpace) (space : info.space ≡ h.space) (pages : info.pages ≡ h.pages) (key_id : info.key_id ≡ h.key_id) where
    at_most_one : (b : Bool) → (if b then 1 else 0) ≤ 1
    at_most_one true = omega arith
    at_most_one false = omega arith

    at_most_two : (b : Bool) → (if b then 1 else 2) ≤ 2
    at_most_two true = omega arith
    at_most_two false = omega arith

    is_one : (b : Bool) → nat_eq (if b then 1 else 0) 1 ≡ b
    is_one true = refl
    is_one false = refl

    head_right : (z : List ℕ) (lz : length z ≡ 16384) → body text ≡ body (with_head (head_of_space info) z) → AreRight (head_fields h) text × (info_in h text ≡ info)
    head_right z lz same =
        let has = says z lz same in
        let type_few : slice_index_or text 10434 0 ≤ 1 = subst (λ (n : ℕ). n ≤ 1) (sym has.type_says) (at_most_one info.ciphered) in
        let mode_few : slice_index_or text 10460 0 ≤ 2 = subst (λ (n : ℕ). n ≤ 2) (sym has.mode_says) (at_most_two info.ciphered) in
        let kind : nat_eq (slice_index_or text 10434 0) 1 ≡ info.ciphered = ap (λ (n : ℕ). nat_eq n 1) has.type_says ∙ is_one info.ciphered in (
          (has.version_says, (has.kind_says, (has.space_says ∙ space, (has.pages_says ∙ pages, (has.flags_says, (has.magic_says, (type_few, (has.length_says, (has.key_says ∙ key_id, (mode_few, tt)))))))))),
          (λ i. record { space = sym space i; pages = sym pages i; key_id = sym key_id i; salt = has.salt_says i; ciphered = kind i; floor = has.floor_says i }),
        )

    -- The text of page 0 that holds a space says it, and all of its fields are right.
    pub page_0_says : AreRight (head_fields h) text × (info_in h text ≡ info)
    page_0_says = head_right (zeros 16384) (length-zeros 16384) (body_text version clear is)
