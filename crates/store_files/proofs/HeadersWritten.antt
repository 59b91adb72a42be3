-- A header that is written is read back, and refused once its last byte is inverted.
use Rattle.std.proofs.Common.{◌≡◌, ℕ, ◌+◌, ◌-◌, ◌*◌, ◌^◌, ◌<◌, ◌≤◌, ◌||◌, Bool, true, false, true≢false, nat_eq, nat_le, nat_lt, if◌then◌else◌, List, [], ◌∷◌, ◌++◌, length, Some, None, lit<, refl, sym, ap, ◌∙◌, arith, length-append, append_assoc}
use Rattle.std.proofs.lemmas.Bool.Decides.{nat_tests}
use Rattle.std.proofs.lemmas.List.{take_at}
use Rattle.std.proofs.lemmas.Slice.Eq.{bytes_eq-Decides}
use Rattle.std.specs.Int.{to_be_bytes, w32}
use Rattle.std.specs.Prelude.{codes}
use Rattle.aes_core.specs.declared.algorithm.Algorithm.{Algorithm}
use Rattle.aes_core.specs.declared.algorithm.Algorithm.TheVariants.{Cbc, Ctr}
use Rattle.bytes_core.specs.Crc.{crc32c}
use Rattle.bytes_core.proofs.LastByte.{ends-append}
use Rattle.disk_model.specs.Crash.{torn_bytes}
use Rattle.byte_list.specs.Fields.{be32_at}
use Rattle.byte_list.specs.Bytes.{range, zeros}
use Rattle.byte_list.proofs.FieldLaws.{be32_at-written}
use Rattle.byte_list.proofs.RangeLaws.{range_at}
use Rattle.page_places.specs.Texts.{ends_in_sum}
use Rattle.page_places.proofs.Sums.{and_left, and_right, and_both, not_true, ends-ends_in_sum, torn_page}
use Rattle.byte_list.proofs.RangeLaws.{length-zeros}
use Rattle.store_files.specs.Header.{HeldSpace, HeldHeader, spaces_at, are_in_order, pages_together, are_allowed, algorithm_code, header_fields, is_header, header_in, space_words, header_words, header_front, header_bytes, KeyIdsFit, IsWritableHeader}

-- ---- spaces

-- the numbers of each space have four bytes
abbrev Fit : List HeldSpace → Type 0
Fit [] = Unit {0}
Fit (s ∷ ss) = (s.space < 2 ^ 32) × (s.pages < 2 ^ 32) × (s.key_id < 2 ^ 32) × Fit ss

fits : (id : ℕ) (ss : List HeldSpace) → are_in_order id ss ≡ true → pages_together ss ≤ 16384 → KeyIdsFit ss → Fit ss
unfolding are_in_order pages_together
fits id [] order few keys = tt
fits id (s ∷ ss) order few keys =
    let a = and_right (nat_lt id s.space) _ order in
    let small : nat_le s.space 4294967279 ≡ true = and_left _ _ a in
    let rest = and_right (nat_le 1 s.key_id) _ (and_right (nat_le 2 s.pages) _ (and_right (nat_le s.space 4294967279) _ a)) in
    let limit : s.space ≤ 4294967279 = grind (arith, nat_tests) in
    (omega (arith, limit), omega (arith, few), keys.0, fits s.space ss rest (omega (arith, few)) keys.1)

length-space_words : (ss : List HeldSpace) → length (space_words ss) ≡ 12 * length ss
unfolding space_words
length-space_words [] = refl
length-space_words (s ∷ ss) = omega (arith, length-space_words ss)

-- the spaces are read where their words stand
spaces_read : (b front : List ℕ) (ss : List HeldSpace) (rest : List ℕ) (at : ℕ) → length front ≡ at → b ≡ front ++ (space_words ss ++ rest) → Fit ss → spaces_at b at (length ss) ≡ ss
unfolding spaces_at space_words
spaces_read b front [] rest at long is fit = refl
spaces_read b front (s ∷ ss) rest at long is fit =
    let i : List ℕ = to_be_bytes w32 s.space in
    let n : List ℕ = to_be_bytes w32 s.pages in
    let k : List ℕ = to_be_bytes w32 s.key_id in
    let more : List ℕ = space_words ss ++ rest in
    let one : b ≡ front ++ (i ++ (n ++ (k ++ more))) = is in
    let two : b ≡ (front ++ i) ++ (n ++ (k ++ more)) = one ∙ sym (append_assoc front i (n ++ (k ++ more))) in
    let three : b ≡ ((front ++ i) ++ n) ++ (k ++ more) = two ∙ sym (append_assoc (front ++ i) n (k ++ more)) in
    let four : b ≡ (((front ++ i) ++ n) ++ k) ++ more = three ∙ sym (append_assoc ((front ++ i) ++ n) k more) in
    let l2 : length (front ++ i) ≡ at + 4 = omega (arith, long, length-append front i) in
    let l3 : length ((front ++ i) ++ n) ≡ at + 8 = omega (arith, l2, length-append (front ++ i) n) in
    let l4 : length (((front ++ i) ++ n) ++ k) ≡ at + 12 = omega (arith, l3, length-append ((front ++ i) ++ n) k) in
    let id : be32_at b at ≡ s.space = be32_at-written b at s.space (ap (λ (l : List ℕ). range at 4 l) one ∙ range_at front i (n ++ (k ++ more)) at 4 long refl) fit.0 in
    let pages : be32_at b (at + 4) ≡ s.pages = be32_at-written b (at + 4) s.pages (ap (λ (l : List ℕ). range (at + 4) 4 l) two ∙ range_at (front ++ i) n (k ++ more) (at + 4) 4 l2 refl) fit.1 in
    let key : be32_at b (at + 8) ≡ s.key_id = be32_at-written b (at + 8) s.key_id (ap (λ (l : List ℕ). range (at + 8) 4 l) three ∙ range_at ((front ++ i) ++ n) k more (at + 8) 4 l3 refl) fit.2 in
    (λ j. record { space = id j; pages = pages j; key_id = key j } ∷ spaces_read b (((front ++ i) ++ n) ++ k) ss rest (at + 12) l4 four fit.3 j)

-- ---- the header

record Limits (h : HeldHeader) : Type 0 where
  blocks : h.blocks ≤ 4096
  count : length h.spaces ≤ 16
  order : are_in_order 0 h.spaces ≡ true
  few : pages_together h.spaces ≤ 16384

limits : (h : HeldHeader) → are_allowed h ≡ true → Limits h
unfolding are_allowed
limits h is =
    let a = and_right (nat_le 32 h.blocks) _ is in
    let b = and_right (nat_le h.blocks 4096) _ a in
    let c = and_right (nat_le 1 (length h.spaces)) _ b in
    let d = and_right (nat_le (length h.spaces) 16) _ c in
    let blocks : nat_le h.blocks 4096 ≡ true = and_left _ _ a in
    let count : nat_le (length h.spaces) 16 ≡ true = and_left _ _ c in
    let few : nat_le (pages_together h.spaces) 16384 ≡ true = and_right (are_in_order 0 h.spaces) _ d in
    record { blocks = grind (arith, nat_tests); count = grind (arith, nat_tests); order = and_left _ _ d; few = grind (arith, nat_tests) }

code_small : (a : Algorithm) → algorithm_code a < 2 ^ 32
unfolding algorithm_code
code_small Cbc = lit< tt
code_small Ctr = lit< tt

code_back : (a : Algorithm) → (if nat_eq (algorithm_code a) 1 then Cbc else Ctr) ≡ a
unfolding algorithm_code
code_back Cbc = refl
code_back Ctr = refl

code_known : (a : Algorithm) → (nat_eq (algorithm_code a) 1 || nat_eq (algorithm_code a) 2) ≡ true
unfolding algorithm_code
code_known Cbc = refl
code_known Ctr = refl

header_ends : (b : List ℕ) → is_header b ≡ true → ends_in_sum b ≡ true
unfolding is_header
header_ends b valid = and_left _ _ valid

-- what doesn't end in its checksum is no header
pub no_header : (b : List ℕ) → ends_in_sum b ≡ false → header_in b ≡ None
unfolding header_in
no_header b isnt = ap (λ (v : Bool). if v then Some (header_fields b) else None) (not_true (is_header b) (λ valid. true≢false (sym (header_ends b valid) ∙ isnt)))

module _ (h : HeldHeader) (is : IsWritableHeader h) where
  abbrev b : List ℕ
  b = header_bytes h

  abbrev words : List ℕ
  words = space_words h.spaces

  abbrev pad : List ℕ
  pad = zeros (200 - length words)

  abbrev code : List ℕ
  code = to_be_bytes w32 (algorithm_code h.algorithm)

  abbrev behind : List ℕ
  behind = zeros 3848 ++ to_be_bytes w32 (crc32c (header_front h))

  shape : b ≡ header_words h ++ (words ++ (pad ++ (code ++ behind)))
  unfolding header_bytes header_front
  shape =
      let sum : List ℕ = to_be_bytes w32 (crc32c (header_front h)) in
      append_assoc (header_words h) ((words ++ pad) ++ (code ++ zeros 3848)) sum
      ∙ ap (λ (l : List ℕ). header_words h ++ l) (append_assoc (words ++ pad) (code ++ zeros 3848) sum ∙ append_assoc words pad ((code ++ zeros 3848) ++ sum)
      ∙ ap (λ (l : List ℕ). words ++ (pad ++ l)) (append_assoc code (zeros 3848) sum))

  words_long : length (header_words h) ≡ 40
  unfolding header_words
  words_long = omega (arith, is.salt_long)

  magic_is : range 0 8 b ≡ codes "KEYSTOR1"
  unfolding header_words
  magic_is = ap (λ (l : List ℕ). range 0 8 l) shape

  format_is : be32_at b 8 ≡ 2
  unfolding header_words
  format_is = be32_at-written b 8 2 (ap (λ (l : List ℕ). range 8 4 l) shape) (lit< tt)

  size_is : be32_at b 12 ≡ 16384
  unfolding header_words
  size_is = be32_at-written b 12 16384 (ap (λ (l : List ℕ). range 12 4 l) shape) (lit< tt)

  blocks_is : be32_at b 16 ≡ h.blocks
  unfolding header_words
  blocks_is = let l = limits h is.allowed in be32_at-written b 16 h.blocks (ap (λ (l : List ℕ). range 16 4 l) shape) (omega (arith, l.blocks))

  count_is : be32_at b 20 ≡ length h.spaces
  unfolding header_words
  count_is = let l = limits h is.allowed in be32_at-written b 20 (length h.spaces) (ap (λ (l : List ℕ). range 20 4 l) shape) (omega (arith, l.count))

  salt_is : range 24 16 b ≡ h.salt
  unfolding header_words
  salt_is = ap (λ (l : List ℕ). range 24 16 l) shape ∙ take_at h.salt (words ++ (pad ++ (code ++ behind))) 16 is.salt_long

  spaces_is : spaces_at b 40 (be32_at b 20) ≡ h.spaces
  spaces_is =
      let l = limits h is.allowed in
      ap (λ (n : ℕ). spaces_at b 40 n) count_is
      ∙ spaces_read b (header_words h) h.spaces (pad ++ (code ++ behind)) 40 words_long shape (fits 0 h.spaces l.order l.few is.key_ids)

  front_long : length ((header_words h ++ words) ++ pad) ≡ 240
  front_long =
      let l = limits h is.allowed in
      omega (arith, words_long, l.count, length-space_words h.spaces, length-zeros (200 - length words), length-append (header_words h ++ words) pad, length-append (header_words h) words)

  code_is : be32_at b 240 ≡ algorithm_code h.algorithm
  code_is =
      let regrouped : b ≡ ((header_words h ++ words) ++ pad) ++ (code ++ behind) =
      shape ∙ sym (append_assoc (header_words h) words (pad ++ (code ++ behind))) ∙ sym (append_assoc (header_words h ++ words) pad (code ++ behind)) in
      be32_at-written b 240 (algorithm_code h.algorithm)
      (ap (λ (l : List ℕ). range 240 4 l) regrouped ∙ range_at ((header_words h ++ words) ++ pad) code behind 240 4 front_long refl) (code_small h.algorithm)

  fields_are : header_fields b ≡ h
  unfolding header_fields
  fields_are =
      let algorithm : (if nat_eq (be32_at b 240) 1 then Cbc else Ctr) ≡ h.algorithm = ap (λ (n : ℕ). if nat_eq n 1 then Cbc else Ctr) code_is ∙ code_back h.algorithm in
      (λ i. record { algorithm = algorithm i; blocks = blocks_is i; salt = salt_is i; spaces = spaces_is i })

  pub header_sum : ends_in_sum b ≡ true
  unfolding header_bytes
  header_sum = ends-ends_in_sum _ (ends-append (header_front h))

  is_valid : is_header b ≡ true
  unfolding is_header
  is_valid =
      and_both _ _ header_sum (and_both _ _ ((bytes_eq-Decides _ _).1 magic_is) (and_both _ _ (ap (λ (n : ℕ). nat_eq n 2) format_is) (and_both _ _ (ap (λ (n : ℕ). nat_eq n 16384) size_is)
      (and_both _ _ (ap (λ (n : ℕ). nat_eq n 1 || nat_eq n 2) code_is ∙ code_known h.algorithm) (ap are_allowed fields_are ∙ is.allowed)))))

  -- a header that is written is read back
  pub header_back : header_in b ≡ Some h
  unfolding header_in
  header_back = ap (λ (v : Bool). if v then Some (header_fields b) else None) is_valid ∙ ap Some fields_are

  -- and is no header once its last byte is inverted
  pub header_torn : header_in (torn_bytes b) ≡ None
  header_torn = no_header (torn_bytes b) (torn_page b header_sum)
