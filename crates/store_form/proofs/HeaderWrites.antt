-- The block of a header, part by part.
use Rattle.std.proofs.Common.{◌≡◌, ℕ, suc, zero, ◌+◌, ◌-◌, ◌*◌, ◌<◌, ◌≤◌, List, [], ◌∷◌, ◌++◌, length, take, map, slice_index_or, refl, sym, ap, ◌∙◌, arith, append_assoc, length-append}
use Rattle.std.specs.Int.{to_be_bytes, w32}
use Rattle.std.proofs.lemmas.List.{append-nil, take_at}
use Rattle.bytes_core.specs.Crc.{crc32c}
use Rattle.byte_list.specs.Bytes.{put, zeros}
use Rattle.byte_list.proofs.PutLaws.{put_at}
use Rattle.byte_list.proofs.RangeLaws.{length-zeros}
use Rattle.redo_text.proofs.BlockWrites.{zeros-add}
use Rattle.store_files.specs.Header.{HeldHeader, HeldSpace, algorithm_code, header_bytes, header_front, header_words, space_words}
use Rattle.store_form.specs.HeaderParts.{first_words, space_part, with_checksum}
use Rattle.store_form.specs.Said.{space_said}
use Rattle.store_form.specs.declared.header.HeaderSpace.{HeaderSpace}

-- zero bytes at a place, written over
over_zeros : (front new : List ℕ) (n m at : ℕ) → length front ≡ at → n ≡ length new + m → put at new (front ++ zeros n) ≡ (front ++ new) ++ zeros m
over_zeros front new n m at long room =
    ap (λ (k : ℕ). put at new (front ++ zeros k)) room
    ∙ ap (λ (l : List ℕ). put at new (front ++ l)) (zeros-add (length new) m)
    ∙ put_at front (zeros (length new)) (zeros m) new at long (length-zeros (length new))
    ∙ sym (append_assoc front new (zeros m))

pub words_put : (blocks count : ℕ) (o : List ℕ) → o ≡ zeros 4096 → put 0 (first_words blocks count) o ≡ first_words blocks count ++ zeros 4072
unfolding first_words
words_put blocks count o is = ap (λ (l : List ℕ). put 0 (first_words blocks count) l) is ∙ over_zeros [] (first_words blocks count) 4096 4072 0 refl refl

-- the first 40 bytes
pub salt_put : (h : HeldHeader) (o : List ℕ) → length h.salt ≡ 16 → o ≡ first_words h.blocks (length h.spaces) ++ zeros 4072 → put 24 h.salt o ≡ header_words h ++ zeros 4056
unfolding first_words header_words
salt_put h o long is =
    ap (λ (l : List ℕ). put 24 h.salt l) is ∙ over_zeros (first_words h.blocks (length h.spaces)) h.salt 4072 4056 24 refl (omega (arith, long))

pub header_words-long : (h : HeldHeader) → length h.salt ≡ 16 → length (header_words h) ≡ 40
unfolding header_words
header_words-long h long = omega (arith, long)

-- ---- the spaces

words_append : (xs ys : List HeldSpace) → space_words (xs ++ ys) ≡ space_words xs ++ space_words ys
unfolding space_words
words_append [] ys = refl
words_append (x ∷ xs) ys = ap (λ (l : List ℕ). (to_be_bytes w32 x.space ++ (to_be_bytes w32 x.pages ++ to_be_bytes w32 x.key_id)) ++ l) (words_append xs ys)

words_one : (x : HeldSpace) → space_words (x ∷ []) ≡ space_part x
unfolding space_words space_part
words_one x = refl

pub part_long : (x : HeldSpace) → length (space_part x) ≡ 12
unfolding space_part
part_long x = refl

pub words_long : (xs : List HeldSpace) → length (space_words xs) ≡ 12 * length xs
unfolding space_words
words_long [] = refl
words_long (x ∷ xs) = let more = words_long xs in omega (arith, more)

take_one : (xs : List HeaderSpace) (i : ℕ) (d : HeaderSpace) → i < length xs → map space_said (take (suc i) xs) ≡ map space_said (take i xs) ++ (space_said (slice_index_or xs i d) ∷ [])
take_one [] i d lt = absurd (omega (arith, lt))
take_one (x ∷ xs) zero d lt = refl
take_one (x ∷ xs) (suc i) d lt = ap (λ (l : List HeldSpace). space_said x ∷ l) (take_one xs i d (omega (arith, lt)))

pub map_long : (xs : List HeaderSpace) → length (map space_said xs) ≡ length xs
map_long [] = refl
map_long (x ∷ xs) = ap suc (map_long xs)

take_long : (xs : List HeaderSpace) (i : ℕ) → i ≤ length xs → length (take i xs) ≡ i
take_long xs zero le = refl
take_long [] (suc i) le = absurd (omega (arith, le))
take_long (x ∷ xs) (suc i) le = ap suc (take_long xs i (omega (arith, le)))

-- one space more is written
pub space_put : (w : List ℕ) (xs : List HeaderSpace) (i : ℕ) (d : HeaderSpace) (o : List ℕ) → length w ≡ 40 → i < length xs → length xs ≤ 16 → o ≡ (w ++ space_words (map space_said (take i xs))) ++ zeros (4056 - 12 * i)
    → put (40 + 12 * i) (space_part (space_said (slice_index_or xs i d))) o ≡ (w ++ space_words (map space_said (take (i + 1) xs))) ++ zeros (4056 - 12 * (i + 1))
space_put w xs i d o long lt few is =
    let done : List ℕ = space_words (map space_said (take i xs)) in
    let new : List ℕ = space_part (space_said (slice_index_or xs i d)) in
    let done_long : length done ≡ 12 * i = words_long (map space_said (take i xs)) ∙ ap (λ (n : ℕ). 12 * n) (map_long (take i xs) ∙ take_long xs i (omega (arith, lt))) in
    let new_long : length new ≡ 12 = part_long (space_said (slice_index_or xs i d)) in
    let front_long : length (w ++ done) ≡ 40 + 12 * i = length-append w done ∙ omega (arith, long, done_long) in
    let room : 4056 - 12 * i ≡ length new + (4056 - 12 * (i + 1)) = omega (arith, new_long, lt, few) in
    let one : i + 1 ≡ suc i = omega arith in
    let more : done ++ new ≡ space_words (map space_said (take (i + 1) xs)) =
    ap (λ (l : List ℕ). done ++ l) (sym (words_one (space_said (slice_index_or xs i d)))) ∙ sym (words_append (map space_said (take i xs)) (space_said (slice_index_or xs i d) ∷ []))
    ∙ ap space_words (sym (take_one xs i d lt)) ∙ ap (λ (n : ℕ). space_words (map space_said (take n xs))) (sym one) in
    ap (λ (l : List ℕ). put (40 + 12 * i) new l) is ∙ over_zeros (w ++ done) new (4056 - 12 * i) (4056 - 12 * (i + 1)) (40 + 12 * i) front_long room
    ∙ ap (λ (l : List ℕ). l ++ zeros (4056 - 12 * (i + 1))) (append_assoc w done new ∙ ap (λ (l : List ℕ). w ++ l) more)

-- ---- the algorithm and the checksum

module _ (h : HeldHeader) (long : length h.salt ≡ 16) (few : length h.spaces ≤ 16) where
  abbrev sw : List ℕ
  sw = space_words h.spaces

  abbrev code : List ℕ
  code = to_be_bytes w32 (algorithm_code h.algorithm)

  front_240 : List ℕ
  front_240 = header_words h ++ (sw ++ zeros (200 - length sw))

  sw_long : length sw ≡ 12 * length h.spaces
  sw_long = words_long h.spaces

  front_240-long : length (header_words h ++ (sw ++ zeros (200 - length sw))) ≡ 240
  front_240-long =
      let a = header_words-long h long in
      let b = length-append (header_words h) (sw ++ zeros (200 - length sw)) in
      let c = length-append sw (zeros (200 - length sw)) in
      let d = length-zeros (200 - length sw) in
      omega (arith, a, b, c, d, sw_long, few)

  -- behind the spaces zero bytes up to byte 240
  padded : (header_words h ++ sw) ++ zeros (4056 - 12 * length h.spaces) ≡ (header_words h ++ (sw ++ zeros (200 - length sw))) ++ zeros 3856
  padded =
      let room : 4056 - 12 * length h.spaces ≡ (200 - length sw) + 3856 = omega (arith, sw_long, few) in
      ap (λ (n : ℕ). (header_words h ++ sw) ++ zeros n) room ∙ ap (λ (l : List ℕ). (header_words h ++ sw) ++ l) (zeros-add (200 - length sw) 3856)
      ∙ sym (append_assoc (header_words h ++ sw) (zeros (200 - length sw)) (zeros 3856))
      ∙ ap (λ (l : List ℕ). l ++ zeros 3856) (append_assoc (header_words h) sw (zeros (200 - length sw)))

  pub code_put : (o : List ℕ) → o ≡ (header_words h ++ sw) ++ zeros (4056 - 12 * length h.spaces) → put 240 code o ≡ header_front h ++ zeros 4
  unfolding header_front
  code_put o is =
      ap (λ (l : List ℕ). put 240 code l) (is ∙ padded) ∙ over_zeros (header_words h ++ (sw ++ zeros (200 - length sw))) code 3856 3852 240 front_240-long refl
      ∙ ap (λ (l : List ℕ). ((header_words h ++ (sw ++ zeros (200 - length sw))) ++ code) ++ l) (zeros-add 3848 4)
      ∙ sym (append_assoc ((header_words h ++ (sw ++ zeros (200 - length sw))) ++ code) (zeros 3848) (zeros 4))
      ∙ ap (λ (l : List ℕ). l ++ zeros 4) (append_assoc (header_words h ++ (sw ++ zeros (200 - length sw))) code (zeros 3848) ∙ append_assoc (header_words h) (sw ++ zeros (200 - length sw)) (code ++ zeros 3848))

  pub header_front-long : length (header_front h) ≡ 4092
  unfolding header_front
  header_front-long =
      let a = front_240-long in
      let b = length-append (header_words h) ((sw ++ zeros (200 - length sw)) ++ (code ++ zeros 3848)) in
      let c = length-append (sw ++ zeros (200 - length sw)) (code ++ zeros 3848) in
      let d = length-append (header_words h) (sw ++ zeros (200 - length sw)) in
      let e = length-zeros 3848 in
      let f = length-append code (zeros 3848) in
      omega (arith, a, b, c, d, e, f)

  pub sum_put : (o : List ℕ) → o ≡ header_front h ++ zeros 4 → with_checksum o ≡ header_bytes h
  unfolding header_bytes zeros
  sum_put o is =
      let sum : List ℕ = to_be_bytes w32 (crc32c (header_front h)) in
      let room : length o - 4 ≡ 4092 = let a = ap length is in let b = length-append (header_front h) (zeros 4) in let c = length-zeros 4 in let d = header_front-long in omega (arith, a, b, c, d) in
      let front : take 4092 o ≡ header_front h = ap (take 4092) is ∙ take_at (header_front h) (zeros 4) 4092 header_front-long in
      ap (λ (n : ℕ). put n (to_be_bytes w32 (crc32c (take n o))) o) room
      ∙ ap (λ (l : List ℕ). put 4092 (to_be_bytes w32 (crc32c l)) o) front ∙ ap (λ (l : List ℕ). put 4092 sum l) is
      ∙ over_zeros (header_front h) sum 4 0 4092 header_front-long refl ∙ append-nil (header_front h ++ sum)
