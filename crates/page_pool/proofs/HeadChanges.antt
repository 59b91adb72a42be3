-- What a floor and a ciphered space are in page 0: what `write_head` writes.
use Rattle.std.proofs.Common.{◌≡◌, ℕ, ◌+◌, ◌≤◌, true, List, [], ◌∷◌, ◌++◌, length, take, drop, Option, Some, if◌then◌else◌, refl, sym, ◌∙◌, ap, arith, None, IfSome, append_assoc, append-nil, length-append}
use Rattle.std.proofs.lemmas.List.{length-take-le}
use Rattle.std.specs.Int.{to_be_bytes, w32}
use Rattle.byte_list.specs.Bytes.{put}
use Rattle.byte_list.proofs.PutLaws.{length-put, put_at, put_parts}
use Rattle.redo_text.specs.declared.change.Change.TheVariants.{Floor, Encrypt}
use Rattle.space_head.specs.Head.{with_head}
use Rattle.space_head.specs.Record.{crypt_bytes, magic, record_bytes, record_end, record_start}
use Rattle.space_head.specs.Sizes.{pages_per_extent, record_place}
use Rattle.space_head.specs.declared.head.SpaceHead.{SpaceHead}
use Rattle.space_head.specs.declared.record.CryptRecord.{CryptRecord}
use Rattle.page_pool.specs.Pages.{plain_page}
use Rattle.page_pool.specs.Changes.{body_written, page_changed_by}
use Rattle.page_pool.proofs.Bodies.{plain_written}
use Rattle.space_head.proofs.Places.{place_16384}

-- ---- page 0

-- a list is put whose middle part differs from what stands there
part_put : (at : ℕ) (a x y z w : List ℕ) → length x ≡ length y → at + (length a + (length x + length z)) ≤ length w
    → put at (a ++ (y ++ z)) w ≡ put (at + length a) y (put at (a ++ (x ++ z)) w)
part_put at a x y z w same fits =
    let front : length (take at w) ≡ at = length-take-le at w (omega arith) in
    let before : length (take at w ++ a) ≡ at + length a = omega (arith, length-append (take at w) a, front) in
    let sizes : length (a ++ (x ++ z)) ≡ length (a ++ (y ++ z)) = omega (arith, length-append a (x ++ z), length-append x z, length-append a (y ++ z), length-append y z, same) in
    let parts : (m : List ℕ) → put at (a ++ (m ++ z)) w ≡ (take at w ++ a) ++ (m ++ (z ++ drop (at + length (a ++ (m ++ z))) w)) =
    λ m. put_parts at (a ++ (m ++ z)) w ∙ regrouped (take at w) a m z (drop (at + length (a ++ (m ++ z))) w) in
    parts y
    ∙ sym (ap (put (at + length a) y) (parts x)
    ∙ put_at (take at w ++ a) x (z ++ drop (at + length (a ++ (x ++ z))) w) y (at + length a) before same
    ∙ ap (λ (n : ℕ). (take at w ++ a) ++ (y ++ (z ++ drop (at + n) w))) sizes)
  where
    regrouped : (t b m e d : List ℕ) → t ++ ((b ++ (m ++ e)) ++ d) ≡ (t ++ b) ++ (m ++ (e ++ d))
    regrouped t b m e d = simp append_assoc

-- the page with the fields of a head but for its record
with_fields : SpaceHead → List ℕ → List ℕ
with_fields head page = put 54 (to_be_bytes w32 head.flags) (put 46 (to_be_bytes w32 head.pages) (put 38 (to_be_bytes w32 head.space) page))

length-with_fields : (head : SpaceHead) (page : List ℕ) → length page ≡ 16384 → length (with_fields head page) ≡ 16384
unfolding with_fields
length-with_fields head page long =
    let one : length (put 38 (to_be_bytes w32 head.space) page) ≡ 16384 = length-put 38 (to_be_bytes w32 head.space) page (omega (arith, long)) ∙ long in
    let two : length (put 46 (to_be_bytes w32 head.pages) (put 38 (to_be_bytes w32 head.space) page)) ≡ 16384 = length-put 46 (to_be_bytes w32 head.pages) (put 38 (to_be_bytes w32 head.space) page) (omega (arith, one)) ∙ one in
    length-put 54 (to_be_bytes w32 head.flags) (put 46 (to_be_bytes w32 head.pages) (put 38 (to_be_bytes w32 head.space) page)) (omega (arith, two)) ∙ two

length-record : (r : CryptRecord) → length r.salt ≡ 16 → length (record_bytes r) ≡ 33
length-record r salt =
    let back_size : length (record_end r) ≡ 9 = refl in
    omega (arith, length-append (record_start r) (r.salt ++ record_end r), length-append r.salt (record_end r), salt, back_size)

length_with_record : (page : List ℕ) (head : SpaceHead) (r : CryptRecord) → length page ≡ 16384 → length r.salt ≡ 16 → length (put (record_place (length page)) (record_bytes r) (with_fields head page)) ≡ 16384
length_with_record page head r long salt =
    let at : record_place (length page) ≡ 10428 = ap record_place long ∙ place_16384 in
    let fits : record_place (length page) + length (record_bytes r) ≤ length (with_fields head page) = omega (arith, at, length-record r salt, length-with_fields head page long) in
    length-put (record_place (length page)) (record_bytes r) (with_fields head page) fits ∙ length-with_fields head page long

pub length_with_head : (page : List ℕ) (head : SpaceHead) → length page ≡ 16384 → IfSome head.crypt (λ r. length r.salt ≡ 16) → length (with_head head page) ≡ 16384
unfolding with_fields
length_with_head page head long salt = by head.crypt salt
  where
    at : record_place (length page) ≡ 10428
    at = ap record_place long ∙ place_16384

    by : (o : Option CryptRecord) → IfSome o (λ r. length r.salt ≡ 16) → length (put (record_place (length page)) (crypt_bytes o) (with_fields head page)) ≡ 16384
    by None none = length-put (record_place (length page)) (crypt_bytes None) (with_fields head page) (let size : length (crypt_bytes None) ≡ 33 = refl in omega (arith, at, size, length-with_fields head page long)) ∙ length-with_fields head page long
    by (Some r) salt = length_with_record page head r long salt

-- ---- the bytes of a record

-- a record with another least version
pub floor_put : (place : ℕ) (r : CryptRecord) (v : ℕ) (w : List ℕ) → place ≡ 10428 → length w ≡ 16384 → length r.salt ≡ 16
    → put place (record_bytes (record { ciphered = r.ciphered; salt = r.salt; minimum = v; key_id = r.key_id; mode = r.mode })) w ≡ put (place + 24) (to_be_bytes w32 v) (put place (record_bytes r) w)
floor_put place r v w at long salt =
    let front = record_start r ++ r.salt in
    let back = to_be_bytes w32 r.key_id ++ r.mode ∷ [] in
    let size : length (record_start r ++ r.salt) ≡ 24 = omega (arith, length-append (record_start r) r.salt, salt) in
    let split : (m : ℕ) → record_start r ++ (r.salt ++ (to_be_bytes w32 m ++ back)) ≡ front ++ (to_be_bytes w32 m ++ back) = λ m. sym (append_assoc (record_start r) r.salt (to_be_bytes w32 m ++ back)) in
    ap (λ (l : List ℕ). put place l w) (split v)
    ∙ part_put place front (to_be_bytes w32 r.minimum) (to_be_bytes w32 v) back w refl (omega (arith, at, size, long))
    ∙ ap (λ (l : List ℕ). put (place + length front) (to_be_bytes w32 v) (put place l w)) (sym (split r.minimum))
    ∙ ap (λ (n : ℕ). put (place + n) (to_be_bytes w32 v) (put place (record_bytes r) w)) size

-- a record that is on
pub encrypt_put : (place : ℕ) (r : CryptRecord) (w : List ℕ) → place ≡ 10428 → length w ≡ 16384 → length r.salt ≡ 16
    → put place (record_bytes (record { ciphered = true; salt = r.salt; minimum = r.minimum; key_id = r.key_id; mode = 1 })) w ≡ put (place + 32) (1 ∷ []) (put (place + 6) (1 ∷ []) (put place (record_bytes r) w))
encrypt_put place r w at long salt =
    let kind : ℕ = if r.ciphered then 1 else 0 in
    let min = to_be_bytes w32 r.minimum in
    let key = to_be_bytes w32 r.key_id in
    let back_size : length (record_end r) ≡ 9 = refl in
    let tail_size : length (r.salt ++ record_end r) ≡ 25 = omega (arith, length-append r.salt (record_end r), salt, back_size) in
    let first : put place (magic ++ ((1 ∷ []) ++ (16 ∷ (r.salt ++ record_end r)))) w ≡ put (place + 6) (1 ∷ []) (put place (record_bytes r) w) =
    part_put place magic (kind ∷ []) (1 ∷ []) (16 ∷ (r.salt ++ record_end r)) w refl (omega (arith, at, tail_size, long)) in
    let front : List ℕ = (magic ++ (1 ∷ 16 ∷ [])) ++ (r.salt ++ (min ++ key)) in
    let eight : length (min ++ key) ≡ 8 = refl in
    let front_size : length front ≡ 32 = omega (arith, length-append (magic ++ (1 ∷ 16 ∷ [])) (r.salt ++ (min ++ key)), length-append r.salt (min ++ key), salt, eight) in
    let split : (m : ℕ) → (magic ++ (1 ∷ 16 ∷ [])) ++ (r.salt ++ (min ++ (key ++ m ∷ []))) ≡ front ++ ((m ∷ []) ++ []) = λ m. regrouped (magic ++ (1 ∷ 16 ∷ [])) r.salt min key (m ∷ []) in
    ap (λ (l : List ℕ). put place l w) (split 1)
    ∙ part_put place front (r.mode ∷ []) (1 ∷ []) [] w refl (omega (arith, at, front_size, long))
    ∙ ap (λ (l : List ℕ). put (place + length front) (1 ∷ []) (put place l w)) (sym (split r.mode))
    ∙ ap (put (place + length front) (1 ∷ [])) first
    ∙ ap (λ (n : ℕ). put (place + n) (1 ∷ []) (put (place + 6) (1 ∷ []) (put place (record_bytes r) w))) front_size
  where
    regrouped : (a b m k e : List ℕ) → a ++ (b ++ (m ++ (k ++ e))) ≡ (a ++ (b ++ (m ++ k))) ++ (e ++ [])
    regrouped a b m k e = simp (append_assoc, append-nil)

-- ---- the head of a page

place_of_page : (page : List ℕ) → length page ≡ 16384 → record_place (length page) ≡ 10428
place_of_page page long = ap record_place long ∙ place_16384

-- The head with this least version, as `write_head` writes it, is the one before with a floor.
pub floor_as_head : (page : List ℕ) (head : SpaceHead) (r : CryptRecord) (s v : ℕ) → length page ≡ 16384 → head.crypt ≡ Some r → length r.salt ≡ 16
    → plain_page (with_head (record { space = head.space; pages = head.pages; flags = head.flags; crypt = Some (record { ciphered = r.ciphered; salt = r.salt; minimum = v; key_id = r.key_id; mode = r.mode }) }) page)
    ≡ page_changed_by (Floor s v) (plain_page (with_head head page))
unfolding with_fields
floor_as_head page head r s v long crypt salt =
    let before : List ℕ = put (record_place (length page)) (record_bytes r) (with_fields head page) in
    let same : before ≡ with_head head page = sym (ap (λ (x : Option CryptRecord). put (record_place (length page)) (crypt_bytes x) (with_fields head page)) crypt) in
    let sized : length (with_head head page) ≡ 16384 = ap length (sym same) ∙ length_with_record page head r long salt in
    let moved : put (record_place (length page) + 24) (to_be_bytes w32 v) before ≡ put (record_place 16384 + 24) (to_be_bytes w32 v) (with_head head page) =
    ap (put (record_place (length page) + 24) (to_be_bytes w32 v)) same ∙ ap (λ (n : ℕ). put (record_place n + 24) (to_be_bytes w32 v) (with_head head page)) long in
    ap plain_page (floor_put (record_place (length page)) r v (with_fields head page) (place_of_page page long) (length-with_fields head page long) salt ∙ moved)
    ∙ plain_written (record_place 16384 + 24) (to_be_bytes w32 v) (with_head head page) sized (omega (arith, place_16384)) (omega (arith, place_16384))

-- The head with its record on is the one before made a ciphered one.
pub encrypt_as_head : (page : List ℕ) (head : SpaceHead) (r : CryptRecord) (s : ℕ) → length page ≡ 16384 → head.crypt ≡ Some r → length r.salt ≡ 16
    → plain_page (with_head (record { space = head.space; pages = head.pages; flags = head.flags; crypt = Some (record { ciphered = true; salt = r.salt; minimum = r.minimum; key_id = r.key_id; mode = 1 }) }) page)
    ≡ page_changed_by (Encrypt s) (plain_page (with_head head page))
unfolding with_fields
encrypt_as_head page head r s long crypt salt =
    let before : List ℕ = put (record_place (length page)) (record_bytes r) (with_fields head page) in
    let same : before ≡ with_head head page = sym (ap (λ (x : Option CryptRecord). put (record_place (length page)) (crypt_bytes x) (with_fields head page)) crypt) in
    let sized : length (with_head head page) ≡ 16384 = ap length (sym same) ∙ length_with_record page head r long salt in
    let inner : List ℕ = put (record_place 16384 + 6) (1 ∷ []) (with_head head page) in
    let inner_sized : length inner ≡ 16384 = length-put (record_place 16384 + 6) (1 ∷ []) (with_head head page) (omega (arith, sized, place_16384)) ∙ sized in
    let moved : put (record_place (length page) + 32) (1 ∷ []) (put (record_place (length page) + 6) (1 ∷ []) before) ≡ put (record_place 16384 + 32) (1 ∷ []) inner =
    ap (λ (l : List ℕ). put (record_place (length page) + 32) (1 ∷ []) (put (record_place (length page) + 6) (1 ∷ []) l)) same
    ∙ ap (λ (n : ℕ). put (record_place n + 32) (1 ∷ []) (put (record_place n + 6) (1 ∷ []) (with_head head page))) long in
    ap plain_page (encrypt_put (record_place (length page)) r (with_fields head page) (place_of_page page long) (length-with_fields head page long) salt ∙ moved)
    ∙ plain_written (record_place 16384 + 32) (1 ∷ []) inner inner_sized (omega (arith, place_16384)) (omega (arith, place_16384))
    ∙ ap (body_written (record_place 16384 + 32) (1 ∷ [])) (plain_written (record_place 16384 + 6) (1 ∷ []) (with_head head page) sized (omega (arith, place_16384)) (omega (arith, place_16384)))
