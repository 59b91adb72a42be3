-- Blocks that are read back.
use Rattle.std.proofs.Common.{◌≡◌, ℕ, suc, ◌+◌, ◌<◌, ◌≤◌, ◌^◌, List, [], ◌∷◌, ◌++◌, length, take, drop, get_or, refl, sym, ◌∙◌, ap, subst, arith, length-drop, append_assoc}
use Rattle.std.proofs.lemmas.List.{take_at, drop_at, take-append-drop, length-take-le, take_all}
use Rattle.std.proofs.lemmas.Nat.{from_be_bytes-to_be_bytes_2}
use Rattle.std.specs.Int.{to_be_bytes, from_be_bytes, w16, w32}
use Rattle.bytes_core.specs.Crc.{crc32c}
use Rattle.plain_engine.specs.Block.{plain_sealed, block_head, IsLogBlock}
use Rattle.plain_engine.specs.Log.{log_block, ring_place, IsRunFrom}
use Rattle.plain_engine.proofs.Places.{place_again}
use Rattle.plain_engine.proofs.Sums.{length-front, length-block_head, take-plain_sealed, IsLogBlock-number}

sum_behind : (text : List ℕ) → length text ≡ 4092 → drop 4092 (plain_sealed text) ≡ to_be_bytes w32 (crc32c text)
unfolding plain_sealed
sum_behind text size = drop_at text (to_be_bytes w32 (crc32c text)) 4092 size

sealed_is : (front sum : List ℕ) → sum ≡ to_be_bytes w32 (crc32c front) → front ++ sum ≡ plain_sealed front
unfolding plain_sealed
sealed_is front sum is = ap (λ (l : List ℕ). front ++ l) is

used_bytes : (number used : ℕ) → used < 2 ^ 16 → from_be_bytes w16 (get_or (block_head number used) 12 0 ∷ get_or (block_head number used) 13 0 ∷ []) ≡ used
unfolding block_head
used_bytes number used small = from_be_bytes-to_be_bytes_2 used small

take_whole : (l : List ℕ) → length l ≡ 4092 → take 4092 l ≡ l
take_whole l size = take_all 4092 l (omega arith)

module _ {number : ℕ} {text block : List ℕ} (b : IsLogBlock number text block) where
  abbrev front : List ℕ
  front = block_head number (length text) ++ text ++ b.rest

  whole : length front ≡ 4092
  whole = length-front number text b.rest b.size

  pub block-front : take 4092 block ≡ front
  block-front = ap (λ (l : List ℕ). take 4092 l) b.is ∙ take-plain_sealed 4092 front (omega (arith, whole)) ∙ take_whole front whole

  pub block-sum : drop 4092 block ≡ to_be_bytes w32 (crc32c (take 4092 block))
  block-sum = ap (λ (l : List ℕ). drop 4092 l) b.is ∙ sum_behind front whole ∙ ap (λ (l : List ℕ). to_be_bytes w32 (crc32c l)) (sym block-front)

  pub block-head : take 16 (take 4092 block) ≡ block_head number (length text)
  block-head =
      ap (λ (l : List ℕ). take 16 l) (block-front ∙ append_assoc (block_head number (length text)) text b.rest)
      ∙ take_at (block_head number (length text)) (text ++ b.rest) 16 (length-block_head number (length text))

  pub block-used : from_be_bytes w16 (get_or (take 16 (take 4092 block)) 12 0 ∷ get_or (take 16 (take 4092 block)) 13 0 ∷ []) ≡ length text
  block-used =
      ap (λ (l : List ℕ). from_be_bytes w16 (get_or l 12 0 ∷ get_or l 13 0 ∷ [])) block-head ∙ used_bytes number (length text) (omega (arith, b.size))

-- the parts of a valid block, put together
pub block_of_parts : (number used : ℕ) (block : List ℕ) → length block ≡ 4096 → number < 2 ^ 64 → 0 < used → used ≤ 4076 → take 16 (take 4092 block) ≡ block_head number used
    → drop 4092 block ≡ to_be_bytes w32 (crc32c (take 4092 block)) → IsLogBlock number (take used (drop 16 (take 4092 block))) block
block_of_parts number used block size small some most head sum =
    let front = take 4092 block in
    let body = drop 16 front in
    let text = take used body in
    let rest = drop used body in
    let long : length front ≡ 4092 = length-take-le 4092 block (omega arith) in
    let inner : length body ≡ 4076 = omega (arith, length-drop 16 front) in
    let given : length text ≡ used = length-take-le used body (omega arith) in
    let parts : front ≡ block_head number used ++ text ++ rest =
    sym (take-append-drop 16 front) ∙ ap (λ (l : List ℕ). l ++ body) head ∙ ap (λ (l : List ℕ). block_head number used ++ l) (sym (take-append-drop used body))
    ∙ sym (append_assoc (block_head number used) text rest) in
    record {
      small = small;
      some = omega (arith, given);
      rest = rest;
      size = omega (arith, given, length-drop used body);
      is = sym (take-append-drop 4092 block) ∙ sealed_is front (drop 4092 block) sum
          ∙ ap plain_sealed (parts ∙ ap (λ (k : ℕ). block_head number k ++ text ++ rest) (sym given));
    }

-- the blocks from this number on hold these texts
abbrev pub HasTexts : ℕ → List ℕ → List (List ℕ) → Type 0
HasTexts n file [] = Unit {0}
HasTexts n file (t ∷ ts) = IsLogBlock n t (log_block (ring_place n) file) × HasTexts (n + 1) file ts

pub has_push : (n : ℕ) (file : List ℕ) (ts : List (List ℕ)) (t : List ℕ) → HasTexts n file ts → IsLogBlock (length ts + n) t (log_block (ring_place (length ts + n)) file) → HasTexts n file (ts ++ t ∷ [])
has_push n file [] t has is = let same : 0 + n ≡ n = omega arith in (subst (λ (k : ℕ). IsLogBlock k t (log_block (ring_place k) file)) same is, tt)
has_push n file (s ∷ ss) t has is =
    let same : suc (length ss) + n ≡ length ss + (n + 1) = omega arith in
    (has.0, has_push (n + 1) file ss t has.1 (subst (λ (k : ℕ). IsLogBlock k t (log_block (ring_place k) file)) same is))

pub has_ends : (n : ℕ) (file : List ℕ) (ts : List (List ℕ)) → HasTexts n file ts → ((text : List ℕ) → IsLogBlock (length ts + n) text (log_block (ring_place (length ts + n)) file) → ⊥) → IsRunFrom n file ts
has_ends n file [] has none = let same : 0 + n ≡ n = omega arith in subst (λ (k : ℕ). (text : List ℕ) → IsLogBlock k text (log_block (ring_place k) file) → ⊥) same none
has_ends n file (s ∷ ss) has none =
    let same : suc (length ss) + n ≡ length ss + (n + 1) = omega arith in
    (has.0, has_ends (n + 1) file ss has.1 (subst (λ (k : ℕ). (text : List ℕ) → IsLogBlock k text (log_block (ring_place k) file) → ⊥) same none))

-- where the ring is full the next number has the place of the first block
pub has_full : (file : List ℕ) (ts : List (List ℕ)) → HasTexts 2 file ts → length ts ≡ 256 → IsRunFrom 2 file ts
has_full file [] has full = absurd (omega (arith, full))
has_full file (t ∷ ts) has full = has_ends 2 file (t ∷ ts) has (λ text block.
    let same : length (t ∷ ts) + 2 ≡ 2 + 256 = omega (arith, full) in
    let place : ring_place (length (t ∷ ts) + 2) ≡ ring_place 2 = ap ring_place same ∙ place_again 2 in
    let here = subst (λ (k : ℕ). IsLogBlock (length (t ∷ ts) + 2) text (log_block k file)) place block in
    let number : length (t ∷ ts) + 2 ≡ 2 = IsLogBlock-number here has.0 in
    omega (arith, number))

-- a block has one text
pub IsLogBlock-text : {n : ℕ} {a b block : List ℕ} → IsLogBlock n a block → IsLogBlock n b block → a ≡ b
IsLogBlock-text {n} {a} {b} {block} x y =
    let same : length a ≡ length b = sym (block-used x) ∙ block-used y in
    let fronts : block_head n (length a) ++ a ++ x.rest ≡ block_head n (length b) ++ b ++ y.rest = sym (block-front x) ∙ block-front y in
    sym (text_part n a x.rest) ∙ ap (λ (l : List ℕ). take (length a) (drop 16 l)) fronts ∙ ap (λ (k : ℕ). take k (drop 16 (block_head n (length b) ++ b ++ y.rest))) same ∙ text_part n b y.rest
  where
    text_part : (n : ℕ) (t rest : List ℕ) → take (length t) (drop 16 (block_head n (length t) ++ t ++ rest)) ≡ t
    text_part n t rest =
        ap (λ (l : List ℕ). take (length t) (drop 16 l)) (append_assoc (block_head n (length t)) t rest)
        ∙ ap (λ (l : List ℕ). take (length t) l) (drop_at (block_head n (length t)) (t ++ rest) 16 (length-block_head n (length t)))
        ∙ take_at t rest (length t) refl

-- a file has one longest run
pub run_once : (n : ℕ) (file : List ℕ) (xs ys : List (List ℕ)) → IsRunFrom n file xs → IsRunFrom n file ys → xs ≡ ys
run_once n file [] [] a b = refl
run_once n file [] (y ∷ ys) a b = absurd (a y b.0)
run_once n file (x ∷ xs) [] a b = absurd (b x a.0)
run_once n file (x ∷ xs) (y ∷ ys) a b =
    let first : x ≡ y = IsLogBlock-text a.0 b.0 in
    let rest : xs ≡ ys = run_once (n + 1) file xs ys a.1 b.1 in
    ap (λ (t : List ℕ). t ∷ xs) first ∙ ap (λ (l : List (List ℕ)). y ∷ l) rest

-- one block more that was read
module _ (texts : List (List ℕ)) (i : ℕ) (buffer : List ℕ) (count : length texts ≡ i) (file : List ℕ) (has : HasTexts 2 file texts) (is : buffer ≡ log_block (ring_place (i + 2)) file) where
  pub scan_ends : ((text : List ℕ) → IsLogBlock (i + 2) text buffer → ⊥) → IsRunFrom 2 file texts
  scan_ends none = has_ends 2 file texts has (λ text b. none text (subst (IsLogBlock (i + 2) text) (sym is) (subst (λ (k : ℕ). IsLogBlock (k + 2) text (log_block (ring_place (k + 2)) file)) count b)))

  pub scan_more : (text : List ℕ) → IsLogBlock (i + 2) text buffer → HasTexts 2 file (texts ++ text ∷ [])
  scan_more text b = has_push 2 file texts text has (subst (λ (k : ℕ). IsLogBlock (k + 2) text (log_block (ring_place (k + 2)) file)) (sym count) (subst (IsLogBlock (i + 2) text) is b))
