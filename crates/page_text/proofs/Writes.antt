-- The writes of a page text, on the parts of a page.
use Rattle.std.proofs.Common.{◌≡◌, ℕ, ◌+◌, ◌-◌, ◌≤◌, List, [], ◌++◌, length, take, drop, refl, sym, ap, ◌∙◌, arith, length-append, length-drop, append_assoc}
use Rattle.std.proofs.lemmas.List.{append-nil, length-take-le}
use Rattle.byte_list.specs.Bytes.{range, put}
use Rattle.byte_list.proofs.RangeLaws.{range_at, split_off}
use Rattle.byte_list.proofs.PutLaws.{put_at}
use Rattle.page_text.specs.Parts.{body, cipher_part}

-- the parts of a page: start, type, inner start, body, low half of the LSN, checksum
abbrev pub joined : List ℕ → List ℕ → List ℕ → List ℕ → List ℕ → List ℕ → List ℕ
joined s k m b l z = s ++ (k ++ (m ++ (b ++ (l ++ z))))

pub body_long : (o : List ℕ) → 46 ≤ length o → length (body o) + 46 ≡ length o
body_long o h = omega (arith, length-take-le (length o - 8 - 38) (drop 38 o) (omega (arith, length-drop 38 o)))

-- a page by its parts
pub cut : (o : List ℕ) → 46 ≤ length o → o ≡ joined (range 0 24 o) (range 24 2 o) (range 26 12 o) (body o) (range (length o - 8) 4 o) (drop (length o - 4) o)
cut o h =
    let past_body : 38 + (length o - 8 - 38) ≡ length o - 8 = omega arith in
    let past_low : length o - 8 + 4 ≡ length o - 4 = omega arith in
    split_off 0 24 o
    ∙ ap (λ (x : List ℕ). range 0 24 o ++ x)
    (split_off 24 2 o
    ∙ ap (λ (x : List ℕ). range 24 2 o ++ x)
    (split_off 26 12 o
    ∙ ap (λ (x : List ℕ). range 26 12 o ++ x)
    (split_off 38 (length o - 8 - 38) o
    ∙ ap (λ (x : List ℕ). body o ++ x)
    (ap (λ (a : ℕ). drop a o) past_body ∙ split_off (length o - 8) 4 o ∙ ap (λ (a : ℕ). range (length o - 8) 4 o ++ drop a o) past_low))))

module _ (s k m b l z : List ℕ) (n : ℕ) (es : length s ≡ 24) (ek : length k ≡ 2) (em : length m ≡ 12) (eb : length b + 46 ≡ n) (el : length l ≡ 4) (ez : length z ≡ 4) where
  pub joined_long : length (joined s k m b l z) ≡ n
  joined_long = omega (arith, length-append s (k ++ (m ++ (b ++ (l ++ z)))), length-append k (m ++ (b ++ (l ++ z))), length-append m (b ++ (l ++ z)), length-append b (l ++ z), length-append l z)

  pub write_start : (w : List ℕ) → length w ≡ 24 → put 0 w (joined s k m b l z) ≡ joined w k m b l z
  write_start w e = put_at [] s (k ++ (m ++ (b ++ (l ++ z)))) w 0 refl (es ∙ sym e)

  two_long : length (s ++ k) ≡ 26
  two_long = omega (arith, length-append s k)

  pub write_inner : (w : List ℕ) → length w ≡ 12 → put 26 w (joined s k m b l z) ≡ joined s k w b l z
  write_inner w e =
      ap (λ (x : List ℕ). put 26 w x) (sym (append_assoc s k (m ++ (b ++ (l ++ z)))))
      ∙ put_at (s ++ k) m (b ++ (l ++ z)) w 26 two_long (em ∙ sym e) ∙ append_assoc s k (w ++ (b ++ (l ++ z)))

  apart : (x : List ℕ) → s ++ (k ++ (m ++ (b ++ x))) ≡ (s ++ (k ++ (m ++ b))) ++ x
  apart x = sym (append_assoc s (k ++ (m ++ b)) x ∙ ap (λ (y : List ℕ). s ++ y) (append_assoc k (m ++ b) x ∙ ap (λ (y : List ℕ). k ++ y) (append_assoc m b x)))

  pub write_low : (w : List ℕ) → length w ≡ 4 → put (n - 8) w (joined s k m b l z) ≡ joined s k m b w z
  write_low w e =
      let front : length (s ++ (k ++ (m ++ b))) ≡ n - 8 = omega (arith, length-append s (k ++ (m ++ b)), length-append k (m ++ b), length-append m b) in
      ap (λ (x : List ℕ). put (n - 8) w x) (apart (l ++ z)) ∙ put_at (s ++ (k ++ (m ++ b))) l z w (n - 8) front (el ∙ sym e) ∙ sym (apart (w ++ z))

  regroup : joined s k m b l z ≡ (s ++ k) ++ ((m ++ (b ++ l)) ++ z)
  regroup = sym (append_assoc s k ((m ++ (b ++ l)) ++ z) ∙ ap (λ (y : List ℕ). s ++ (k ++ y)) (append_assoc m (b ++ l) z ∙ ap (λ (y : List ℕ). m ++ y) (append_assoc b l z)))

  inner_long : length (m ++ (b ++ l)) ≡ n - 4 - 26
  inner_long = omega (arith, length-append m (b ++ l), length-append b l)

  -- what is ciphered
  pub inner_read : cipher_part (joined s k m b l z) ≡ m ++ (b ++ l)
  inner_read =
      ap (λ (a : ℕ). take (a - 4 - 26) (drop 26 (joined s k m b l z))) joined_long
      ∙ ap (λ (x : List ℕ). range 26 (n - 4 - 26) x) regroup ∙ range_at (s ++ k) (m ++ (b ++ l)) z 26 (n - 4 - 26) two_long inner_long

  pub write_cipher : (x : List ℕ) → length x + 30 ≡ n → put 26 x (joined s k m b l z) ≡ (s ++ (k ++ x)) ++ z
  write_cipher x e =
      ap (λ (y : List ℕ). put 26 x y) regroup ∙ put_at (s ++ k) (m ++ (b ++ l)) z x 26 two_long (inner_long ∙ (let d : n - 4 - 26 ≡ length x = omega arith in d))
      ∙ sym (append_assoc (s ++ k) x z) ∙ ap (λ (y : List ℕ). y ++ z) (append_assoc s k x)

-- the checksum over a front
pub write_end : (front z w : List ℕ) (n : ℕ) → length front + 4 ≡ n → length z ≡ 4 → length w ≡ 4 → put (n - 4) w (front ++ z) ≡ front ++ w
write_end front z w n ef ez ew =
    let at : length front ≡ n - 4 = omega arith in
    ap (λ (y : List ℕ). put (n - 4) w (front ++ y)) (sym (append-nil z)) ∙ put_at front z [] w (n - 4) at (ez ∙ sym ew) ∙ ap (λ (y : List ℕ). front ++ y) (append-nil w)
