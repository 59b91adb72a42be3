-- One step of a loop that writes a text block by block: what is written so far, and the rest as it was.
use Rattle.std.proofs.Common.{◌≡◌, ℕ, zero, suc, ◌+◌, ◌-◌, ◌*◌, ◌<◌, ◌≤◌, ◌⊎◌, inl, inr, List, [], ◌++◌, length, take, drop, refl, sym, ap, ◌∙◌, arith, add-one, length-append, length-drop, append_assoc}
use Rattle.std.proofs.lemmas.List.{append-nil, drop-drop, drop_all, drop_at, length-take-le, take_all, take_at}
use Rattle.std.proofs.lemmas.Bool.{cases_lt}
use borrow.Author.Count.{below_more}
use borrow.Rule.Slice.PartMut.{mid_of, post_of, put_mid, same_len_mid}
use Rattle.aes_core.specs.Modes.{text_block, joined}

-- the first n are blocks
pub record AreBlocks (f : ℕ → List ℕ) (n : ℕ) : Type 0 where
  pub long : (j : ℕ) → j < n → length (f j) ≡ 16

pub length-joined : (f : ℕ → List ℕ) (n : ℕ) → AreBlocks f n → length (joined f n) ≡ 16 * n
unfolding joined
length-joined f zero h = refl
length-joined f (suc n) h =
    let before : length (joined f n) ≡ 16 * n = length-joined f n (record { long = λ j lt. h.long j (omega arith) }) in
    omega (arith, length-append (joined f n) (f n), before, h.long n (omega arith))

pub length-text_block : (xs : List ℕ) (i : ℕ) → 16 * i + 16 ≤ length xs → length (text_block xs i) ≡ 16
length-text_block xs i h = length-take-le 16 (drop (16 * i) xs) (omega (arith, length-drop (16 * i) xs))

-- what is read is the block as it was
pub read_block : (f : ℕ → List ℕ) (xs : List ℕ) (i k : ℕ) → AreBlocks f i → k ≡ 16
    → take k (drop (16 * i) (joined f i ++ drop (16 * i) xs)) ≡ text_block xs i
read_block f xs i k h e =
    ap (λ (n : ℕ). take n (drop (16 * i) (joined f i ++ drop (16 * i) xs))) e
    ∙ ap (take 16) (drop_at (joined f i) (drop (16 * i) xs) (16 * i) (length-joined f i h))

pub joined_more : (f : ℕ → List ℕ) (n : ℕ) → joined f (n + 1) ≡ joined f n ++ f n
unfolding joined
joined_more f n = rw add-one refl

-- what is written is the next block
pub write_block : (f : ℕ → List ℕ) (xs ys : List ℕ) (i k : ℕ) → AreBlocks f i → k ≡ 16 → ys ≡ f i
    → put_mid (16 * i) k (joined f i ++ drop (16 * i) xs) ys ≡ joined f (i + 1) ++ drop (16 * (i + 1)) xs
write_block f xs ys i k h e made =
    let len : length (joined f i) ≡ 16 * i = length-joined f i h in
    let at : 16 * i + 16 ≡ 16 * (i + 1) = omega arith in
    let rest : post_of (16 * i) k (joined f i ++ drop (16 * i) xs) ≡ drop (16 * (i + 1)) xs =
    ap (drop k) (drop_at (joined f i) (drop (16 * i) xs) (16 * i) len) ∙ ap (λ (n : ℕ). drop n (drop (16 * i) xs)) e
    ∙ drop-drop 16 (16 * i) xs ∙ ap (λ (n : ℕ). drop n xs) at in
    (λ t. take_at (joined f i) (drop (16 * i) xs) (16 * i) len t ++ (made t ++ rest t))
    ∙ sym (append_assoc (joined f i) (f i) (drop (16 * (i + 1)) xs))
    ∙ ap (λ (l : List ℕ). l ++ drop (16 * (i + 1)) xs) (sym (joined_more f i))

-- the part after the blocks is read and written
pub read_tail : (f : ℕ → List ℕ) (xs : List ℕ) (n k : ℕ) → AreBlocks f n → length xs ≤ 16 * n + k
    → take k (drop (16 * n) (joined f n ++ drop (16 * n) xs)) ≡ drop (16 * n) xs
read_tail f xs n k h le =
    ap (take k) (drop_at (joined f n) (drop (16 * n) xs) (16 * n) (length-joined f n h)) ∙ take_all k (drop (16 * n) xs) (omega (arith, length-drop (16 * n) xs))

pub write_tail : (f : ℕ → List ℕ) (xs ys : List ℕ) (n k : ℕ) → AreBlocks f n → length xs ≤ 16 * n + k
    → put_mid (16 * n) k (joined f n ++ drop (16 * n) xs) ys ≡ joined f n ++ ys
write_tail f xs ys n k h le =
    let len : length (joined f n) ≡ 16 * n = length-joined f n h in
    let rest : post_of (16 * n) k (joined f n ++ drop (16 * n) xs) ≡ [] =
    ap (drop k) (drop_at (joined f n) (drop (16 * n) xs) (16 * n) len) ∙ drop_all k (drop (16 * n) xs) (omega (arith, length-drop (16 * n) xs)) in
    (λ t. take_at (joined f n) (drop (16 * n) xs) (16 * n) len t ++ (ys ++ rest t)) ∙ ap (λ (l : List ℕ). joined f n ++ l) (append-nil ys)

-- ---- the invariant of such a loop

-- of the text xs the first i blocks are written, block j being f j
pub record Written (f : ℕ → List ℕ) (xs now : List ℕ) (i : ℕ) : Type 0 where
  pub blocks : AreBlocks f i
  pub long : length now ≡ length xs
  pub text : now ≡ joined f i ++ drop (16 * i) xs

pub written_none : (f : ℕ → List ℕ) (xs : List ℕ) → Written f xs xs 0
unfolding joined
written_none f xs = record { blocks = record { long = λ j lt. absurd (omega arith) }; long = refl; text = refl }

-- what the next block is read as
pub written_read : (f : ℕ → List ℕ) (xs now : List ℕ) (i k : ℕ) → Written f xs now i → k ≡ 16 → take k (drop (16 * i) now) ≡ text_block xs i
written_read f xs now i k w e = ap (λ (l : List ℕ). take k (drop (16 * i) l)) w.text ∙ read_block f xs i k w.blocks e

pub written_more : (f : ℕ → List ℕ) (xs now ys : List ℕ) (i k : ℕ) → Written f xs now i → 16 * i + 16 ≤ length xs → k ≡ 16 → ys ≡ f i → length ys ≡ 16
    → Written f xs (put_mid (16 * i) k now ys) (i + 1)
written_more f xs now ys i k w room e made ly =
    let mid : length (mid_of (16 * i) k now) ≡ k = length-take-le k (drop (16 * i) now) (omega (arith, length-drop (16 * i) now, w.long)) in
    record {
      blocks = record { long = below_more (λ (j : ℕ). length (f j) ≡ 16) i w.blocks.long (sym (ap length made) ∙ ly) };
      long = same_len_mid (16 * i) k now ys (ly ∙ sym e ∙ sym mid) ∙ w.long;
      text = ap (λ (l : List ℕ). put_mid (16 * i) k l ys) w.text ∙ write_block f xs ys i k w.blocks e made;
    }

-- the rest after the last block
pub written_rest : (f : ℕ → List ℕ) (xs now : List ℕ) (n k : ℕ) → Written f xs now n → length xs ≤ 16 * n + k → take k (drop (16 * n) now) ≡ drop (16 * n) xs
written_rest f xs now n k w le = ap (λ (l : List ℕ). take k (drop (16 * n) l)) w.text ∙ read_tail f xs n k w.blocks le

pub written_all : (f : ℕ → List ℕ) (xs now ys : List ℕ) (n k : ℕ) → Written f xs now n → length xs ≤ 16 * n + k → put_mid (16 * n) k now ys ≡ joined f n ++ ys
written_all f xs now ys n k w le = ap (λ (l : List ℕ). put_mid (16 * n) k l ys) w.text ∙ write_tail f xs ys n k w.blocks le

-- what is written says that it is
pub written_as : (f : ℕ → List ℕ) (xs now : List ℕ) (n : ℕ) → AreBlocks f n → 16 * n ≤ length xs → now ≡ joined f n ++ drop (16 * n) xs → Written f xs now n
written_as f xs now n blocks room e = record {
  blocks = blocks;
  long = ap length e ∙ omega (arith, length-append (joined f n) (drop (16 * n) xs), length-joined f n blocks, length-drop (16 * n) xs);
  text = e;
}

-- a block not yet written is as it was
pub written_ahead : (f : ℕ → List ℕ) (xs now : List ℕ) (n m : ℕ) → Written f xs now n → n ≤ m → text_block now m ≡ text_block xs m
written_ahead f xs now n m w le =
    let d : ℕ = m - n in
    let at : 16 * n + 16 * d ≡ 16 * m = omega arith in
    let rest : drop (16 * n) now ≡ drop (16 * n) xs = ap (drop (16 * n)) w.text ∙ drop_at (joined f n) (drop (16 * n) xs) (16 * n) (length-joined f n w.blocks) in
    ap (take 16)
    (sym (drop-drop (16 * d) (16 * n) now ∙ ap (λ (k : ℕ). drop k now) at)
    ∙ ap (drop (16 * d)) rest ∙ drop-drop (16 * d) (16 * n) xs ∙ ap (λ (k : ℕ). drop k xs) at)

-- ---- many blocks in one step

pub joined_after : (f : ℕ → List ℕ) (i m : ℕ) → joined f (i + m) ≡ joined f i ++ joined (λ j. f (i + j)) m
unfolding joined
joined_after f i zero =
    let e : i + 0 ≡ i = omega arith in
    ap (joined f) e ∙ sym (append-nil (joined f i))
joined_after f i (suc m) =
    let e : i + suc m ≡ suc (i + m) = omega arith in
    ap (joined f) e ∙ ap (λ (l : List ℕ). l ++ f (i + m)) (joined_after f i m) ∙ append_assoc (joined f i) (joined (λ j. f (i + j)) m) (f (i + m))

-- the next m blocks, written at once
pub written_many : (f : ℕ → List ℕ) (xs now ys : List ℕ) (i m a k : ℕ) → Written f xs now i → 16 * (i + m) ≤ length xs → a ≡ 16 * i → k ≡ 16 * m
    → ys ≡ joined (λ j. f (i + j)) m → AreBlocks (λ j. f (i + j)) m → Written f xs (put_mid a k now ys) (i + m)
written_many f xs now ys i m a k w room ea ek made more =
    let ly : length ys ≡ 16 * m = ap length made ∙ length-joined (λ j. f (i + j)) m more in
    let mid : length (mid_of a k now) ≡ k = length-take-le k (drop a now) (omega (arith, length-drop a now, w.long)) in
    let len : length (joined f i) ≡ a = length-joined f i w.blocks ∙ sym ea in
    let at : drop (16 * i) xs ≡ drop a xs = ap (λ (n : ℕ). drop n xs) (sym ea) in
    let text : now ≡ joined f i ++ drop a xs = w.text ∙ ap (λ (l : List ℕ). joined f i ++ l) at in
    let end : a + k ≡ 16 * (i + m) = omega arith in
    let rest : post_of a k (joined f i ++ drop a xs) ≡ drop (16 * (i + m)) xs =
    ap (drop k) (drop_at (joined f i) (drop a xs) a len) ∙ drop-drop k a xs ∙ ap (λ (n : ℕ). drop n xs) end in
    record {
      blocks = record { long = λ j lt. far j lt (cases_lt j i) };
      long = same_len_mid a k now ys (ly ∙ sym ek ∙ sym mid) ∙ w.long;
      text = ap (λ (l : List ℕ). put_mid a k l ys) text
          ∙ (λ t. take_at (joined f i) (drop a xs) a len t ++ (made t ++ rest t))
          ∙ sym (append_assoc (joined f i) (joined (λ j. f (i + j)) m) (drop (16 * (i + m)) xs))
          ∙ ap (λ (l : List ℕ). l ++ drop (16 * (i + m)) xs) (sym (joined_after f i m));
    }
  where
    far : (j : ℕ) → j < i + m → (j < i) ⊎ (i ≤ j) → length (f j) ≡ 16
    far j lt (inl h) = w.blocks.long j h
    far j lt (inr h) =
        let e : i + (j - i) ≡ j = omega arith in
        ap (λ (n : ℕ). length (f n)) (sym e) ∙ more.long (j - i) (omega arith)
