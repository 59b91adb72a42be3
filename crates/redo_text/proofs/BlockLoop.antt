-- Blocks of 4096 bytes, one after the other.
use Rattle.std.proofs.Common.{◌≡◌, ℕ, zero, suc, ◌+◌, ◌-◌, ◌*◌, ◌<◌, ◌≤◌, List, ◌++◌, length, sym, ap, ◌∙◌, arith, length-append, append_assoc, subst, ⊎_elim}
use Rattle.std.proofs.lemmas.List.{append-nil}
use Rattle.std.proofs.lemmas.Bool.{cases_lt}
use Rattle.aes_core.specs.Modes.{joined}
use Rattle.byte_list.specs.Bytes.{put, range, zeros}
use Rattle.byte_list.proofs.PutLaws.{put_at}
use Rattle.byte_list.proofs.RangeLaws.{length-zeros, range_at}
use Rattle.redo_text.specs.Block.{AreOf}
use Rattle.redo_text.proofs.BlockWrites.{zeros-add}
use Rattle.aes_core.proofs.BlockLoop.{joined_more, joined_after}

pub length-joined : (size : ℕ) (f : ℕ → List ℕ) (n : ℕ) → AreOf size f n → length (joined f n) ≡ size * n
unfolding joined
length-joined size f zero are = let none : 0 ≡ size * 0 = omega arith in none
length-joined size f (suc n) are =
    let before : length (joined f n) ≡ size * n = length-joined size f n (record { long = λ k lt. are.long k (omega arith) }) in
    let more : size * suc n ≡ size * n + size = omega arith in
    omega (arith, length-append (joined f n) (f n), before, are.long n (omega arith), more)

-- one more of them
pub are_more : (size : ℕ) (f : ℕ → List ℕ) (k : ℕ) → AreOf size f k → length (f k) ≡ size → AreOf size f (k + 1)
are_more size f k are long = record { long = λ j lt. ⊎_elim (λ (less : j < k). are.long j less) (λ (past : k ≤ j). let same : k ≡ j = omega arith in subst (λ (i : ℕ). length (f i) ≡ size) same long) (cases_lt j k) }

-- one more is written over zero bytes
pub joined_write : (size : ℕ) (f : ℕ → List ℕ) (n k : ℕ) (block : List ℕ) → AreOf size f k → k < n → length block ≡ size → block ≡ f k
    → put (size * k) block (joined f k ++ zeros (size * (n - k))) ≡ joined f (k + 1) ++ zeros (size * (n - (k + 1)))
joined_write size f n k block are lt long is =
    let left : n - k ≡ n - (k + 1) + 1 = omega arith in
    let all : size * (n - k) ≡ size + size * (n - (k + 1)) = ap (λ (m : ℕ). size * m) left ∙ omega arith in
    ap (λ (m : ℕ). put (size * k) block (joined f k ++ zeros m)) all
    ∙ ap (λ (l : List ℕ). put (size * k) block (joined f k ++ l)) (zeros-add size (size * (n - (k + 1))))
    ∙ put_at (joined f k) (zeros size) (zeros (size * (n - (k + 1)))) block (size * k) (length-joined size f k are) (length-zeros size ∙ sym long)
    ∙ ap (λ (l : List ℕ). joined f k ++ (l ++ zeros (size * (n - (k + 1))))) is
    ∙ sym (append_assoc (joined f k) (f k) (zeros (size * (n - (k + 1)))))
    ∙ ap (λ (l : List ℕ). l ++ zeros (size * (n - (k + 1)))) (sym (joined_more f k))

-- the next one is zero bytes before it is written
pub joined_next : (size : ℕ) (f : ℕ → List ℕ) (n k : ℕ) → AreOf size f k → k < n → range (size * k) size (joined f k ++ zeros (size * (n - k))) ≡ zeros size
joined_next size f n k are lt =
    let left : n - k ≡ n - (k + 1) + 1 = omega arith in
    let all : size * (n - k) ≡ size + size * (n - (k + 1)) = ap (λ (m : ℕ). size * m) left ∙ omega arith in
    ap (λ (l : List ℕ). range (size * k) size (joined f k ++ l)) (ap zeros all ∙ zeros-add size (size * (n - (k + 1))))
    ∙ range_at (joined f k) (zeros size) (zeros (size * (n - (k + 1)))) (size * k) size (length-joined size f k are) (length-zeros size)

-- at the end no zero byte is left
pub joined_done : (size : ℕ) (f : ℕ → List ℕ) (n k : ℕ) → n ≡ k → joined f k ++ zeros (size * (n - k)) ≡ joined f n
unfolding zeros
joined_done size f n k e =
    let none : size * (n - k) ≡ 0 = ap (λ (m : ℕ). size * m) (let z : n - k ≡ 0 = omega (arith, e) in z) ∙ omega arith in
    ap (λ (m : ℕ). joined f k ++ zeros m) none ∙ append-nil (joined f k) ∙ ap (joined f) (sym e)

-- block k of those that are joined
pub range-joined : (size : ℕ) (f : ℕ → List ℕ) (n k : ℕ) → AreOf size f n → k < n → range (size * k) size (joined f n) ≡ f k
range-joined size f n k are lt =
    let before : length (joined f k) ≡ size * k = length-joined size f k (record { long = λ j less. are.long j (omega arith) }) in
    let all : n ≡ k + 1 + (n - (k + 1)) = omega arith in
    ap (λ (m : ℕ). range (size * k) size (joined f m)) all
    ∙ ap (range (size * k) size) (joined_after f (k + 1) (n - (k + 1)) ∙ ap (λ (l : List ℕ). l ++ joined (λ j. f (k + 1 + j)) (n - (k + 1))) (joined_more f k) ∙ append_assoc (joined f k) (f k) (joined (λ j. f (k + 1 + j)) (n - (k + 1))))
    ∙ range_at (joined f k) (f k) (joined (λ j. f (k + 1 + j)) (n - (k + 1))) (size * k) size before (are.long k lt)
