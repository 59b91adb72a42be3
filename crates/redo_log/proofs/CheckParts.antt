-- A checkpoint is put together part by part.
use Rattle.std.proofs.Common.{◌≡◌, ℕ, List, [], ◌++◌, length, take, drop, refl, sym, ap, ◌∙◌, arith, length-append, length-drop, append_assoc}
use Rattle.std.proofs.lemmas.List.{take_at, drop_all, append-nil}
use Rattle.std.specs.Int.{to_be_bytes, w32, w64}
use Rattle.std.specs.Prelude.{codes}
use Rattle.bytes_core.specs.Crc.{crc32c}
use Rattle.byte_list.specs.Bytes.{put, zeros}
use Rattle.byte_list.proofs.RangeLaws.{length-zeros}
use Rattle.store_files.specs.Checkpoint.{checkpoint_front, checkpoint_bytes}
use Rattle.redo_log.specs.Check.{check_words, check_bytes}
use Rattle.byte_list.proofs.PutLaws.{put_next}

-- the bytes before the checksum, as they are written
unfoldable pub check_front : ℕ → ℕ → List ℕ
check_front sequence from = check_words sequence from ++ zeros 4068

front_is : (sequence from : ℕ) → check_front sequence from ≡ checkpoint_front (record { sequence = sequence; from = from })
unfolding check_front check_words checkpoint_front
front_is sequence from =
    append_assoc (codes "KEYCHK01") (to_be_bytes w64 sequence ++ to_be_bytes w64 from) (zeros 4068)
    ∙ ap (λ (l : List ℕ). codes "KEYCHK01" ++ l) (append_assoc (to_be_bytes w64 sequence) (to_be_bytes w64 from) (zeros 4068))

pub check_sealed : (sequence from : ℕ) → check_bytes sequence from ≡ check_front sequence from ++ to_be_bytes w32 (crc32c (check_front sequence from))
unfolding checkpoint_bytes
check_sealed sequence from = ap (λ (l : List ℕ). l ++ to_be_bytes w32 (crc32c l)) (sym (front_is sequence from))

length-words : (sequence from : ℕ) → length (check_words sequence from) ≡ 24
unfolding check_words
length-words sequence from = refl

pub length-check_front : (sequence from : ℕ) → length (check_front sequence from) ≡ 4092
unfolding check_front
length-check_front sequence from = omega (arith, length-append (check_words sequence from) (zeros 4068), length-words sequence from, length-zeros 4068)

-- the first bytes, once they are written
pub check_begun : (sequence from : ℕ) (x : List ℕ) → put 24 (zeros 4068) (put 0 (check_words sequence from) x) ≡ check_front sequence from ++ drop 4068 (drop 24 x)
unfolding check_front
check_begun sequence from x =
    let words = check_words sequence from in
    ap (put 24 (zeros 4068)) (put_next 0 [] words x refl)
    ∙ ap (λ (k : ℕ). put 24 (zeros 4068) (words ++ drop k x)) (length-words sequence from)
    ∙ put_next 24 words (zeros 4068) (drop 24 x) (length-words sequence from)
    ∙ ap (λ (k : ℕ). words ++ (zeros 4068 ++ drop k (drop 24 x))) (length-zeros 4068)
    ∙ sym (append_assoc words (zeros 4068) (drop 4068 (drop 24 x)))

pub check_read : (sequence from : ℕ) (x : List ℕ) → take 4092 (drop 0 (put 24 (zeros 4068) (put 0 (check_words sequence from) x))) ≡ check_front sequence from
check_read sequence from x =
    ap (λ (l : List ℕ). take 4092 l) (check_begun sequence from x) ∙ take_at (check_front sequence from) (drop 4068 (drop 24 x)) 4092 (length-check_front sequence from)

-- and the checksum behind them
pub check_built : (sequence from : ℕ) (x : List ℕ) → length x ≡ 4096 → put 4092 (to_be_bytes w32 (crc32c (check_front sequence from))) (put 24 (zeros 4068) (put 0 (check_words sequence from) x)) ≡ check_bytes sequence from
check_built sequence from x size =
    let front = check_front sequence from in
    let sum = to_be_bytes w32 (crc32c front) in
    let rest = drop 4068 (drop 24 x) in
    let four : length sum ≡ 4 = refl in
    let none : drop (length sum) rest ≡ [] = drop_all (length sum) rest (omega (arith, size, four, length-drop 4068 (drop 24 x), length-drop 24 x)) in
    ap (put 4092 sum) (check_begun sequence from x)
    ∙ put_next 4092 front sum rest (length-check_front sequence from)
    ∙ ap (λ (l : List ℕ). front ++ (sum ++ l)) none
    ∙ ap (λ (l : List ℕ). front ++ l) (append-nil sum)
    ∙ sym (check_sealed sequence from)
