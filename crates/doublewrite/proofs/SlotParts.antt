-- A slot is put together part by part.
use Rattle.std.proofs.Common.{◌≡◌, ℕ, List, [], ◌++◌, length, take, drop, refl, sym, ap, ◌∙◌, arith, length-append, length-drop, append_assoc}
use Rattle.std.proofs.lemmas.List.{take_at, drop_all, append-nil}
use Rattle.std.specs.Int.{to_be_bytes, w32}
use Rattle.bytes_core.specs.Crc.{crc32c}
use Rattle.disk_model.specs.Event.{put, zeros}
use Rattle.page_places.specs.Texts.{slot_words, slot_front, slot_bytes}
use Rattle.byte_list.proofs.RangeLaws.{length-zeros}
use Rattle.page_places.proofs.Texts.{length-front, length-words}
use Rattle.byte_list.proofs.PutLaws.{put_next}

-- the head, once it is written
pub front_built : (space page batch : ℕ) (x : List ℕ) → put 24 (zeros 484) (put 0 (slot_words space page batch) x) ≡ slot_front space page batch ++ drop 484 (drop 24 x)
unfolding slot_front
front_built space page batch x =
    let words = slot_words space page batch in
    ap (put 24 (zeros 484)) (put_next 0 [] words x refl)
    ∙ ap (λ (k : ℕ). put 24 (zeros 484) (words ++ drop k x)) (length-words space page batch)
    ∙ put_next 24 words (zeros 484) (drop 24 x) (length-words space page batch)
    ∙ ap (λ (k : ℕ). words ++ (zeros 484 ++ drop k (drop 24 x))) (length-zeros 484)
    ∙ sym (append_assoc words (zeros 484) (drop 484 (drop 24 x)))

-- and the checksum and the text behind it
pub slot_built : (space page batch : ℕ) (x text : List ℕ) → length x ≡ 16896 → length text ≡ 16384
    → put 512 text (put 508 (to_be_bytes w32 (crc32c (slot_front space page batch ++ text))) (put 24 (zeros 484) (put 0 (slot_words space page batch) x))) ≡ slot_bytes space page batch text
unfolding slot_bytes
slot_built space page batch x text size long =
    let front = slot_front space page batch in
    let sum = to_be_bytes w32 (crc32c (front ++ text)) in
    let rest = drop 484 (drop 24 x) in
    let left = drop (length sum) rest in
    let four : length sum ≡ 4 = refl in
    let none : drop (length text) left ≡ [] = drop_all (length text) left (omega (arith, size, long, four, length-drop (length sum) rest, length-drop 484 (drop 24 x), length-drop 24 x)) in
    ap (λ (l : List ℕ). put 512 text (put 508 sum l)) (front_built space page batch x)
    ∙ ap (put 512 text) (put_next 508 front sum rest (length-front space page batch) ∙ sym (append_assoc front sum left))
    ∙ put_next 512 (front ++ sum) text left (omega (arith, length-append front sum, four, length-front space page batch))
    ∙ ap (λ (l : List ℕ). front ++ sum ++ (text ++ l)) none
    ∙ ap (λ (l : List ℕ). front ++ sum ++ l) (append-nil text)
    ∙ append_assoc front sum text

pub front_read : (space page batch : ℕ) (x : List ℕ) → take 508 (drop 0 (put 24 (zeros 484) (put 0 (slot_words space page batch) x))) ≡ slot_front space page batch
front_read space page batch x =
    ap (λ (l : List ℕ). take 508 l) (front_built space page batch x) ∙ take_at (slot_front space page batch) (drop 484 (drop 24 x)) 508 (length-front space page batch)
