use Rattle.std.proofs.Common.{◌≡◌, ℕ, List, [], ◌+◌, ◌-◌, ◌*◌, ◌/◌, ◌%◌, ◌^◌, ◌<◌, ◌≤◌, ◌++◌, length, get_or, take, drop, bit_xor, sym, ap, ap₂, ◌∙◌, arith}
use Rattle.std.specs.Int.{to_be_bytes, w128}
use Rattle.std.proofs.lemmas.List.{drop-drop}
use Rattle.std.proofs.lemmas.Simd.{length-zip2}
use borrow.Rule.Slice.PartMut.{put_mid}
use Rattle.aes_core.specs.Cipher.{encrypted, xored}
use Rattle.aes_core.specs.Modes.{text_block, joined}
use Rattle.aes_core.specs.Planes.{ArePlanes}
use Rattle.aes_core.proofs.BlockLoop.{Written, length-text_block, written_ahead, written_many, written_none}
use Rattle.aes_core.proofs.ModeLaws.{joined_same}
use Rattle.aes_core.proofs.WordKeys.{part_of_front}
use Rattle.aes_core.proofs.modes.apply_eights.Goals as goal

-- a block of a part is a block of the whole
block_of_part : (now : List ℕ) (a k n : ℕ) → 16 * k + 16 ≤ n → text_block (take n (drop (16 * a) now)) k ≡ text_block now (a + k)
block_of_part now a k n le =
    let e : 16 * a + 16 * k ≡ 16 * (a + k) = omega arith in
    part_of_front (drop (16 * a) now) (16 * k) 16 n le
    ∙ ap (take 16) (drop-drop (16 * k) (16 * a) now ∙ ap (λ (m : ℕ). drop m now) e)

-- eight blocks on
eight_more : (g : ℕ → List ℕ) (xs now ys : List ℕ) (stream : List (List ℕ)) (i a n k : ℕ)
    → Written (λ j. xored (text_block xs j) (g j)) xs now (8 * i) → 128 * i + 128 ≤ length xs → a ≡ 16 * (8 * i) → n ≡ 128 → k ≡ 128
    → ArePlanes stream → ((k : ℕ) → k < 8 → get_or stream k [] ≡ g (8 * i + k))
    → ys ≡ joined (λ k. xored (text_block (take n (drop a now)) k) (get_or stream k [])) 8
    → Written (λ j. xored (text_block xs j) (g j)) xs (put_mid a k now ys) (8 * (i + 1))
eight_more g xs now ys stream i a n k w room ea en ek planes streamed made =
    let f = λ (j : ℕ). xored (text_block xs j) (g j) in
    let part : (k : ℕ) → k < 8 → text_block (take n (drop a now)) k ≡ text_block xs (8 * i + k) =
    λ k lt. ap (λ (m : ℕ). text_block (take n (drop m now)) k) ea ∙ block_of_part now (8 * i) k n (omega arith)
    ∙ written_ahead f xs now (8 * i) (8 * i + k) w (omega arith) in
    let is : ys ≡ joined (λ k. f (8 * i + k)) 8 =
    made ∙ joined_same (λ k. xored (text_block (take n (drop a now)) k) (get_or stream k [])) (λ k. f (8 * i + k)) 8
    (λ k lt. ap₂ (λ (x y : List ℕ). xored x y) (part k lt) (streamed k lt)) in
    let long : (k : ℕ) → k < 8 → length (f (8 * i + k)) ≡ 16 =
    λ k lt.
    let lb : length (text_block xs (8 * i + k)) ≡ 16 = length-text_block xs (8 * i + k) (omega arith) in
    let lg : length (g (8 * i + k)) ≡ 16 = ap length (sym (streamed k lt)) ∙ planes.long k lt in
    length-zip2 bit_xor (text_block xs (8 * i + k)) (g (8 * i + k)) (lb ∙ sym lg) ∙ lb in
    let e : 8 * i + 8 ≡ 8 * (i + 1) = omega arith in
    rw (← e) (written_many f xs now ys (8 * i) 8 a k w (omega arith) ea ek is (record { long = long }))

pub returns-then-bytes-lt128 : goal.returns-then-bytes-lt128
returns-then-bytes-lt128 c =
    let xs : List ℕ = c.args.bytes.now in
    let f = λ (j : ℕ). xored (text_block xs j) (encrypted c.args.key.now (to_be_bytes w128 ((c.args.start + j) % 2 ^ 128))) in
    let e : 0 ≡ length xs / 128 = omega arith in
    (written_none f xs).text ∙ ap (λ (n : ℕ). joined f (8 * n) ++ drop (128 * n) xs) e

pub loop-i-init : goal.loop-i-init
loop-i-init c = written_none _ c.args.bytes.now

pub loop-i-preserved : goal.loop-i-preserved
loop-i-preserved c =
    let i : ℕ = c.loop-i.i in
    let g = λ (j : ℕ). encrypted c.args.key.now (to_be_bytes w128 ((c.args.start + j) % 2 ^ 128)) in
    eight_more g c.args.bytes.now c.loop-i.bytes c.xor_eight.new.to c.stream_eight-stream.result i (128 * i) (128 * i + 128 - 128 * i) (128 * i + 128 - 128 * i)
    c.loop-i.invariant (omega arith) (omega arith) (omega arith) (omega arith) c.stream_eight-stream.ensures.planes c.stream_eight-stream.ensures.value c.xor_eight.ensures

pub returns : goal.returns
returns c =
    let xs : List ℕ = c.args.bytes.now in
    let f = λ (j : ℕ). xored (text_block xs j) (encrypted c.args.key.now (to_be_bytes w128 ((c.args.start + j) % 2 ^ 128))) in
    let e : c.loop-i.i ≡ length xs / 128 = omega arith in
    let m : 16 * (8 * (length xs / 128)) ≡ 128 * (length xs / 128) = omega arith in
    c.loop-i.invariant.text ∙ ap (λ (n : ℕ). joined f (8 * n) ++ drop (16 * (8 * n)) xs) e
    ∙ ap (λ (n : ℕ). joined f (8 * (length xs / 128)) ++ drop n xs) m
