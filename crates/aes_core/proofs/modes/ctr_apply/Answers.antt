use Rattle.std.proofs.Common.{◌≡◌, ℕ, List, length, ◌+◌, ◌-◌, ◌*◌, ◌/◌, ◌%◌, ◌^◌, ◌≤◌, ◌++◌, take, drop, length-drop, refl, sym, ap, ap₂, ◌∙◌, arith}
use Rattle.std.specs.Int.{to_be_bytes, w128}
use borrow.Author.Count.{below_more}
use borrow.Rule.Slice.PartMut.{put_mid}
use Rattle.aes_core.specs.Cipher.{encrypted, xored}
use Rattle.aes_core.specs.Modes.{text_block, counter_at, ctr, joined, whole_blocks}
use Rattle.std.proofs.Common.{bit_xor}
use Rattle.std.proofs.lemmas.Simd.{length-zip2}
use Rattle.aes_core.proofs.BlockLoop.{AreBlocks, Written, length-text_block, written_all, written_as, written_more, written_read, written_rest}
use Rattle.aes_core.proofs.Loops.{xored_front}
use Rattle.aes_core.proofs.ModeLaws.{ctr_is, ctr_twice, stream_blocks}
use Rattle.aes_core.proofs.modes.ctr_apply.Goals as goal

-- the stream and what is written, up to block n
record Reached (key counter xs now : List ℕ) (n : ℕ) : Type 0 where
  blocks : AreBlocks (λ j. encrypted key (counter_at counter j)) n
  text : Written (λ j. xored (text_block xs j) (encrypted key (counter_at counter j))) xs now n

-- one block on
one_more : (key counter xs now s ys : List ℕ) (n m k j : ℕ) → Reached key counter xs now n → m ≡ n → 16 * n + 16 ≤ length xs → k ≡ 16 → j ≡ 16
    → s ≡ encrypted key (counter_at counter m) → length s ≡ 16 → ys ≡ xored (take j (drop (16 * m) now)) s
    → Reached key counter xs (put_mid (16 * m) k now ys) (n + 1)
one_more key counter xs now s ys n m k j r em room ek ej made ls written =
    let g = λ (j : ℕ). encrypted key (counter_at counter j) in
    let f = λ (j : ℕ). xored (text_block xs j) (g j) in
    let made_n : s ≡ g n = made ∙ ap g em in
    let is : ys ≡ f n = written ∙ ap₂ (λ (a b : List ℕ). xored a b) (ap (λ (i : ℕ). take j (drop (16 * i) now)) em ∙ written_read f xs now n j r.text ej) made_n in
    let lg : length (g n) ≡ 16 = sym (ap length made_n) ∙ ls in
    let lb : length (text_block xs n) ≡ 16 = length-text_block xs n room in
    let ly : length ys ≡ 16 = ap length is ∙ length-zip2 bit_xor (text_block xs n) (g n) (lb ∙ sym lg) ∙ lb in
    record {
      blocks = record { long = below_more (λ (j : ℕ). length (g j) ≡ 16) n r.blocks.long lg };
      text = rw em (written_more f xs now ys n k r.text room ek is ly);
    }

at_place : (key counter xs now : List ℕ) (n m : ℕ) → n ≡ m → Reached key counter xs now n → Reached key counter xs now m
at_place key counter xs now n m e r = rw (← e) r

pub fours-init : goal.fours-init
fours-init c =
    let key : List ℕ = c.args.key.now in
    let xs : List ℕ = c.args.bytes.now in
    let counter : List ℕ = c.args.counter.now in
    let n : ℕ = 8 * (length xs / 128) in
    let g = λ (j : ℕ). encrypted key (counter_at counter j) in
    let f = λ (j : ℕ). xored (text_block xs j) (g j) in
    let blocks : AreBlocks g n = stream_blocks key counter c.known.ensures n in
    let each : AreBlocks f n = record {
      long = λ j lt.
          let lb : length (text_block xs j) ≡ 16 = length-text_block xs j (omega arith) in
          let lg : length (g j) ≡ 16 = blocks.long j lt in
          length-zip2 bit_xor (text_block xs j) (g j) (lb ∙ sym lg) ∙ lb;
    } in
    let same : 128 * (length xs / 128) ≡ 16 * n = omega arith in
    let made : c.apply_eights.new.bytes ≡ joined f n ++ drop (16 * n) xs =
    c.apply_eights.ensures
    ∙ ap (λ (s : ℕ). joined (λ j. xored (text_block xs j) (encrypted key (to_be_bytes w128 ((s + j) % 2 ^ 128)))) n ++ drop (128 * (length xs / 128)) xs) c.from_be_bytes-start.ensures
    ∙ ap (λ (m : ℕ). joined f n ++ drop m xs) same in
    let e : n ≡ 4 * (2 * (length xs / 128)) = omega arith in
    let r = at_place key counter xs c.apply_eights.new.bytes n (4 * (2 * (length xs / 128))) e (record { blocks = blocks; text = written_as f xs c.apply_eights.new.bytes n each (omega arith) made }) in
    (r.blocks, r.text)

pub fours-preserved : goal.fours-preserved
fours-preserved c =
    let key : List ℕ = c.args.key.now in
    let xs : List ℕ = c.args.bytes.now in
    let counter : List ℕ = c.args.counter.now in
    let i : ℕ = c.fours.i in
    let stream : (n v : ℕ) → v ≡ c.from_be_bytes-start.result → to_be_bytes w128 ((v + n) % 2 ^ 128) ≡ counter_at counter n =
    λ n v e. ap (λ (m : ℕ). to_be_bytes w128 ((m + n) % 2 ^ 128)) (e ∙ c.from_be_bytes-start.ensures) in
    let sa = c.stream_block-a.ensures ∙ ap (encrypted key) (stream (4 * i) _ refl) in
    let sb = c.stream_block-b.ensures ∙ ap (encrypted key) (stream (4 * i + 1) _ refl) in
    let sc = c.stream_block-c.ensures ∙ ap (encrypted key) (stream (4 * i + 2) _ refl) in
    let sd = c.stream_block-d.ensures ∙ ap (encrypted key) (stream (4 * i + 3) _ refl) in
    let room : 16 * (4 * i) + 64 ≤ length xs = omega arith in
    let r0 : Reached key counter xs c.fours.bytes (4 * i) = record { blocks = c.fours.invariant.0; text = c.fours.invariant.1 } in
    let r1 = one_more key counter xs c.fours.bytes c.stream_block-a.result c.xor_sixteen.new.to (4 * i) (4 * i) (16 * (4 * i) + 16 - 16 * (4 * i)) (16 * (4 * i) + 16 - 16 * (4 * i)) r0
    refl (omega arith) (omega arith) (omega arith) sa (omega arith) c.xor_sixteen.ensures in
    let r2 = one_more key counter xs _ c.stream_block-b.result c.xor_sixteen-in-fours.new.to (4 * i + 1) (4 * i + 1) (16 * (4 * i + 1) + 16 - 16 * (4 * i + 1)) (16 * (4 * i + 1) + 16 - 16 * (4 * i + 1)) r1
    refl (omega arith) (omega arith) (omega arith) sb (omega arith) c.xor_sixteen-in-fours.ensures in
    let r3 = one_more key counter xs _ c.stream_block-c.result c.xor_sixteen-in-fours-2.new.to (4 * i + 1 + 1) (4 * i + 2) (16 * (4 * i + 2) + 16 - 16 * (4 * i + 2)) (16 * (4 * i + 2) + 16 - 16 * (4 * i + 2)) r2
    (omega arith) (omega arith) (omega arith) (omega arith) sc (omega arith) c.xor_sixteen-in-fours-2.ensures in
    let r4 = one_more key counter xs _ c.stream_block-d.result c.xor_sixteen-in-fours-3.new.to (4 * i + 1 + 1 + 1) (4 * i + 3) (16 * (4 * i + 3) + 16 - 16 * (4 * i + 3)) (16 * (4 * i + 3) + 16 - 16 * (4 * i + 3)) r3
    (omega arith) (omega arith) (omega arith) (omega arith) sd (omega arith) c.xor_sixteen-in-fours-3.ensures in
    let e : 4 * i + 1 + 1 + 1 + 1 ≡ 4 * (i + 1) = omega arith in
    let r = at_place key counter xs _ (4 * i + 1 + 1 + 1 + 1) (4 * (i + 1)) e r4 in
    (r.blocks, r.text)

pub rest-init : goal.rest-init
rest-init c =
    let e : 4 * c.fours.i ≡ 4 * (length c.args.bytes.now / 64) = omega arith in
    let r = at_place c.args.key.now c.args.counter.now c.args.bytes.now c.fours.bytes (4 * c.fours.i) _ e (record { blocks = c.fours.invariant.0; text = c.fours.invariant.1 }) in
    (r.blocks, r.text)

pub rest-preserved : goal.rest-preserved
rest-preserved c =
    let key : List ℕ = c.args.key.now in
    let xs : List ℕ = c.args.bytes.now in
    let counter : List ℕ = c.args.counter.now in
    let k : ℕ = c.rest.k in
    let made = c.stream_block-block.ensures ∙ ap (λ (m : ℕ). encrypted key (to_be_bytes w128 ((m + k) % 2 ^ 128))) c.from_be_bytes-start.ensures in
    let r = one_more key counter xs c.rest.bytes c.stream_block-block.result c.xor_sixteen-in-rest.new.to k k (16 * k + 16 - 16 * k) (16 * k + 16 - 16 * k) (record { blocks = c.rest.invariant.0; text = c.rest.invariant.1 })
    refl (omega arith) (omega arith) (omega arith) made (omega arith) c.xor_sixteen-in-rest.ensures in
    (r.blocks, r.text)

pub returns : goal.returns
returns c =
    let key : List ℕ = c.args.key.now in
    let xs : List ℕ = c.args.bytes.now in
    let counter : List ℕ = c.args.counter.now in
    let n : ℕ = whole_blocks xs in
    let g = λ (j : ℕ). encrypted key (counter_at counter j) in
    let f = λ (j : ℕ). xored (text_block xs j) (g j) in
    let e : c.rest.k ≡ n = omega arith in
    let blocks : AreBlocks g n = rw e at c.rest.invariant.0 in
    let w : Written f xs c.rest.bytes n = rw e at c.rest.invariant.1 in
    let long : length c.rest.bytes ≡ length xs = w.long in
    let stream : c.stream_block-last.result ≡ g n =
    c.stream_block-last.ensures ∙ ap (λ (m : ℕ). encrypted key (to_be_bytes w128 ((m + n) % 2 ^ 128))) c.from_be_bytes-start.ensures in
    let rest : List ℕ = drop (16 * n) xs in
    let short : length rest ≡ length xs - 16 * n = length-drop (16 * n) xs in
    let last : c.xor_with.new.to ≡ xored rest (g n) =
    c.xor_with.ensures
    ∙ ap₂ (λ (a b : List ℕ). xored a b) (written_rest f xs c.rest.bytes n _ w (omega arith)) refl
    ∙ xored_front rest c.stream_block-last.result _ (omega arith) ∙ ap (xored rest) stream in
    let value = written_all f xs c.rest.bytes c.xor_with.new.to n _ w (omega arith) ∙ ap (λ (t : List ℕ). joined f n ++ t) last ∙ ctr_is key counter xs n refl blocks in
    let twice : (p : List ℕ) → ctr key counter (ctr key counter p) ≡ p = λ p. ctr_twice key counter p (stream_blocks key counter c.known.ensures (whole_blocks p + 1)) in
    record { value = value; inverse = ap (ctr key counter) value ∙ twice xs; undoes = λ p was. value ∙ ap (ctr key counter) was ∙ twice p }
