use Rattle.std.proofs.Common.{◌≡◌, ℕ, List, [], ◌+◌, ◌-◌, ◌*◌, ◌++◌, length, get_or, take, drop, sym, ap, ◌∙◌, length-drop, arith}
use Rattle.std.proofs.lemmas.List.{append-nil, drop_all, length-take-le}
use Rattle.std.proofs.lemmas.Simd.{put_chunk_whole}
use Rattle.aes_core.specs.Modes.{joined}
use Rattle.aes_core.proofs.BlockLoop.{written_more, written_none}
use Rattle.aes_core.proofs.modes.put_eight.Goals as goal

pub loop-k-init : goal.loop-k-init
loop-k-init c = written_none (λ k. get_or c.args.blocks.now k []) c.args.to.now

pub loop-k-preserved : goal.loop-k-preserved
loop-k-preserved c =
    let xs : List ℕ = c.args.to.now in
    let k : ℕ = c.loop-k.k in
    let f = λ (j : ℕ). get_or c.args.blocks.now j [] in
    let width : 16 * k + 16 - 16 * k ≡ 16 = omega arith in
    let long : length (f k) ≡ 16 = c.requires.blocks.long k (omega arith) in
    let part : List ℕ = take (16 * k + 16 - 16 * k) (drop (16 * k) c.loop-k.to) in
    let room : length part ≡ 16 =
    length-take-le (16 * k + 16 - 16 * k) (drop (16 * k) c.loop-k.to) (omega (arith, length-drop (16 * k) c.loop-k.to)) ∙ width in
    let made = put_chunk_whole part (f k) (room ∙ sym long) in
    written_more f xs c.loop-k.to _ k _ c.loop-k.invariant (omega arith) width made (ap length made ∙ long)

pub returns : goal.returns
returns c =
    let xs : List ℕ = c.args.to.now in
    let f = λ (j : ℕ). get_or c.args.blocks.now j [] in
    let e : c.loop-k.k ≡ 8 = omega arith in
    c.loop-k.invariant.text
    ∙ ap (λ (n : ℕ). joined f n ++ drop (16 * n) xs) e
    ∙ ap (λ (l : List ℕ). joined f 8 ++ l) (drop_all 128 xs (omega arith)) ∙ append-nil (joined f 8)
