use Rattle.std.proofs.Common.{◌≡◌, ℕ, List, [], ◌+◌, ◌*◌, ◌-◌, ◌++◌, length, get_or, drop, bit_xor, refl, sym, ap, ap₂, ◌∙◌, arith}
use Rattle.std.proofs.lemmas.List.{append-nil, drop_all}
use Rattle.std.proofs.lemmas.Simd.{length-zip2}
use Rattle.aes_core.specs.Cipher.{xored}
use Rattle.aes_core.specs.Modes.{text_block, joined}
use Rattle.aes_core.proofs.BlockLoop.{length-text_block, written_more, written_none, written_read}
use Rattle.aes_core.proofs.modes.xor_eight.Goals as goal

pub loop-k-init : goal.loop-k-init
loop-k-init c = written_none (λ k. xored (text_block c.args.to.now k) (get_or c.args.with.now k [])) c.args.to.now

pub loop-k-preserved : goal.loop-k-preserved
loop-k-preserved c =
    let xs : List ℕ = c.args.to.now in
    let k : ℕ = c.loop-k.k in
    let f = λ (j : ℕ). xored (text_block xs j) (get_or c.args.with.now j []) in
    let width : 16 * k + 16 - 16 * k ≡ 16 = omega arith in
    let made : c.xor_lanes.new.to ≡ f k =
    c.xor_lanes.ensures ∙ ap₂ (λ (a b : List ℕ). xored a b) (written_read f xs c.loop-k.to k _ c.loop-k.invariant width) refl in
    let lb : length (text_block xs k) ≡ 16 = length-text_block xs k (omega arith) in
    let lw : length (get_or c.args.with.now k []) ≡ 16 = c.requires.blocks.long k (omega arith) in
    let long : length c.xor_lanes.new.to ≡ 16 = ap length made ∙ length-zip2 bit_xor (text_block xs k) (get_or c.args.with.now k []) (lb ∙ sym lw) ∙ lb in
    written_more f xs c.loop-k.to c.xor_lanes.new.to k _ c.loop-k.invariant (omega arith) width made long

pub returns : goal.returns
returns c =
    let xs : List ℕ = c.args.to.now in
    let f = λ (j : ℕ). xored (text_block xs j) (get_or c.args.with.now j []) in
    let e : c.loop-k.k ≡ 8 = omega arith in
    c.loop-k.invariant.text
    ∙ ap (λ (n : ℕ). joined f n ++ drop (16 * n) xs) e
    ∙ ap (λ (l : List ℕ). joined f 8 ++ l) (drop_all 128 xs (omega arith)) ∙ append-nil (joined f 8)
