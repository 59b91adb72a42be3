use Rattle.std.proofs.Common.{◌≡◌, ℕ, suc, List, length, ◌+◌, ◌-◌, ◌*◌, ◌/◌, ◌++◌, bit_xor, refl, sym, ap, ap₂, ◌∙◌, arith, add-one}
use Rattle.std.specs.Int.{to_le_bytes, w128}
use Rattle.aes_core.specs.Cipher.{encrypted, xored}
use Rattle.aes_core.specs.Modes.{text_block, chain, joined}
use Rattle.aes_core.proofs.BigEndian.{le_xored}
use Rattle.aes_core.proofs.BlockLoop.{Written, written_all, written_more, written_none, written_read, written_rest}
use Rattle.aes_core.proofs.modes.cbc_tail_encrypt.Goals as goal

next : (key iv text : List ℕ) (n : ℕ) → encrypted key (xored (text_block text n) (chain key iv text n)) ≡ chain key iv text (suc n)
unfolding chain
next key iv text n = refl

first : (key iv text : List ℕ) → iv ≡ chain key iv text 0
unfolding chain
first key iv text = refl

pub loop-i-init : goal.loop-i-init
loop-i-init c =
    let f = λ (j : ℕ). chain c.args.key.now c.args.iv.now c.args.bytes.now (suc j) in (
      c.number_of-chain.ensures ∙ first c.args.key.now c.args.iv.now c.args.bytes.now,
      written_none f c.args.bytes.now,
    )

pub loop-i-preserved : goal.loop-i-preserved
loop-i-preserved c =
    let key : List ℕ = c.args.key.now in
    let iv : List ℕ = c.args.iv.now in
    let xs : List ℕ = c.args.bytes.now in
    let i : ℕ = c.loop-i.i in
    let f = λ (j : ℕ). chain key iv xs (suc j) in
    let w = c.loop-i.invariant.1 in
    let width : 16 * i + 16 - 16 * i ≡ 16 = omega arith in
    let mixed : to_le_bytes w128 (bit_xor c.number_of.result c.loop-i.chain) ≡ xored (text_block xs i) (chain key iv xs i) =
    le_xored c.number_of.result c.loop-i.chain
    ∙ ap₂ (λ (a b : List ℕ). xored a b) (c.number_of.ensures ∙ written_read f xs c.loop-i.bytes i _ w width) c.loop-i.invariant.0 in
    let made : to_le_bytes w128 c.encrypt_number-chain.result ≡ f i = c.encrypt_number-chain.ensures ∙ ap (encrypted key) mixed ∙ next key iv xs i in
    let stored : c.copy_from_slice.new.self ≡ f i = c.copy_from_slice.ensures.after ∙ c.to_le_bytes-block.ensures ∙ made in (
      made ∙ ap (chain key iv xs) (sym (add-one i)),
      written_more f xs c.loop-i.bytes c.copy_from_slice.new.self i _ w (omega arith) width stored (ap length (c.copy_from_slice.ensures.after ∙ c.to_le_bytes-block.ensures)),
    )

pub returns : goal.returns
returns c =
    let key : List ℕ = c.args.key.now in
    let iv : List ℕ = c.args.iv.now in
    let xs : List ℕ = c.args.bytes.now in
    let n : ℕ = length xs / 16 in
    let f = λ (j : ℕ). chain key iv xs (suc j) in
    let e : c.loop-i.i ≡ n = omega arith in
    let w : Written f xs c.loop-i.bytes n = rw e at c.loop-i.invariant.1 in
    let long : length c.loop-i.bytes ≡ length xs = w.long in
    written_all f xs c.loop-i.bytes c.mask_tail.new.tail n _ w (omega arith)
    ∙ ap (λ (t : List ℕ). joined f n ++ t)
    (c.mask_tail.ensures ∙ ap (λ (t : List ℕ). xored t (encrypted key iv)) (written_rest f xs c.loop-i.bytes n _ w (omega arith)))
