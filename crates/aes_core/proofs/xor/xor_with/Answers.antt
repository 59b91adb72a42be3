use Rattle.std.proofs.Common.{◌≡◌, ℕ, List, ◌<◌, length, set, get_or, bit_xor, ap, ap₂, ◌∙◌, arith}
use Rattle.aes_core.proofs.Loops.{xored_all, xored_at, xored_more}
use Rattle.aes_core.proofs.xor.xor_with.Goals as goal

pub loop-i-preserved : goal.loop-i-preserved
loop-i-preserved c =
    let xs : List ℕ = c.args.to.now in
    let ys : List ℕ = c.args.with.now in
    let i : ℕ = c.loop-i.i in
    let lt : i < length xs = omega arith in
    let value : bit_xor (get_or c.loop-i.to i 0) (get_or ys i 0) ≡ bit_xor (get_or xs i 0) (get_or ys i 0) =
    ap (λ (n : ℕ). bit_xor n (get_or ys i 0)) (ap (λ (l : List ℕ). get_or l i 0) c.loop-i.invariant ∙ xored_at xs ys i c.requires lt) in
    ap₂ (λ (l : List ℕ) (v : ℕ). set l i v) c.loop-i.invariant value ∙ xored_more xs ys i c.requires lt

pub returns : goal.returns
returns c = c.loop-i.invariant ∙ xored_all c.args.to.now c.args.with.now c.loop-i.i c.requires (omega arith)
