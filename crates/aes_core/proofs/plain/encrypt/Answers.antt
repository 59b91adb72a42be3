use Rattle.std.proofs.Common.{◌≡◌, ℕ, suc, List, ◌+◌, ◌-◌, ap, ap₂, ◌∙◌, arith}
use Rattle.aes_core.specs.Cipher.{after_rounds, mix_columns, shift_rows, sub_bytes, xored}
use Rattle.aes_core.proofs.plain.encrypt.Goals as goal
use Rattle.aes_core.proofs.RoundSteps.{plain_key_at, after_more}

pub loop-r-init : goal.loop-r-init
unfolding after_rounds
loop-r-init c = c.xor_with.ensures

pub loop-r-preserved : goal.loop-r-preserved
loop-r-preserved c =
    let w : List ℕ = c.args.keys.now in
    let r : ℕ = c.loop-r.r in
    let e : r ≡ suc (r - 1) = omega arith in
    let f : r ≡ r + 1 - 1 = omega arith in
    c.round.ensures
    ∙ ap₂ (λ (s k : List ℕ). xored (mix_columns (shift_rows (sub_bytes s))) k) c.loop-r.invariant (plain_key_at w r)
    ∙ after_more w c.args.s.now (r - 1) r e ∙ ap (after_rounds w c.args.s.now) f

pub returns : goal.returns
returns c =
    let w : List ℕ = c.args.keys.now in
    let e : c.loop-r.r - 1 ≡ c.args.rounds - 1 = omega arith in
    c.xor_with-2.ensures
    ∙ ap₂ (λ (s k : List ℕ). xored s k)
    (c.shift_rows.ensures ∙ ap shift_rows (c.sub_bytes.ensures ∙ ap sub_bytes (c.loop-r.invariant ∙ ap (after_rounds w c.args.s.now) e)))
    (plain_key_at w c.args.rounds)
