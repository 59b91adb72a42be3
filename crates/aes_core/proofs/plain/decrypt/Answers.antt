use Rattle.std.proofs.Common.{◌≡◌, ℕ, suc, List, ◌+◌, ◌-◌, ap, ap₂, ◌∙◌, arith}
use Rattle.aes_core.specs.Cipher.{before_rounds, round_key, inv_mix_columns, inv_shift_rows, inv_sub_bytes, xored}
use Rattle.aes_core.proofs.plain.decrypt.Goals as goal
use Rattle.aes_core.proofs.RoundSteps.{plain_key_at, before_more}

pub loop-n-init : goal.loop-n-init
unfolding before_rounds
loop-n-init c = c.xor_with.ensures ∙ ap (xored c.args.s.now) (plain_key_at c.args.keys.now c.args.rounds)

pub loop-n-preserved : goal.loop-n-preserved
loop-n-preserved c =
    let w : List ℕ = c.args.keys.now in
    let n : ℕ = c.loop-n.n in
    let e : n ≡ suc (n - 1) = omega arith in
    let f : n ≡ n + 1 - 1 = omega arith in
    c.inv_round.ensures
    ∙ ap₂ (λ (s k : List ℕ). inv_mix_columns (xored (inv_sub_bytes (inv_shift_rows s)) k)) c.loop-n.invariant (plain_key_at w (c.args.rounds - n))
    ∙ before_more w c.args.s.now c.args.rounds (n - 1) n e ∙ ap (before_rounds w c.args.rounds c.args.s.now) f

pub returns : goal.returns
returns c =
    let w : List ℕ = c.args.keys.now in
    let e : c.loop-n.n - 1 ≡ c.args.rounds - 1 = omega arith in
    c.xor_with-2.ensures
    ∙ ap (λ (s : List ℕ). xored s (round_key w 0))
    (c.inv_sub_bytes.ensures ∙ ap inv_sub_bytes (c.inv_shift_rows.ensures ∙ ap inv_shift_rows (c.loop-n.invariant ∙ ap (before_rounds w c.args.rounds c.args.s.now) e)))
