use Rattle.std.proofs.Common.{◌≡◌, ℕ, suc, List, ◌+◌, ◌-◌, ap, ap₂, ◌∙◌, arith}
use Rattle.aes_core.specs.Cipher.{after_rounds, bytes_of, mix_columns, shift_rows, state_of, sub_bytes, xored}
use Rattle.aes_core.proofs.WordsAt.{key_at, key_words}
use Rattle.aes_core.proofs.RoundSteps.{after_more, after_none}
use Rattle.aes_core.proofs.words.encrypt_words.Goals as goal

pub loop-r-init : goal.loop-r-init
loop-r-init c =
    let w : List ℕ = c.args.keys.now in
    let s : List ℕ = state_of c.args.first in
    c.add_key-w.ensures ∙ ap (xored s) (key_words w 0 (omega arith)) ∙ after_none (bytes_of w) s

pub loop-r-preserved : goal.loop-r-preserved
loop-r-preserved c =
    let w : List ℕ = c.args.keys.now in
    let s : List ℕ = state_of c.args.first in
    let r : ℕ = c.loop-r.r in
    let e : r ≡ suc (r - 1) = omega arith in
    let f : r ≡ r + 1 - 1 = omega arith in
    c.round-next.ensures
    ∙ ap₂ (λ (s k : List ℕ). xored (mix_columns (shift_rows (sub_bytes s))) k) c.loop-r.invariant (key_at w r (omega arith))
    ∙ after_more (bytes_of w) s (r - 1) r e ∙ ap (after_rounds (bytes_of w) s) f

pub returns : goal.returns
returns c =
    let w : List ℕ = c.args.keys.now in
    let s : List ℕ = state_of c.args.first in
    let e : c.loop-r.r - 1 ≡ c.args.rounds - 1 = omega arith in
    c.last_round.ensures
    ∙ ap₂ (λ (s k : List ℕ). xored (shift_rows (sub_bytes s)) k)
    (c.loop-r.invariant ∙ ap (after_rounds (bytes_of w) s) e)
    (key_at w c.args.rounds (omega arith))
